-- Where a token that begins a row with a rank stands next, a derivation that takes that row later can take it
-- now: the two rows of its symbol change places.
use Rattle.std.proofs.Common.{◌≡◌, ◌≢◌, ℕ, ◌+◌, suc, arith, List, [], ◌∷◌, ◌++◌, refl, sym, ap, ◌∙◌, subst, inl, inr, append_assoc}
use Rattle.std.proofs.lemmas.Bool.{cases_eq}
use Rattle.std.specs.List.{AllByRecursion}
use Rattle.ll1_engine.specs.declared.grammar.Row.{Row}
use Rattle.ll1_engine.specs.Table.{IsRow, IsToken}
use Rattle.ll1_engine.specs.Trees.{Trees, End, Leaf, Node, roots, leaves, AreTrees}
use Rattle.ll1_engine.specs.Conditions.{StandsOnlyFirstIn}
use Rattle.ll1_engine.proofs.TreesLemmas.{size, same_row}

-- no symbol of the list is t
abbrev pub Lacks : ℕ → List ℕ → Type 0
Lacks t xs = AllByRecursion (λ y. y ≢ t) xs

-- the token stands in no row behind the first place of row j
pub lacks_elsewhere : (g : List Row) (t j k : ℕ) (r : Row) (before ys : List ℕ) → StandsOnlyFirstIn g t j → IsRow g k r → r.right ≡ before ++ ys → (k ≡ j → before ≢ []) → Lacks t ys
lacks_elsewhere g t j k r before [] once h e apart = tt
lacks_elsewhere g t j k r before (y ∷ ys) once h e apart = (
  λ same. let found = once k r before ys h (e ∙ ap (λ (z : ℕ). before ++ z ∷ ys) same) in apart found.0 found.1,
  lacks_elsewhere g t j k r (before ++ y ∷ []) ys once h (e ∙ sym (append_assoc before (y ∷ []) ys)) (λ i. not_empty before y),
)
  where
    not_empty : (zs : List ℕ) (z : ℕ) → zs ++ z ∷ [] ≢ []
    not_empty [] z h = cc
    not_empty (a ∷ zs) z h = cc

-- trees for the rest of the row with the rank, and trees for the symbols behind it: all nodes and leaves but the token
pub record Moved (g : List Row) (rest xs ts : List ℕ) (n : ℕ) : Type 0 where
  pub front : Trees
  pub back : Trees
  pub front_valid : AreTrees g front
  pub back_valid : AreTrees g back
  pub front_top : roots front ≡ rest
  pub back_top : roots back ≡ xs
  pub bottom : leaves front ++ leaves back ≡ ts
  pub count : suc (size front + size back) ≡ n

joined : (a b c us ts : List ℕ) → a ++ b ≡ us → us ++ c ≡ ts → a ++ (b ++ c) ≡ ts
joined a b c us ts h i = sym (append_assoc a b c) ∙ (ap (λ (xs : List ℕ). xs ++ c) h ∙ i)

module _ (g : List Row) (j e : ℕ) (s q : Row) (t : ℕ) (rest : List ℕ) (row : IsRow g j s) (begins : s.right ≡ t ∷ rest)
    (other : IsRow g e q) (left : q.left ≡ s.left) (empty : q.right ≡ []) (terminal : IsToken g t) (once : StandsOnlyFirstIn g t j) where
  -- the node by the row with the rank begins here
  moved_here : (c f : Trees) (ts : List ℕ) → AreTrees g c → AreTrees g f → roots c ≡ t ∷ rest → leaves c ++ leaves f ≡ t ∷ ts → Moved g rest (s.left ∷ roots f) ts (suc (size c + size f))
  moved_here End f ts v w top l = absurd (cc)
  moved_here (Leaf y c) f ts v w top l =
      record { front = c; back = Node e q End f; front_valid = v; back_valid = (other, sym empty, tt, w); front_top = cc; back_top = ap (λ (x : ℕ). x ∷ roots f) left; bottom = cc; count = omega arith }
  moved_here (Node k r c d) f ts v w top l = absurd (terminal k r v.0 (cc))

  -- another node: the token is below it, or behind it
  moved_past : (k : ℕ) (r : Row) (c f : Trees) (ts ls : List ℕ) → AreTrees g (Node k r c f) → leaves c ≡ ls → ls ++ leaves f ≡ t ∷ ts
      → ((us : List ℕ) → leaves c ≡ t ∷ us → Moved g rest (roots c) us (size c)) → ((us : List ℕ) → leaves f ≡ t ∷ us → Moved g rest (roots f) us (size f)) → Moved g rest (r.left ∷ roots f) ts (suc (size c + size f))
  moved_past k r c f ts [] v ec l in_c in_f =
      let m = in_f ts l in
      record {
        front = m.front;
        back = Node k r c m.back;
        front_valid = m.front_valid;
        back_valid = (v.0, v.1, v.2, m.back_valid);
        front_top = m.front_top;
        back_top = ap (λ (xs : List ℕ). r.left ∷ xs) m.back_top;
        bottom = ap (λ (xs : List ℕ). leaves m.front ++ (xs ++ leaves m.back)) ec ∙ m.bottom;
        count = (let e : suc (size m.front + size m.back) ≡ size f = m.count in omega arith);
      }
  moved_past k r c f ts (u ∷ us) v ec l in_c in_f =
      let same : u ≡ t = cc in
      let rest_of : us ++ leaves f ≡ ts = cc in
      let m = in_c us (cc) in
      record {
        front = m.front;
        back = Node k r m.back f;
        front_valid = m.front_valid;
        back_valid = (v.0, m.back_top ∙ v.1, m.back_valid, v.3);
        front_top = m.front_top;
        back_top = refl;
        bottom = joined (leaves m.front) (leaves m.back) (leaves f) us ts m.bottom rest_of;
        count = (let e : suc (size m.front + size m.back) ≡ size c = m.count in omega arith);
      }

  pub moved : (f : Trees) (ts : List ℕ) → AreTrees g f → Lacks t (roots f) → leaves f ≡ t ∷ ts → Moved g rest (roots f) ts (size f)
  moved End ts v n l = absurd (cc)
  moved (Leaf x f) ts v n l = absurd (n.0 (cc))
  moved (Node k r c f) ts v n l =
      elim (cases_eq k j) [
        | inl same ↦ (
            let one : r ≡ s = same_row g j r s (subst (λ (i : ℕ). IsRow g i r) same v.0) row in
            let top : roots c ≡ t ∷ rest = v.1 ∙ (ap (λ (z : Row). z.right) one ∙ begins) in
            subst (λ (x : ℕ). Moved g rest (x ∷ roots f) ts (suc (size c + size f))) (sym (ap (λ (z : Row). z.left) one)) (moved_here c f ts v.2 v.3 top l))
        | inr apart ↦ moved_past k r c f ts (leaves c) v refl l
            (λ us h. moved c us v.2 (subst (Lacks t) (sym v.1) (lacks_elsewhere g t j k r [] r.right once v.0 refl (λ i. absurd (apart i)))) h)
            (λ us h. moved f us v.3 n.1 h)
      ]
