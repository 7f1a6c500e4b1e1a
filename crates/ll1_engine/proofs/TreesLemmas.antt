-- Lists of trees side by side: what they derive, how they split, and which the ranks allow.
use Rattle.std.proofs.Common.{◌≡◌, ℕ, ◌+◌, suc, arith, List, [], ◌∷◌, ◌++◌, Option, refl, sym, ap, ◌∙◌, subst, append_assoc}
use Rattle.std.proofs.lemmas.Option.{same_Some}
use Rattle.ll1_engine.specs.declared.grammar.Row.{Row}
use Rattle.ll1_engine.specs.Table.{IsRow}
use Rattle.ll1_engine.specs.Trees.{Trees, End, Leaf, Node, roots, leaves, preorder, AreTrees}
use Rattle.ll1_engine.specs.Parse.{first_or, TakesRank, RanksAllow}

-- the trees of both lists
abbrev pub beside : Trees → Trees → Trees
beside End h = h
beside (Leaf x f) h = Leaf x (beside f h)
beside (Node k r c f) h = Node k r c (beside f h)

pub roots_beside : (f h : Trees) → roots (beside f h) ≡ roots f ++ roots h
roots_beside End h = refl
roots_beside (Leaf x f) h = ap (λ (ys : List ℕ). x ∷ ys) (roots_beside f h)
roots_beside (Node k r c f) h = ap (λ (ys : List ℕ). r.left ∷ ys) (roots_beside f h)

pub leaves_beside : (f h : Trees) → leaves (beside f h) ≡ leaves f ++ leaves h
leaves_beside End h = refl
leaves_beside (Leaf x f) h = ap (λ (ys : List ℕ). x ∷ ys) (leaves_beside f h)
leaves_beside (Node k r c f) h = ap (λ (ys : List ℕ). leaves c ++ ys) (leaves_beside f h) ∙ sym (append_assoc (leaves c) (leaves f) (leaves h))

pub preorder_beside : (f h : Trees) → preorder (beside f h) ≡ preorder f ++ preorder h
preorder_beside End h = refl
preorder_beside (Leaf x f) h = preorder_beside f h
preorder_beside (Node k r c f) h = ap (λ (ys : List ℕ). k ∷ (preorder c ++ ys)) (preorder_beside f h) ∙ ap (λ (ys : List ℕ). k ∷ ys) (sym (append_assoc (preorder c) (preorder f) (preorder h)))

pub AreTrees_beside : (g : List Row) (f h : Trees) → AreTrees g f → AreTrees g h → AreTrees g (beside f h)
AreTrees_beside g End h a b = b
AreTrees_beside g (Leaf x f) h a b = AreTrees_beside g f h a b
AreTrees_beside g (Node k r c f) h a b = (a.0, a.1, a.2, AreTrees_beside g f h a.3 b)

pub first_or_append : (xs ys : List ℕ) (next : Option ℕ) → first_or (xs ++ ys) next ≡ first_or xs (first_or ys next)
first_or_append [] ys next = refl
first_or_append (x ∷ xs) ys next = refl

-- what stands before the trees of a node's list, when more trees stand after them
pub next_beside : (cs fs hs : List ℕ) (next : Option ℕ) → first_or (cs ++ (fs ++ hs)) next ≡ first_or (cs ++ fs) (first_or hs next)
next_beside cs fs hs next = ap (λ (ys : List ℕ). first_or ys next) (sym (append_assoc cs fs hs)) ∙ first_or_append (cs ++ fs) hs next

pub RanksAllow_beside : (g : List Row) (f h : Trees) (next : Option ℕ) → RanksAllow g f (first_or (leaves h) next) → RanksAllow g h next → RanksAllow g (beside f h) next
RanksAllow_beside g End h next a b = b
RanksAllow_beside g (Leaf x f) h next a b = RanksAllow_beside g f h next a b
RanksAllow_beside g (Node k r c f) h next a b =
    let e : leaves (beside f h) ≡ leaves f ++ leaves h = leaves_beside f h in (
      subst (λ (n : Option ℕ). TakesRank g k r n) (sym (ap (λ (ys : List ℕ). first_or (leaves c ++ ys) next) e ∙ next_beside (leaves c) (leaves f) (leaves h) next)) a.0,
      subst (λ (n : Option ℕ). RanksAllow g c n) (sym (ap (λ (ys : List ℕ). first_or ys next) e ∙ first_or_append (leaves f) (leaves h) next)) a.1,
      RanksAllow_beside g f h next a.2 b,
    )

pub RanksAllow_parts : (g : List Row) (f h : Trees) (next : Option ℕ) → RanksAllow g (beside f h) next → RanksAllow g f (first_or (leaves h) next) × RanksAllow g h next
RanksAllow_parts g End h next a = (tt, a)
RanksAllow_parts g (Leaf x f) h next a = RanksAllow_parts g f h next a
RanksAllow_parts g (Node k r c f) h next a =
    let e : leaves (beside f h) ≡ leaves f ++ leaves h = leaves_beside f h in
    let rest = RanksAllow_parts g f h next a.2 in (
      (
        subst (λ (n : Option ℕ). TakesRank g k r n) (ap (λ (ys : List ℕ). first_or (leaves c ++ ys) next) e ∙ next_beside (leaves c) (leaves f) (leaves h) next) a.0,
        subst (λ (n : Option ℕ). RanksAllow g c n) (ap (λ (ys : List ℕ). first_or ys next) e ∙ first_or_append (leaves f) (leaves h) next) a.1,
        rest.0,
      ),
      rest.1,
    )

-- trees whose roots are xs and then ys are trees with the roots xs beside trees with the roots ys
pub record Parts (g : List Row) (f : Trees) (xs ys : List ℕ) : Type 0 where
  pub front : Trees
  pub back : Trees
  pub whole : beside front back ≡ f
  pub front_valid : AreTrees g front
  pub back_valid : AreTrees g back
  pub front_top : roots front ≡ xs
  pub back_top : roots back ≡ ys

pub parts : (g : List Row) (xs ys : List ℕ) (f : Trees) → AreTrees g f → roots f ≡ xs ++ ys → Parts g f xs ys
parts g [] ys f v e = record { front = End; back = f; whole = refl; front_valid = tt; back_valid = v; front_top = refl; back_top = e }
parts g (x ∷ xs) ys End v e = absurd (cc)
parts g (x ∷ xs) ys (Leaf y f) v e =
    let p = parts g xs ys f v (cc) in
    record {
      front = Leaf y p.front;
      back = p.back;
      whole = ap (λ (t : Trees). Leaf y t) p.whole;
      front_valid = p.front_valid;
      back_valid = p.back_valid;
      front_top = (let i : y ≡ x = cc in let k : roots p.front ≡ xs = p.front_top in cc);
      back_top = p.back_top;
    }
parts g (x ∷ xs) ys (Node k r c f) v e =
    let p = parts g xs ys f v.3 (cc) in
    record {
      front = Node k r c p.front;
      back = p.back;
      whole = ap (λ (t : Trees). Node k r c t) p.whole;
      front_valid = (v.0, v.1, v.2, p.front_valid);
      back_valid = p.back_valid;
      front_top = (let i : r.left ≡ x = cc in let k : roots p.front ≡ xs = p.front_top in cc);
      back_top = p.back_top;
    }

-- the nodes and leaves of the trees
abbrev pub size : Trees → ℕ
size End = 0
size (Leaf x f) = suc (size f)
size (Node k r c f) = suc (size c + size f)

pub size_beside : (f h : Trees) → size (beside f h) ≡ size f + size h
size_beside End h = omega arith
size_beside (Leaf x f) h = (let e : size (beside f h) ≡ size f + size h = size_beside f h in omega arith)
size_beside (Node k r c f) h = (let e : size (beside f h) ≡ size f + size h = size_beside f h in omega arith)

-- a row is determined by its place
pub same_row : (g : List Row) (k : ℕ) (r s : Row) → IsRow g k r → IsRow g k s → r ≡ s
same_row g k r s a b = same_Some r s (sym a ∙ b)

-- two lists that make the empty list are empty
pub no_parts : (xs ys : List ℕ) → xs ++ ys ≡ [] → (xs ≡ []) × (ys ≡ [])
no_parts [] ys e = (refl, e)
no_parts (x ∷ xs) ys e = absurd (cc)
