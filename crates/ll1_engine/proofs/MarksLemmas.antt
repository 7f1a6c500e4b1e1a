-- Laws of marks: one mark more, one pass after another, and what a set that is closed under the rows has.
use Rattle.std.proofs.Common.{◌≡◌, ℕ, zero, suc, ◌<◌, Bool, true, false, not, ◌||◌, List, [], ◌∷◌, ◌++◌, length, get_or, set, refl, sym, ap, ◌∙◌, subst, inl, inr, ◌⊎◌, arith}
use Rattle.std.specs.Prelude.{IsTrue, ◌↔◌}
use Rattle.std.specs.List.{AllByRecursion}
use Rattle.std.proofs.lemmas.List.{length-set, get_or-set_same, get_or-set_other, set-get_or}
use Rattle.std.proofs.lemmas.Bool.{cases_eq, and_parts, and_from, false≢true}
use Rattle.ll1_engine.specs.declared.grammar.Row.{Row}
use Rattle.ll1_engine.specs.Table.{IsRow}
use Rattle.ll1_engine.specs.Trees.{Trees, End, Leaf, Node, roots, leaves, AreTrees}
use Rattle.ll1_engine.specs.Marks.{marked, Has, unmarked, all_in, Widens, DerivesWithin, AllDerive, ClosedAt, Within}
use Rattle.ll1_engine.proofs.TreesLemmas.{beside, roots_beside, leaves_beside, AreTrees_beside}

-- one mark more, where there was none
unmarked_set_new : (marks : List Bool) (i : ℕ) → i < length marks → get_or marks i false ≡ false → unmarked marks ≡ suc (unmarked (set marks i true))
unmarked_set_new [] i lt e = absurd (omega arith)
unmarked_set_new (true ∷ marks) zero lt e = absurd (cc)
unmarked_set_new (false ∷ marks) zero lt e = refl
unmarked_set_new (true ∷ marks) (suc i) lt e = unmarked_set_new marks i (omega arith) e
unmarked_set_new (false ∷ marks) (suc i) lt e = ap suc (unmarked_set_new marks i (omega arith) e)

pub marked_set : (marks : List Bool) (i x : ℕ) → i < length marks → Has marks x → Has (set marks i true) x
marked_set marks i x lt h =
    elim (cases_eq x i) [
      | inl same ↦ (ap (λ (z : ℕ). get_or (set marks i true) z false) same ∙ get_or-set_same marks i true false lt)
      | inr apart ↦ (get_or-set_other marks i x true false apart ∙ h)
    ]

pub marked_before : (marks : List Bool) (i x : ℕ) → Has (set marks i true) x → (x ≡ i) ⊎ Has marks x
marked_before marks i x h =
    elim (cases_eq x i) [
      | inl same ↦ inl same
      | inr apart ↦ inr (sym (get_or-set_other marks i x true false apart) ∙ h)
    ]

pub Widens_set : (marks : List Bool) (i : ℕ) → i < length marks → Widens marks (set marks i true) (not (get_or marks i false))
Widens_set marks i lt = by_mark (get_or marks i false) refl
  where
    by_mark : (b : Bool) → get_or marks i false ≡ b → Widens marks (set marks i true) (not b)
    by_mark true e =
        let same : set marks i true ≡ marks = ap (λ (z : Bool). set marks i z) (sym e) ∙ set-get_or marks i false in
        record { size = ap length same; grows = λ x h. marked_set marks i x lt h; no_more = (let k : unmarked (set marks i true) ≡ unmarked marks = ap unmarked same in omega arith); fewer = λ f. absurd (false≢true f); same = λ f. same }
    by_mark false e =
        let k : unmarked marks ≡ suc (unmarked (set marks i true)) = unmarked_set_new marks i lt e in
        record { size = length-set marks i true; grows = λ x h. marked_set marks i x lt h; no_more = omega arith; fewer = λ f. (omega arith); same = λ f. absurd (false≢true (sym f)) }

pub Widens_then : (a b c : List Bool) (p q : Bool) → Widens a b p → Widens b c q → Widens a c (p || q)
Widens_then a b c true q v w =
    record { size = w.size ∙ v.size; grows = λ x h. w.grows x (v.grows x h); no_more = (let i = v.no_more in let j = w.no_more in omega (arith, v.no_more, w.no_more)); fewer = λ f. (let i = v.fewer refl in omega (arith, v.fewer refl, w.no_more)); same = λ f. absurd (false≢true (sym f)) }
Widens_then a b c false q v w =
    record { size = w.size ∙ v.size; grows = λ x h. w.grows x (v.grows x h); no_more = omega (arith, v.no_more, w.no_more); fewer = λ f. (let i : unmarked c < unmarked b = w.fewer f in omega (arith, v.no_more)); same = λ f. w.same f ∙ v.same refl }

pub all_append : {X : Type 0} (P : X → Type 0) (xs ys : List X) → AllByRecursion P xs → AllByRecursion P ys → AllByRecursion P (xs ++ ys)
all_append P [] ys a b = b
all_append P (x ∷ xs) ys a b = (a.0, all_append P xs ys a.1 b)

pub all_parts : {X : Type 0} (P : X → Type 0) (xs ys : List X) → AllByRecursion P (xs ++ ys) → AllByRecursion P xs × AllByRecursion P ys
all_parts P [] ys a = (tt, a)
all_parts P (x ∷ xs) ys a = (let p = all_parts P xs ys a.1 in ((a.0, p.0), p.1))

-- where each symbol derives seeds alone, a list of them does
pub derive_list : (g : List Row) (seed marks : List Bool) (xs : List ℕ) → AllDerive g seed marks → IsTrue (all_in (marked marks) xs) → DerivesWithin g seed xs
derive_list g seed marks [] d h = record { trees = End; valid = tt; top = refl; bottom = tt }
derive_list g seed marks (x ∷ xs) d h =
    let both = and_parts (marked marks x) (all_in (marked marks) xs) h in
    let a = d x both.0 in
    let b = derive_list g seed marks xs d both.1 in
    record {
      trees = beside a.trees b.trees;
      valid = AreTrees_beside g a.trees b.trees a.valid b.valid;
      top = roots_beside a.trees b.trees ∙ (ap (λ (zs : List ℕ). zs ++ roots b.trees) a.top ∙ ap (λ (zs : List ℕ). x ∷ zs) b.top);
      bottom = subst (AllByRecursion (Has seed)) (sym (leaves_beside a.trees b.trees)) (all_append (Has seed) (leaves a.trees) (leaves b.trees) a.bottom b.bottom);
    }

-- and so does the left of a row over them
pub derive_row : (g : List Row) (seed : List Bool) (k : ℕ) (r : Row) → IsRow g k r → DerivesWithin g seed r.right → DerivesWithin g seed (r.left ∷ [])
derive_row g seed k r h d =
    record { trees = Node k r d.trees End; valid = (h, d.top, d.valid, tt); top = refl; bottom = subst (AllByRecursion (Has seed)) (sym (Rattle.std.proofs.lemmas.List.append-nil (leaves d.trees))) d.bottom }

pub AllDerive_set : (g : List Row) (seed marks : List Bool) (k : ℕ) (r : Row) → IsRow g k r → IsTrue (all_in (marked marks) r.right) → AllDerive g seed marks → AllDerive g seed (set marks r.left true)
AllDerive_set g seed marks k r h all d = λ x m.
    elim (marked_before marks r.left x m) [
      | inl same ↦ subst (λ (z : ℕ). DerivesWithin g seed (z ∷ [])) (sym same) (derive_row g seed k r h (derive_list g seed marks r.right d all))
      | inr old ↦ d x old
    ]

pub AllDerive_seed : (g : List Row) (seed : List Bool) → AllDerive g seed seed
AllDerive_seed g seed = λ x h. record { trees = Leaf x End; valid = tt; top = refl; bottom = (h, tt) }

-- a closed set has the roots of trees whose leaves it has
pub closed_roots : (g : List Row) (p : ℕ → Bool) → ((k : ℕ) (r : Row) → IsRow g k r → ClosedAt p r) → (f : Trees) → AreTrees g f → AllByRecursion (λ x. IsTrue (p x)) (leaves f) → IsTrue (all_in p (roots f))
closed_roots g p closed End v h = refl
closed_roots g p closed (Leaf x f) v h = and_from (p x) (all_in p (roots f)) h.0 (closed_roots g p closed f v h.1)
closed_roots g p closed (Node k r c f) v h =
    let both = all_parts (λ x. IsTrue (p x)) (leaves c) (leaves f) h in
    and_from (p r.left) (all_in p (roots f)) (closed k r v.0 (subst (λ (zs : List ℕ). IsTrue (all_in p zs)) v.1 (closed_roots g p closed c v.2 both.0))) (closed_roots g p closed f v.3 both.1)

all_weaker : (seed : List Bool) (p : ℕ → Bool) → Within seed p → (xs : List ℕ) → AllByRecursion (Has seed) xs → AllByRecursion (λ x. IsTrue (p x)) xs
all_weaker seed p w [] h = tt
all_weaker seed p w (x ∷ xs) h = (w x h.0, all_weaker seed p w xs h.1)

pub closed_derived : (g : List Row) (seed : List Bool) (p : ℕ → Bool) → Within seed p → ((k : ℕ) (r : Row) → IsRow g k r → ClosedAt p r) → (x : ℕ) → DerivesWithin g seed (x ∷ []) → IsTrue (p x)
closed_derived g seed p w closed x d =
    let h = subst (λ (zs : List ℕ). IsTrue (all_in p zs)) d.top (closed_roots g p closed d.trees d.valid (all_weaker seed p w (leaves d.trees) d.bottom)) in
    (and_parts (p x) true h).0

-- the closure of the seed under the rows: it has the seed and is closed, and it is within each such set
module _ (g : List Row) (seed marks : List Bool) (exact : (x : ℕ) → Has marks x ↔ DerivesWithin g seed (x ∷ [])) where
  pub closure_grows : (x : ℕ) → Has seed x → Has marks x
  closure_grows x h = (exact x).1 (AllDerive_seed g seed x h)

  pub closure_closed : (k : ℕ) (r : Row) (y : ℕ) → IsRow g k r → r.right ≡ y ∷ [] → Has marks y → Has marks r.left
  closure_closed k r y h e m = (exact r.left).1 (derive_row g seed k r h (subst (DerivesWithin g seed) (sym e) ((exact y).0 m)))

  pub closure_least : (p : ℕ → Bool) → ((k : ℕ) (r : Row) → IsRow g k r → ClosedAt p r) → Within seed p → (x : ℕ) → Has marks x → IsTrue (p x)
  closure_least p closed w x h = closed_derived g seed p w closed x ((exact x).0 h)
