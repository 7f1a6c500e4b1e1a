-- A set of nodes with one more is a dag again, and holds the node at its number.
use Rattle.std.proofs.Common.{rules, ◌≡◌, ℕ, zero, suc, Bool, true, false, ◌||◌, List, [], ◌∷◌, ◌++◌, Some, slice_get, refl, sym, ap, subst, ◌∙◌, arith, if◌then◌else◌, true≢false, ◌<◌, length}
use Rattle.std.specs.List.{list_any}
use Rattle.indexmap.specs.IndexSet.{insert_key}
use Rattle.bits_core.specs.declared.number.Bits.{Bits}
use Rattle.bits_core.specs.declared.points.Point.{Point}
use Rattle.term_dag.specs.declared.node.Term.{Term}
use Rattle.term_dag.specs.declared.node.Node.{Node}
use Rattle.term_dag.specs.Value.{NodeGives, Values}
use Rattle.term_dag.specs.Width.{node_width, width_of, Fits, IsDag}
use Rattle.term_dag.proofs.EqualityLemmas.{are_same, itself}
use Rattle.term_dag.proofs.WidthLemmas.{grown_is_dag, width_of_at, node_width_kept, width_of_kept}
use Rattle.term_dag.proofs.ValueLemmas.{gives_along, value_from, values_kept}

some_same : {X : Type 0} (x y : X) → Some x ≡ Some y → x ≡ y
some_same x y e = grind arith

-- the new list has the old one as a prefix
pub AddsTo : List Node → List Node → Type 0
AddsTo old new = (more : List Node) × (new ≡ old ++ more)

module _ (eq : Node → Node → Bool) (itself : (n : Node) → eq n n ≡ true) where
  absent_at : (node : Node) (nodes : List Node) → list_any (eq node) nodes ≡ false → (t : ℕ) → slice_get nodes t ≡ Some node → ⊥
  absent_at node [] none t at = grind arith
  absent_at node (x ∷ xs) none zero at =
      true≢false (sym (ap (λ (b : Bool). b || list_any (eq node) xs)
      (ap (eq node) (some_same x node at) ∙ itself node)) ∙ none)
  absent_at node (x ∷ xs) none (suc t) at = absent_at node xs (rest (eq node x) (list_any (eq node) xs) none) t at
    where
      rest : (a b : Bool) → (a || b) ≡ false → b ≡ false
      rest true b e = absurd (true≢false e)
      rest false b e = e

  module _ (nodes : List Node) (dag : IsDag nodes) (node : Node) (fits : Fits nodes node) where
    pub inserted_is_dag : IsDag (insert_key eq nodes node)
    inserted_is_dag = by (list_any (eq node) nodes) refl
      where
        by : (b : Bool) → list_any (eq node) nodes ≡ b → IsDag (if b then nodes else nodes ++ node ∷ [])
        by true e = dag
        by false e = grown_is_dag nodes dag node fits (absent_at node nodes e)

    pub inserted_adds : (more : List Node) × (insert_key eq nodes node ≡ nodes ++ more)
    inserted_adds = by (list_any (eq node) nodes)
      where
        by : (b : Bool) → (more : List Node) × ((if b then nodes else nodes ++ node ∷ []) ≡ nodes ++ more)
        by true = ([], search rules)
        by false = (node ∷ [], refl)

-- what the number of a node that was added, or was there, stands for and how wide it is
module _ (nodes more : List Node) (dag : IsDag nodes) (grown : IsDag (nodes ++ more)) (node : Node) (fits : Fits nodes node)
    (t : Term) (at : slice_get (nodes ++ more) t.number ≡ Some node) where
  pub added_width : width_of (nodes ++ more) t ≡ node_width (width_of nodes) node
  added_width = width_of_at (nodes ++ more) grown t node at ∙ node_width_kept nodes dag more node fits.operands

  pub added_value : (p : Point) (b : Bits) → NodeGives (Values nodes p) p node b → Values (nodes ++ more) p t b
  added_value p b h =
      value_from (nodes ++ more) grown p t node b at
      (gives_along (Values nodes p) (Values (nodes ++ more) p) _
      (λ u x k s. values_kept nodes dag p more u x s) p node b fits.operands h)

-- the same where the list is what inserting the node makes
module _ (nodes new : List Node) (dag : IsDag nodes) (node : Node) (fits : Fits nodes node)
    (is : new ≡ insert_key are_same nodes node) where
  pub new_is_dag : IsDag new
  new_is_dag = subst IsDag (sym is) (inserted_is_dag are_same itself nodes dag node fits)

  module _ (t : Term) (at : slice_get new t.number ≡ Some node) where
    more : (more : List Node) × (insert_key are_same nodes node ≡ nodes ++ more)
    more = inserted_adds are_same itself nodes dag node fits

    pub new_width : width_of new t ≡ node_width (width_of nodes) node
    new_width =
        let e : new ≡ nodes ++ more.0 = is ∙ more.1 in
        subst (λ (l : List Node). width_of l t ≡ node_width (width_of nodes) node) (sym e)
        (added_width nodes more.0 dag (subst IsDag e new_is_dag) node fits t
        (subst (λ (l : List Node). slice_get l t.number ≡ Some node) e at))

    pub new_value : (p : Point) (b : Bits) → NodeGives (Values nodes p) p node b → Values new p t b
    new_value p b h =
        let e : new ≡ nodes ++ more.0 = is ∙ more.1 in
        subst (λ (l : List Node). Values l p t b) (sym e)
        (added_value nodes more.0 dag (subst IsDag e new_is_dag) node fits t
        (subst (λ (l : List Node). slice_get l t.number ≡ Some node) e at) p b h)

grows : (xs ys : List Node) (n : ℕ) → n < length xs → n < length (xs ++ ys)
grows [] ys n l = absurd (omega arith)
grows (x ∷ xs) ys zero l = omega arith
grows (x ∷ xs) ys (suc n) l = omega (arith, grows xs ys n (omega arith))

-- an older term is one of the new list, and as wide
pub kept_older : (old new : List Node) → IsDag old → ((more : List Node) × (new ≡ old ++ more)) → (t : Term) → t.number < length old
    → (t.number < length new) × (width_of new t ≡ width_of old t)
kept_older old new dag k t l = (
  subst (λ (x : List Node). t.number < length x) (sym k.1) (grows old k.0 t.number l),
  ap (λ (x : List Node). width_of x t) k.1 ∙ width_of_kept old dag k.0 t l,
)
