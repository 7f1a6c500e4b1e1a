-- Widths go by the operands, and stay when nodes are added.
use Rattle.std.proofs.Common.{◌≡◌, ℕ, zero, suc, ◌<◌, ◌≤◌, inl, inr, List, [], ◌∷◌, ◌++◌, Option, Some, None, length, slice_get, refl, sym, ap, subst, ◌∙◌, arith}
use Rattle.std.proofs.lemmas.Option.{slice_get_within}
use Rattle.bits_core.specs.Operator.{shape_of, WidthsFit, result_width}
use Rattle.term_dag.specs.declared.node.Term.{Term}
use Rattle.term_dag.specs.declared.node.Node.{Node}
use Rattle.term_dag.specs.declared.node.Node.TheVariants.{Constant, Input, Read, One, Two, Slice, Extend, Choose}
use Rattle.term_dag.specs.Width.{node_width, width_at, width_below, width_of, OperandsBelow, WidthsAllow, Fits, IsDag}
use Rattle.term_dag.proofs.NodeListLemmas.{slice_get_append, before_or_last}

some_same : {X : Type 0} (x y : X) → Some x ≡ Some y → x ≡ y
some_same x y e = grind arith

module _ (f g : Term → ℕ) (n : ℕ) (same : (t : Term) → t.number < n → f t ≡ g t) where
  pub node_width_same : (node : Node) → OperandsBelow n node → node_width f node ≡ node_width g node
  node_width_same (Constant c) o = refl
  node_width_same (Input first w) o = refl
  node_width_same (Read read w) o = refl
  node_width_same (One op a) o = same a o
  node_width_same (Two op a b) o = λ i. result_width (shape_of op) (same a o.0 i) (same b o.1 i)
  node_width_same (Slice a high low) o = refl
  node_width_same (Extend a w signed) o = refl
  node_width_same (Choose c a b) o = same a o.1

  pub widths_allow_same : (node : Node) → OperandsBelow n node → WidthsAllow f node → WidthsAllow g node
  widths_allow_same (Constant c) o h = h
  widths_allow_same (Input first w) o h = h
  widths_allow_same (Read read w) o h = h
  widths_allow_same (One op a) o h = h
  widths_allow_same (Two op a b) o h = (
    h.0,
    subst (λ (x : ℕ). WidthsFit (shape_of op) x (g b)) (same a o.0)
        (subst (λ (y : ℕ). WidthsFit (shape_of op) (f a) y) (same b o.1) h.1),
  )
  widths_allow_same (Slice a high low) o h = (h.0, subst (λ (w : ℕ). high < w) (same a o) h.1)
  widths_allow_same (Extend a w signed) o h = h
  widths_allow_same (Choose c a b) o h = (sym (same c o.0) ∙ h.0, sym (same a o.1) ∙ h.1 ∙ same b o.2)

  width_at_same : (o : Option Node) → ((node : Node) → o ≡ Some node → OperandsBelow n node) → width_at f o ≡ width_at g o
  width_at_same None below = refl
  width_at_same (Some node) below = node_width_same node (below node refl)

pub operands_within : (n m : ℕ) → n ≤ m → (node : Node) → OperandsBelow n node → OperandsBelow m node
operands_within n m l (Constant c) o = o
operands_within n m l (Input first w) o = o
operands_within n m l (Read read w) o = o
operands_within n m l (One op a) o = omega arith
operands_within n m l (Two op a b) o = (omega (arith, o.0), omega (arith, o.1))
operands_within n m l (Slice a high low) o = omega arith
operands_within n m l (Extend a w signed) o = omega arith
operands_within n m l (Choose c a b) o = (omega (arith, o.0), omega (arith, o.1), omega (arith, o.2))

module _ (nodes : List Node) (dag : IsDag nodes) where
  -- past the term's number the recursion gives one width
  pub width_enough : (n m : ℕ) (t : Term) → t.number < n → t.number < m → width_below n nodes t ≡ width_below m nodes t
  width_enough zero m t p q = absurd (omega arith)
  width_enough (suc n) zero t p q = absurd (omega arith)
  width_enough (suc n) (suc m) t p q =
      width_at_same (width_below n nodes) (width_below m nodes) t.number
      (λ u l. width_enough n m u (omega arith) (omega arith))
      (slice_get nodes t.number) (dag.ordered t.number)

  pub width_of_at : (t : Term) (node : Node) → slice_get nodes t.number ≡ Some node → width_of nodes t ≡ node_width (width_of nodes) node
  width_of_at t node at =
      ap (width_at (width_below t.number nodes)) at
      ∙ node_width_same (width_below t.number nodes) (width_of nodes) t.number
      (λ u l. width_enough t.number (suc u.number) u l (omega arith)) node (dag.ordered t.number node at)

  module _ (more : List Node) where
    width_below_kept : (n : ℕ) (t : Term) → t.number < length nodes → width_below n (nodes ++ more) t ≡ width_below n nodes t
    width_below_kept zero t l = refl
    width_below_kept (suc n) t l =
        ap (width_at (width_below n (nodes ++ more))) (slice_get_append nodes more t.number l)
        ∙ width_at_same (width_below n (nodes ++ more)) (width_below n nodes) t.number
        (λ u k. width_below_kept n u (omega arith)) (slice_get nodes t.number) (dag.ordered t.number)

    -- a term keeps its width when nodes are added
    pub width_of_kept : (t : Term) → t.number < length nodes → width_of (nodes ++ more) t ≡ width_of nodes t
    width_of_kept t l = width_below_kept (suc t.number) t l

    pub widths_allow_kept : (n : ℕ) → n ≤ length nodes → (node : Node) → OperandsBelow n node
        → WidthsAllow (width_of nodes) node → WidthsAllow (width_of (nodes ++ more)) node
    widths_allow_kept n within node below h =
        widths_allow_same (width_of nodes) (width_of (nodes ++ more)) n
        (λ u l. sym (width_of_kept u (omega arith))) node below h

    pub node_width_kept : (node : Node) → OperandsBelow (length nodes) node
        → node_width (width_of (nodes ++ more)) node ≡ node_width (width_of nodes) node
    node_width_kept node below =
        node_width_same (width_of (nodes ++ more)) (width_of nodes) (length nodes) width_of_kept node below

  module _ (new : Node) (fits : Fits nodes new) (absent : (t : ℕ) → slice_get nodes t ≡ Some new → ⊥) where
    -- a node that fits and is not there makes a dag again
    pub grown_is_dag : IsDag (nodes ++ new ∷ [])
    grown_is_dag = record { ordered = ordered; fit = fit; distinct = distinct }
      where
        ordered : (t : ℕ) (node : Node) → slice_get (nodes ++ new ∷ []) t ≡ Some node → OperandsBelow t node
        ordered t node at =
            elim (before_or_last nodes new node t at) [
              | inl h ↦ dag.ordered t node h
              | inr h ↦ subst (λ (x : Node). OperandsBelow t x) (some_same new node h.1)
                  (subst (λ (n : ℕ). OperandsBelow n new) (sym h.0) fits.operands)
            ]

        fit : (t : ℕ) (node : Node) → slice_get (nodes ++ new ∷ []) t ≡ Some node → WidthsAllow (width_of (nodes ++ new ∷ [])) node
        fit t node at =
            elim (before_or_last nodes new node t at) [
              | inl h ↦ widths_allow_kept (new ∷ []) t (omega (arith, slice_get_within nodes t node h)) node (dag.ordered t node h) (dag.fit t node h)
              | inr h ↦ subst (λ (x : Node). WidthsAllow (width_of (nodes ++ new ∷ [])) x) (some_same new node h.1)
                  (widths_allow_kept (new ∷ []) (length nodes) (omega arith) new fits.operands fits.widths)
            ]

        distinct : (s t : ℕ) (node : Node) → slice_get (nodes ++ new ∷ []) s ≡ Some node → slice_get (nodes ++ new ∷ []) t ≡ Some node → s ≡ t
        distinct s t node p q =
            elim (before_or_last nodes new node s p) [
              | inl h ↦ elim (before_or_last nodes new node t q) [
                | inl k ↦ dag.distinct s t node h k
                | inr k ↦ absurd (absent s (h ∙ sym k.1))
              ]
              | inr h ↦ elim (before_or_last nodes new node t q) [
                | inl k ↦ absurd (absent t (k ∙ sym h.1))
                | inr k ↦ h.0 ∙ sym k.0
              ]
            ]
