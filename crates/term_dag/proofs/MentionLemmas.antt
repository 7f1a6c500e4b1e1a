-- The parts of a term are those of its node, stay when nodes are added, and are no more after folding.
use Rattle.std.proofs.Common.{◌≡◌, ℕ, ◌<◌, ◌⊎◌, inl, inr, Bool, true, false, List, ◌++◌, Option, Some, None, length, slice_get, refl, sym, ap, subst, ◌∙◌, arith}
use Rattle.std.specs.Prelude.{◌==◌, if◌then◌else◌}
use Rattle.std.proofs.lemmas.Option.{slice_get_within}
use Rattle.bits_core.specs.declared.number.Bits.{Bits}
use Rattle.term_dag.specs.declared.node.Term.{Term}
use Rattle.term_dag.specs.declared.node.Node.{Node}
use Rattle.term_dag.specs.declared.node.Node.TheVariants.{Constant, Input, Read, One, Two, Slice, Extend, Choose}
use Rattle.term_dag.specs.Folding.{IsConstant, IsChosen, HasConstantOperands, HasConstantCondition}
use Rattle.term_dag.specs.Mention.{IsOperand, IsPartOf}
use Rattle.term_dag.specs.Mention.IsPartOf.{own, of_operand}
use Rattle.term_dag.specs.Width.{OperandsBelow, IsDag}
use Rattle.term_dag.proofs.NodeListLemmas.{slice_get_append}

some_same : {X : Type 0} (x y : X) → Some x ≡ Some y → x ≡ y
some_same x y e = grind arith

pub operand_below : (n : ℕ) (node : Node) (a : Term) → OperandsBelow n node → IsOperand node a → a.number < n
operand_below n (Constant c) a o is = absurd is
operand_below n (Input first w) a o is = absurd is
operand_below n (Read read w) a o is = absurd is
operand_below n (One op x) a o is = subst (λ (t : Term). t.number < n) (sym is) o
operand_below n (Two op x y) a o (inl is) = subst (λ (t : Term). t.number < n) (sym is) o.0
operand_below n (Two op x y) a o (inr is) = subst (λ (t : Term). t.number < n) (sym is) o.1
operand_below n (Slice x high low) a o is = subst (λ (t : Term). t.number < n) (sym is) o
operand_below n (Extend x w signed) a o is = subst (λ (t : Term). t.number < n) (sym is) o
operand_below n (Choose c x y) a o (inl is) = subst (λ (t : Term). t.number < n) (sym is) o.0
operand_below n (Choose c x y) a o (inr (inl is)) = subst (λ (t : Term). t.number < n) (sym is) o.1
operand_below n (Choose c x y) a o (inr (inr is)) = subst (λ (t : Term). t.number < n) (sym is) o.2

module _ (nodes : List Node) (part : Node) where
  pub parts_to : {t : Term} (node : Node) → slice_get nodes t.number ≡ Some node → IsPartOf nodes part t
      → (node ≡ part) ⊎ ((a : Term) × IsOperand node a × IsPartOf nodes part a)
  parts_to node at (own t is) = inl (some_same node part (sym at ∙ is))
  parts_to node at (of_operand t a other is operand h) =
      let same : other ≡ node = some_same other node (sym is ∙ at) in
      inr (a, subst (λ (n : Node). IsOperand n a) same operand, h)

  pub parts_from : (t : Term) (node : Node) → slice_get nodes t.number ≡ Some node
      → (node ≡ part) ⊎ ((a : Term) × IsOperand node a × IsPartOf nodes part a) → IsPartOf nodes part t
  parts_from t node at (inl is) = own t (at ∙ ap Some is)
  parts_from t node at (inr h) = of_operand t h.0 node at h.1 h.2

module _ (nodes : List Node) (part : Node) (more : List Node) where
  grown_at : (t : Term) (node : Node) → slice_get nodes t.number ≡ Some node → slice_get (nodes ++ more) t.number ≡ Some node
  grown_at t node at = slice_get_append nodes more t.number (slice_get_within nodes t.number node at) ∙ at

  pub parts_kept : {t : Term} → IsPartOf nodes part t → IsPartOf (nodes ++ more) part t
  parts_kept (own t at) = own t (grown_at t part at)
  parts_kept (of_operand t a node at is h) = of_operand t a node (grown_at t node at) is (parts_kept h)

  pub parts_were : IsDag nodes → {t : Term} → t.number < length nodes → IsPartOf (nodes ++ more) part t → IsPartOf nodes part t
  parts_were dag l (own t at) = own t (sym (slice_get_append nodes more t.number l) ∙ at)
  parts_were dag l (of_operand t a node at is h) =
      let here : slice_get nodes t.number ≡ Some node = sym (slice_get_append nodes more t.number l) ∙ at in
      let below : a.number < t.number = operand_below t.number node a (dag.ordered t.number node here) is in
      of_operand t a node here is (parts_were dag (omega arith) h)

-- ---- folding

constant_part : (nodes : List Node) (part : Node) (t : Term) (x : Bits) → slice_get nodes t.number ≡ Some (Constant x)
    → IsPartOf nodes part t → Constant x ≡ part
constant_part nodes part t x at h =
    elim (parts_to nodes part (Constant x) at h) [
      | inl is ↦ is
      | inr more ↦ absurd more.1
    ]

is_constant_or_not : (nodes : List Node) (t : Term) → IsConstant nodes t ⊎ (IsConstant nodes t → ⊥)
is_constant_or_not nodes t = by (slice_get nodes t.number) refl
  where
    other : (node : Node) → ((x : Bits) → node ≡ Constant x → ⊥) → slice_get nodes t.number ≡ Some node → IsConstant nodes t → ⊥
    other node never at h = never h.x (some_same node (Constant h.x) (sym at ∙ h.is))

    by : (o : Option Node) → slice_get nodes t.number ≡ o → IsConstant nodes t ⊎ (IsConstant nodes t → ⊥)
    by None at = inr (λ h. grind arith)
    by (Some (Constant x)) at = inl record { x = x; is = at }
    by (Some (Input first w)) at = inr (λ h. grind arith)
    by (Some (Read read w)) at = inr (λ h. grind arith)
    by (Some (One op a)) at = inr (λ h. grind arith)
    by (Some (Two op a b)) at = inr (λ h. grind arith)
    by (Some (Slice a high low)) at = inr (λ h. grind arith)
    by (Some (Extend a w signed)) at = inr (λ h. grind arith)
    by (Some (Choose c a b)) at = inr (λ h. grind arith)

both_or_not : {A B : Type 0} → A ⊎ (A → ⊥) → B ⊎ (B → ⊥) → (A × B) ⊎ (A × B → ⊥)
both_or_not (inl a) (inl b) = inl (a, b)
both_or_not (inl a) (inr never) = inr (λ h. never h.1)
both_or_not (inr never) d = inr (λ h. never h.0)

constant_operands_or_not : (nodes : List Node) (node : Node) → HasConstantOperands nodes node ⊎ (HasConstantOperands nodes node → ⊥)
constant_operands_or_not nodes (Constant c) = inr (λ h. h)
constant_operands_or_not nodes (Input first w) = inr (λ h. h)
constant_operands_or_not nodes (Read read w) = inr (λ h. h)
constant_operands_or_not nodes (One op a) = is_constant_or_not nodes a
constant_operands_or_not nodes (Two op a b) = both_or_not (is_constant_or_not nodes a) (is_constant_or_not nodes b)
constant_operands_or_not nodes (Slice a high low) = is_constant_or_not nodes a
constant_operands_or_not nodes (Extend a w signed) = is_constant_or_not nodes a
constant_operands_or_not nodes (Choose c a b) = inr (λ h. h)

constant_condition_or_not : (nodes : List Node) (node : Node) → HasConstantCondition nodes node ⊎ (HasConstantCondition nodes node → ⊥)
constant_condition_or_not nodes (Constant c) = inr (λ h. h)
constant_condition_or_not nodes (Input first w) = inr (λ h. h)
constant_condition_or_not nodes (Read read w) = inr (λ h. h)
constant_condition_or_not nodes (One op a) = inr (λ h. h)
constant_condition_or_not nodes (Two op a b) = inr (λ h. h)
constant_condition_or_not nodes (Slice a high low) = inr (λ h. h)
constant_condition_or_not nodes (Extend a w signed) = inr (λ h. h)
constant_condition_or_not nodes (Choose c a b) = is_constant_or_not nodes c

one_side : (test : Bool) (a b side : Term) → side ≡ (if test then a else b) → (side ≡ a) ⊎ (side ≡ b)
one_side true a b side is = inl is
one_side false a b side is = inr is

chosen_is_operand : (nodes : List Node) (node : Node) (side : Term) → IsChosen nodes node side → IsOperand node side
chosen_is_operand nodes (Constant c) side h = h
chosen_is_operand nodes (Input first w) side h = h
chosen_is_operand nodes (Read read w) side h = absurd h
chosen_is_operand nodes (One op a) side h = absurd h
chosen_is_operand nodes (Two op a b) side h = absurd h
chosen_is_operand nodes (Slice a high low) side h = absurd h
chosen_is_operand nodes (Extend a w signed) side h = absurd h
chosen_is_operand nodes (Choose c a b) side h = inr (one_side (h.x.value == 1) a b side h.is)

-- the term that was made of a node has no part but constants that the node has not
module _ (old more : List Node) (dag : IsDag old) (node : Node) (below : OperandsBelow (length old) node) (r : Term)
    (side : HasConstantCondition old node → IsChosen old node r)
    (constant : HasConstantOperands old node → IsConstant (old ++ more) r)
    (otherwise : (HasConstantCondition old node → ⊥) → (HasConstantOperands old node → ⊥) → slice_get (old ++ more) r.number ≡ Some node)
    (part : Node) (proper : (x : Bits) → Constant x ≡ part → ⊥) where
  of_old : (a : Term) → IsOperand node a → IsPartOf (old ++ more) part a
      → (node ≡ part) ⊎ ((a : Term) × IsOperand node a × IsPartOf old part a)
  of_old a is h = inr (a, is, parts_were old part more dag (operand_below (length old) node a below is) h)

  pub made_parts : IsPartOf (old ++ more) part r → (node ≡ part) ⊎ ((a : Term) × IsOperand node a × IsPartOf old part a)
  made_parts h =
      elim (constant_condition_or_not old node) [
        | inl chosen ↦ of_old r (chosen_is_operand old node r (side chosen)) h
        | inr never ↦ elim (constant_operands_or_not old node) [
          | inl folded ↦ absurd (proper (constant folded).x (constant_part (old ++ more) part r (constant folded).x (constant folded).is h))
          | inr not ↦ elim (parts_to (old ++ more) part node (otherwise never not) h) [
            | inl is ↦ inl is
            | inr k ↦ of_old k.0 k.1 k.2
          ]
        ]
      ]
