-- A constant stands for its number, and a choice by a constant for what its side does.
use Rattle.std.proofs.Common.{◌≡◌, ℕ, Bool, true, false, List, Some, refl, sym, ap, subst, ◌∙◌, arith}
use Rattle.std.specs.Prelude.{◌==◌, if◌then◌else◌, Result, Ok, Err, IfOk}
use Rattle.bits_core.specs.declared.number.Bits.{Bits}
use Rattle.bits_core.specs.declared.points.Point.{Point}
use Rattle.term_dag.specs.declared.node.Term.{Term}
use Rattle.term_dag.specs.declared.node.Node.{Node}
use Rattle.term_dag.specs.declared.node.Node.TheVariants.{Constant, Input, Read, One, Two, Slice, Extend, Choose}
use Rattle.term_dag.specs.Folding.{IsConstantOf, IsChosen, TakesSide, HasConstantCondition}
use Rattle.term_dag.specs.Value.{NodeGives, ChooseGives, Values}
use Rattle.term_dag.specs.Width.{node_width, width_of, Fits}

some_same : {X : Type 0} (x y : X) → Some x ≡ Some y → x ≡ y
some_same x y e = grind arith

pub first_where_one : {X : Type 0} (v : ℕ) (a b : X) → v ≡ 1 → a ≡ (if v == 1 then a else b)
first_where_one v a b e = grind arith

pub second_where_not : {X : Type 0} (v : ℕ) (a b : X) → (v ≡ 1 → ⊥) → b ≡ (if v == 1 then a else b)
second_where_not v a b e = grind arith

pub ok_along : {A E : Type 0} (r : Result A E) (P Q : A → Type 0) → ((a : A) → P a → Q a) → IfOk r P → IfOk r Q
ok_along (Ok a) P Q f h = f a h
ok_along (Err e) P Q f h = h

module _ (nodes : List Node) where
  pub constant_value : (p : Point) (t : Term) (x b : Bits) → IsConstantOf nodes t x → Values nodes p t b → b ≡ x
  constant_value p t x b is h =
      subst (λ (n : Node). NodeGives _ p n b) (some_same h.node (Constant x) (sym h.at ∙ is)) h.gives

  one_width : (f : Bool) (a b : Term) → width_of nodes a ≡ width_of nodes b → width_of nodes (if f then a else b) ≡ width_of nodes a
  one_width true a b e = refl
  one_width false a b e = sym e

  pub chosen_width : (node : Node) (side : Term) → Fits nodes node → IsChosen nodes node side → width_of nodes side ≡ node_width (width_of nodes) node
  chosen_width (Choose c a b) side fits h = ap (width_of nodes) h.is ∙ one_width (h.x.value == 1) a b fits.widths.1
  chosen_width (Constant c) side fits h = absurd h
  chosen_width (Input first w) side fits h = absurd h
  chosen_width (Read read w) side fits h = absurd h
  chosen_width (One op a) side fits h = absurd h
  chosen_width (Two op a b) side fits h = absurd h
  chosen_width (Slice a high low) side fits h = absurd h
  chosen_width (Extend a w signed) side fits h = absurd h

  both_stand : (p : Point) (f : Bool) (a d : Term) (x y : Bits) → Values nodes p a x → Values nodes p d y
      → Values nodes p (if f then a else d) (if f then x else y)
  both_stand p true a d x y h k = h
  both_stand p false a d x y h k = k

  side_stands : (p : Point) (c a d side : Term) (b : Bits) → TakesSide nodes c a d side
      → ChooseGives (Values nodes p) c a d b → Values nodes p side b
  side_stands p c a d side b h g =
      let test : g.test ≡ h.x = constant_value p c h.x g.test h.condition g.condition in
      let is : b ≡ (if h.x.value == 1 then g.x else g.y) =
      g.value ∙ ap (λ (n : Bits). if n.value == 1 then g.x else g.y) test in
      subst (λ (t : Term). Values nodes p t b) (sym h.is)
      (subst (λ (n : Bits). Values nodes p (if h.x.value == 1 then a else d) n) (sym is)
      (both_stand p (h.x.value == 1) a d g.x g.y g.first g.second))

  pub chosen_value : (node : Node) (side : Term) → IsChosen nodes node side → (p : Point) (b : Bits)
      → NodeGives (Values nodes p) p node b → Values nodes p side b
  chosen_value (Choose c a d) side h p b g = side_stands p c a d side b h g
  chosen_value (Constant c) side h p b g = absurd h
  chosen_value (Input first w) side h p b g = absurd h
  chosen_value (Read read w) side h p b g = absurd h
  chosen_value (One op a) side h p b g = absurd h
  chosen_value (Two op a b') side h p b g = absurd h
  chosen_value (Slice a high low) side h p b g = absurd h
  chosen_value (Extend a w signed) side h p b g = absurd h

  pub chosen_has_condition : (node : Node) (side : Term) → IsChosen nodes node side → HasConstantCondition nodes node
  chosen_has_condition (Choose c a d) side h = record { x = h.x; is = h.condition }
  chosen_has_condition (Constant c) side h = absurd h
  chosen_has_condition (Input first w) side h = absurd h
  chosen_has_condition (Read read w) side h = absurd h
  chosen_has_condition (One op a) side h = absurd h
  chosen_has_condition (Two op a b) side h = absurd h
  chosen_has_condition (Slice a high low) side h = absurd h
  chosen_has_condition (Extend a w signed) side h = absurd h
