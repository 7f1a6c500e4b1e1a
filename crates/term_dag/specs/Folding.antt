-- Which nodes are not made, since what they give is known.
use Rattle.std.specs.Prelude.{◌≡◌, ◌==◌, List, Some, slice_get, if◌then◌else◌}
use Rattle.bits_core.specs.declared.number.Bits.{Bits}
use Rattle.term_dag.specs.declared.node.Term.{Term}
use Rattle.term_dag.specs.declared.node.Node.{Node}
use Rattle.term_dag.specs.declared.node.Node.TheVariants.{Constant, Input, Read, One, Two, Slice, Extend, Choose}

-- the term's node is this constant
abbrev pub IsConstantOf : List Node → Term → Bits → Type 0
IsConstantOf nodes t x = slice_get nodes t.number ≡ Some (Constant x)

-- the term's node is a constant
pub record IsConstant (nodes : List Node) (t : Term) : Type 0 where
  pub x : Bits
  pub is : IsConstantOf nodes t x

-- the operands of an operator, a slice or an extension are constants
abbrev pub HasConstantOperands : List Node → Node → Type 0
HasConstantOperands nodes (Constant c) = ⊥
HasConstantOperands nodes (Input first w) = ⊥
HasConstantOperands nodes (Read read w) = ⊥
HasConstantOperands nodes (One op a) = IsConstant nodes a
HasConstantOperands nodes (Two op a b) = IsConstant nodes a × IsConstant nodes b
HasConstantOperands nodes (Slice a high low) = IsConstant nodes a
HasConstantOperands nodes (Extend a w signed) = IsConstant nodes a
HasConstantOperands nodes (Choose c a b) = ⊥

-- what a choice by a constant takes
pub record TakesSide (nodes : List Node) (c a b side : Term) : Type 0 where
  pub x : Bits
  pub condition : IsConstantOf nodes c x
  pub is : side ≡ (if x.value == 1 then a else b)

-- the node is a choice by a constant, and this is the side that it takes
abbrev pub IsChosen : List Node → Node → Term → Type 0
IsChosen nodes (Constant c) side = ⊥
IsChosen nodes (Input first w) side = ⊥
IsChosen nodes (Read read w) side = ⊥
IsChosen nodes (One op a) side = ⊥
IsChosen nodes (Two op a b) side = ⊥
IsChosen nodes (Slice a high low) side = ⊥
IsChosen nodes (Extend a w signed) side = ⊥
IsChosen nodes (Choose c a b) side = TakesSide nodes c a b side

-- the condition of a choice is a constant
abbrev pub HasConstantCondition : List Node → Node → Type 0
HasConstantCondition nodes (Constant c) = ⊥
HasConstantCondition nodes (Input first w) = ⊥
HasConstantCondition nodes (Read read w) = ⊥
HasConstantCondition nodes (One op a) = ⊥
HasConstantCondition nodes (Two op a b) = ⊥
HasConstantCondition nodes (Slice a high low) = ⊥
HasConstantCondition nodes (Extend a w signed) = ⊥
HasConstantCondition nodes (Choose c a b) = IsConstant nodes c
