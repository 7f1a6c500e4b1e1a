-- How many bits a term has, which nodes fit a dag, and what a list of nodes meets that is one.
use Rattle.std.specs.Prelude.{◌≡◌, ◌≢◌, ℕ, zero, suc, ◌+◌, ◌-◌, ◌<◌, ◌≤◌, ⊤, List, Option, Some, None, length, slice_get}
use Rattle.bits_core.specs.declared.number.TheConstants.{MAX_WIDTH}
use Rattle.bits_core.specs.Operator.{shape_of, WidthsFit, result_width}
use Rattle.bits_core.specs.declared.operator.OpShape.TheVariants.{One as OneOperand}
use Rattle.term_dag.specs.declared.node.Term.{Term}
use Rattle.term_dag.specs.declared.node.Node.{Node}
use Rattle.term_dag.specs.declared.node.Node.TheVariants.{Constant, Input, Read, One, Two, Slice, Extend, Choose}

-- a node's width, from those of its operands
abbrev pub node_width : (Term → ℕ) → Node → ℕ
node_width width (Constant c) = c.width
node_width width (Input first w) = w
node_width width (Read read w) = w
node_width width (One op a) = width a
node_width width (Two op a b) = result_width (shape_of op) (width a) (width b)
node_width width (Slice a high low) = high - low + 1
node_width width (Extend a w signed) = w
node_width width (Choose c a b) = width a

abbrev pub width_at : (Term → ℕ) → Option Node → ℕ
width_at width (Some node) = node_width width node
width_at width None = 0

-- by recursion on the terms' numbers, which stop below n
abbrev pub width_below : ℕ → List Node → Term → ℕ
width_below zero nodes t = 0
width_below (suc n) nodes t = width_at (width_below n nodes) (slice_get nodes t.number)

-- the width of a term
abbrev pub width_of : List Node → Term → ℕ
width_of nodes t = width_below (suc t.number) nodes t

-- each operand has a number below n
abbrev pub OperandsBelow : ℕ → Node → Type 0
OperandsBelow n (Constant c) = ⊤
OperandsBelow n (Input first w) = ⊤
OperandsBelow n (Read read w) = ⊤
OperandsBelow n (One op a) = a.number < n
OperandsBelow n (Two op a b) = (a.number < n) × (b.number < n)
OperandsBelow n (Slice a high low) = a.number < n
OperandsBelow n (Extend a w signed) = a.number < n
OperandsBelow n (Choose c a b) = (c.number < n) × (a.number < n) × (b.number < n)

-- the widths of the operands, and those that the node names, are such as the node may have
abbrev pub WidthsAllow : (Term → ℕ) → Node → Type 0
WidthsAllow width (Constant c) = ⊤
WidthsAllow width (Input first w) = (1 ≤ w) × (w ≤ MAX_WIDTH)
WidthsAllow width (Read read w) = (1 ≤ w) × (w ≤ MAX_WIDTH)
WidthsAllow width (One op a) = shape_of op ≡ OneOperand
WidthsAllow width (Two op a b) =
    (shape_of op ≢ OneOperand) × WidthsFit (shape_of op) (width a) (width b)
WidthsAllow width (Slice a high low) = (low ≤ high) × (high < width a)
WidthsAllow width (Extend a w signed) = (1 ≤ w) × (w ≤ MAX_WIDTH)
WidthsAllow width (Choose c a b) = (width c ≡ 1) × (width a ≡ width b)

-- the node's operands are terms of the dag, and its widths are right
pub record Fits (nodes : List Node) (node : Node) : Type 0 where
  pub operands : OperandsBelow (length nodes) node
  pub widths : WidthsAllow (width_of nodes) node

-- each node fits with operands of smaller numbers, and no node has two numbers
pub record IsDag (nodes : List Node) : Type 0 where
  pub ordered : (t : ℕ) (node : Node) → slice_get nodes t ≡ Some node → OperandsBelow t node
  pub fit : (t : ℕ) (node : Node) → slice_get nodes t ≡ Some node → WidthsAllow (width_of nodes) node
  pub distinct : (s t : ℕ) (node : Node) → slice_get nodes s ≡ Some node → slice_get nodes t ≡ Some node → s ≡ t
