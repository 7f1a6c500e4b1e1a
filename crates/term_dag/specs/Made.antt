-- The term that was made of a node.
use Rattle.std.specs.Prelude.{◌≡◌, ◌<◌, ◌++◌, List, Some, length, slice_get}
use Rattle.bits_core.specs.declared.number.Bits.{Bits}
use Rattle.bits_core.specs.declared.points.Point.{Point}
use Rattle.term_dag.specs.declared.node.Node.{Node}
use Rattle.term_dag.specs.declared.node.Term.{Term}
use Rattle.term_dag.specs.Folding.{IsConstant, IsChosen, HasConstantOperands, HasConstantCondition}
use Rattle.term_dag.specs.Value.{NodeGives, Values}
use Rattle.term_dag.specs.Width.{node_width, width_of}

-- nodes were added behind the old ones
abbrev pub AddsTo : List Node → List Node → Type 0
AddsTo old new = (more : List Node) × (new ≡ old ++ more)

pub record IsMade (old new : List Node) (node : Node) (t : Term) : Type 0 where
  pub within : t.number < length new
  pub width : width_of new t ≡ node_width (width_of old) node
  pub value : (p : Point) (b : Bits) → NodeGives (Values old p) p node b → Values new p t b
  pub side : HasConstantCondition old node → IsChosen old node t
  pub constant : HasConstantOperands old node → IsConstant new t
  pub node_stands : (HasConstantCondition old node → ⊥) → (HasConstantOperands old node → ⊥) → slice_get new t.number ≡ Some node
