-- What a call of `make` tells, in one record.
use Rattle.std.proofs.Common.{◌≡◌, ◌<◌, List, Some, Result, Ok, Err, length, slice_get}
use Rattle.std.specs.Prelude.{IfOk}
use Rattle.bits_core.specs.declared.number.Bits.{Bits}
use Rattle.bits_core.specs.declared.points.Point.{Point}
use Rattle.term_dag.specs.declared.node.Node.{Node}
use Rattle.term_dag.specs.declared.node.Term.{Term}
use Rattle.term_dag.specs.Folding.{IsConstant, IsChosen, HasConstantOperands, HasConstantCondition}
use Rattle.term_dag.specs.Made.{IsMade}
use Rattle.term_dag.specs.Value.{NodeGives, Values}
use Rattle.term_dag.specs.Width.{node_width, width_of}

pub all_made : {E : Type 0} (old new : List Node) (node : Node) (r : Result Term E) → IfOk r (λ t. t.number < length new)
    → IfOk r (λ t. width_of new t ≡ node_width (width_of old) node)
    → IfOk r (λ t. (p : Point) (b : Bits) → NodeGives (Values old p) p node b → Values new p t b)
    → IfOk r (λ t. HasConstantCondition old node → IsChosen old node t)
    → IfOk r (λ t. HasConstantOperands old node → IsConstant new t)
    → IfOk r (λ t. (HasConstantCondition old node → ⊥) → (HasConstantOperands old node → ⊥) → slice_get new t.number ≡ Some node)
    → IfOk r (IsMade old new node)
all_made old new node (Ok t) within width value side constant stands =
    record { within = within; width = width; value = value; side = side; constant = constant; node_stands = stands }
all_made old new node (Err e) within width value side constant stands = tt
