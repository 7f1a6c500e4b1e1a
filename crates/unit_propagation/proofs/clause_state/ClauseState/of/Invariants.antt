-- What the literals before the index say.
use Rattle.std.proofs.Common.{take}
use Rattle.unit_propagation.specs.ClauseStates.{IsState}
use Rattle.unit_propagation.proofs.clause_state.ClauseState.of.Given as goal

abbrev pub invariant-loop-l : goal.invariant-loop-l
invariant-loop-l l = IsState l.assignment.trail (take l.l-index l.clause) l.state
