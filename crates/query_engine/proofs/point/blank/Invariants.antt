-- The point has the variables so far.
use Rattle.query_engine.specs.Blank.{IsBlank}
use Rattle.query_engine.proofs.BlankLemmas.{IsAmong}
use Rattle.query_engine.proofs.point.blank.Given as goal

abbrev pub invariant-loop-var : goal.invariant-loop-var
invariant-loop-var l = IsBlank (IsAmong l.vars l.var-index) l.point
