-- The bits before the place have their values.
use Rattle.query_engine.proofs.BlankLemmas.{AreSet}
use Rattle.query_engine.proofs.point.set_bits.Given as goal

abbrev pub invariant-loop-place : goal.invariant-loop-place
invariant-loop-place l = AreSet l.vars l.values l.place l.fn.point l.point
