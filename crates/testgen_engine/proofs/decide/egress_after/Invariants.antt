use Rattle.std.proofs.Common.{◌≡◌, drop}
use Rattle.testgen_engine.specs.Decide.{egress_after}
use Rattle.testgen_engine.proofs.decide.egress_after.Given as goal

abbrev pub invariant-loop-statement : goal.invariant-loop-statement
invariant-loop-statement l = egress_after l.egress (drop l.statement-index l.statements) ≡ egress_after 0 l.statements
