use Rattle.std.proofs.Common.{◌-◌, length}
use Rattle.p4_lexer.specs.FaultSteps.{FaultProgress}
use Rattle.p4_lexer.proofs.parts.read_text.Given as goal

abbrev pub invariant-loop-at : goal.invariant-loop-at
invariant-loop-at l = FaultProgress l.text l.at l.place l.scope l.events l.fault

abbrev pub decreases-loop-at : goal.decreases-loop-at
decreases-loop-at l = length l.text - l.at
