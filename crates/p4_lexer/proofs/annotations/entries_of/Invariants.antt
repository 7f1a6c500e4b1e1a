use Rattle.std.proofs.Common.{◌-◌, length}
use Rattle.p4_lexer.proofs.PassLemmas.{Passed}
use Rattle.p4_lexer.proofs.annotations.entries_of.Given as goal

abbrev pub invariant-loop-at : goal.invariant-loop-at
invariant-loop-at l = Passed l.text l.items l.at l.entries

abbrev pub decreases-loop-at : goal.decreases-loop-at
decreases-loop-at l = length l.items - l.at
