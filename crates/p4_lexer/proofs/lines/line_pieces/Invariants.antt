use Rattle.std.proofs.Common.{◌-◌, length}
use Rattle.p4_lexer.proofs.LineLemmas.{Reaches}
use Rattle.p4_lexer.proofs.lines.line_pieces.Given as goal

abbrev pub invariant-loop-at : goal.invariant-loop-at
invariant-loop-at l = Reaches l.text l.at l.pieces

abbrev pub decreases-loop-at : goal.decreases-loop-at
decreases-loop-at l = length l.text - l.at
