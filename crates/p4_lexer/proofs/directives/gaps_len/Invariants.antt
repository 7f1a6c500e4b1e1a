use Rattle.std.proofs.Common.{◌≡◌, ℕ, ◌<◌, true, get_or}
use Rattle.p4_lexer.specs.declared.extents.PieceAt.{PieceAt}
use Rattle.p4_lexer.specs.Extents.{cut_at}
use Rattle.p4_lexer.specs.DirectiveSteps.{is_gap}
use Rattle.p4_lexer.proofs.directives.gaps_len.Given as goal

abbrev pub invariant-loop-i : goal.invariant-loop-i
invariant-loop-i l = (k : ℕ) (d : PieceAt) → k < l.i → is_gap (cut_at l.text (get_or l.pieces k d)) ≡ true
