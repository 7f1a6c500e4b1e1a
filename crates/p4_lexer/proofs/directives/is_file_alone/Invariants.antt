use Rattle.std.proofs.Common.{◌≡◌, ◌≤◌, length, drop, map}
use Rattle.p4_lexer.specs.Extents.{cut_at}
use Rattle.p4_lexer.specs.DirectiveSteps.{is_file_alone}
use Rattle.p4_lexer.proofs.directives.is_file_alone.Given as goal

abbrev pub invariant-loop-i : goal.invariant-loop-i
invariant-loop-i l =
    (l.done ≤ length l.file)
    × (is_file_alone l.file (map (cut_at l.text) l.pieces) ≡ is_file_alone (drop l.done l.file) (map (cut_at l.text) (drop l.i l.pieces)))
