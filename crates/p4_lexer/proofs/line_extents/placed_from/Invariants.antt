use Rattle.std.proofs.Common.{◌≡◌, ◌++◌, drop}
use Rattle.p4_lexer.specs.LineExtents.{placed_from, end_from}
use Rattle.p4_lexer.proofs.line_extents.placed_from.Given as goal

abbrev pub invariant-loop-piece : goal.invariant-loop-piece
invariant-loop-piece l =
    (l.placed ++ placed_from l.at (drop l.piece-index l.pieces) ≡ placed_from l.fn.start l.pieces)
    × (end_from l.at (drop l.piece-index l.pieces) ≡ end_from l.fn.start l.pieces)
