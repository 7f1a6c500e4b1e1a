use Rattle.std.proofs.Common.{◌+◌, drop, get_or, arith}
use Rattle.p4_lexer.specs.declared.piece.Kind.TheVariants.{Blank}
use Rattle.p4_lexer.specs.declared.piece.Piece.{Piece}
use Rattle.p4_lexer.specs.LineExtents.{end_from}
use Rattle.p4_lexer.proofs.LineExtentLemmas.{from_end, end_more}
use Rattle.p4_lexer.proofs.line_extents.placed_from.Goals as goal

abbrev none : Piece
none = record { kind = Blank; len = 0 }

pub overflow_add-at : goal.overflow_add-at
overflow_add-at c =
    let more = end_more c.loop-piece.at c.loop-piece.piece-index (end_from c.args.start c.args.pieces.now) c.args.pieces.now none c.loop-piece-test.true c.loop-piece.invariant.1 in
    omega (arith, more, from_end (c.loop-piece.at + (get_or c.args.pieces.now c.loop-piece.piece-index none).len) (drop (c.loop-piece.piece-index + 1) c.args.pieces.now), c.requires)
