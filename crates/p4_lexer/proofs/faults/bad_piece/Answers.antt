use Rattle.std.proofs.Common.{◌++◌, take, drop, get_or, length, length-drop, ap, ◌∙◌, arith}
use Rattle.std.proofs.lemmas.List.{length-take-le}
use Rattle.p4_lexer.specs.declared.piece.Kind.TheVariants.{Blank}
use Rattle.p4_lexer.specs.declared.extents.PieceAt.{PieceAt}
use Rattle.p4_lexer.specs.Places.{place_after}
use Rattle.p4_lexer.proofs.ReadLemmas.{place_within}
use Rattle.p4_lexer.proofs.BadPieceLemmas.{look_on, looked_at_all, at_piece}
use Rattle.p4_lexer.proofs.faults.bad_piece.Goals as goal

abbrev none : PieceAt
none = record { kind = Blank; extent = record { at = 0; len = 0 } }

pub place_behind-here-requires-clause-line : goal.place_behind-here-requires-clause-line
place_behind-here-requires-clause-line c =
    let l = c.loop-piece.invariant in
    let is = c.requires.pieces c.loop-piece.piece-index none c.loop-piece-test.true in
    let p = get_or c.args.pieces.now c.loop-piece.piece-index none in
    let place = place_within c.args.text.now l.at c.loop-piece.here l.within l.placed in
    omega (arith, place.0, is.within, at_piece c.args.text.now c.args.pieces.now c.loop-piece.piece-index none c.loop-piece.here c.loop-piece.best l c.loop-piece-test.true, ap length c.bytes_of.ensures, length-take-le p.extent.len (drop p.extent.at c.args.text.now) (omega (arith, is.within, length-drop p.extent.at c.args.text.now)), c.requires.few)

pub place_behind-here-requires-clause-column : goal.place_behind-here-requires-clause-column
place_behind-here-requires-clause-column c =
    let l = c.loop-piece.invariant in
    let is = c.requires.pieces c.loop-piece.piece-index none c.loop-piece-test.true in
    let p = get_or c.args.pieces.now c.loop-piece.piece-index none in
    let place = place_within c.args.text.now l.at c.loop-piece.here l.within l.placed in
    omega (arith, place.1, is.within, at_piece c.args.text.now c.args.pieces.now c.loop-piece.piece-index none c.loop-piece.here c.loop-piece.best l c.loop-piece-test.true, ap length c.bytes_of.ensures, length-take-le p.extent.len (drop p.extent.at c.args.text.now) (omega (arith, is.within, length-drop p.extent.at c.args.text.now)), c.requires.few)

pub loop-piece-preserved : goal.loop-piece-preserved
loop-piece-preserved c =
    let l = c.loop-piece.invariant in
    let text = c.args.text.now in
    look_on text c.args.pieces.now c.loop-piece.piece-index none c.loop-piece.here c.place_behind-here.result c.loop-piece.best c.with_piece-best.result l c.loop-piece-test.true (c.requires.pieces c.loop-piece.piece-index none c.loop-piece-test.true)
    c.with_piece-best.ensures.good c.with_piece-best.ensures.bad (c.place_behind-here.ensures (take l.at text) l.placed ∙ ap (λ xs. place_after (take l.at text ++ xs)) c.bytes_of.ensures)

pub returns : goal.returns
returns c = looked_at_all c.args.text.now c.args.pieces.now c.loop-piece.piece-index c.loop-piece.here c.loop-piece.best c.loop-piece-test.false c.loop-piece.invariant
