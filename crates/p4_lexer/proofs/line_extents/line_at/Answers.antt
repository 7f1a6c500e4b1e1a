use Rattle.std.proofs.Common.{List, ℕ, drop, ◌∙◌, ap, arith}
use Rattle.p4_lexer.specs.Lines.{AreFirstLine}
use Rattle.p4_lexer.specs.LineExtents.{placed_from, end_from}
use Rattle.p4_lexer.proofs.PartLemmas.{rest_read}
use Rattle.p4_lexer.proofs.LineExtentLemmas.{line_from, line_by, end_within}
use Rattle.p4_lexer.proofs.line_extents.line_at.Goals as goal

pub placed_from-requires : goal.placed_from-requires
placed_from-requires c =
    let line : AreFirstLine (drop c.args.start c.args.text.now) c.in_ok-pieces.pieces = rest_read c.args.text.now c.args.start 0 (λ (xs : List ℕ). AreFirstLine xs c.in_ok-pieces.pieces) c.in_ok-pieces.ensures.are in
    let within = end_within c.args.text.now c.args.start c.in_ok-pieces.pieces c.requires.within line in
    omega (arith, ap (end_from c.args.start) c.as_slice.ensures, within, c.requires.few)

pub returns : goal.returns
returns c =
    let text = c.args.text.now in
    let start = c.args.start in
    let line : AreFirstLine (drop start text) c.in_ok-pieces.pieces = rest_read text start 0 (λ (xs : List ℕ). AreFirstLine xs c.in_ok-pieces.pieces) c.in_ok-pieces.ensures.are in
    line_by text start c.in_ok-line.line.pieces (placed_from start c.in_ok-pieces.pieces) c.in_ok-line.line.end (end_from start c.in_ok-pieces.pieces)
    (c.in_ok-line.ensures.pieces ∙ ap (placed_from start) c.as_slice.ensures) (c.in_ok-line.ensures.end ∙ ap (end_from start) c.as_slice.ensures)
    (line_from text start c.in_ok-pieces.pieces c.requires.within line)
