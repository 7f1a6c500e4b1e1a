use Rattle.std.proofs.Common.{◌≡◌, ◌+◌, List, subst, sym, drop, take, Contains}
use Rattle.p4_lexer.specs.declared.piece.Piece.{Piece}
use Rattle.p4_lexer.specs.Bytes.{line_feed}
use Rattle.p4_lexer.specs.Lines.{AreFirstLine}
use Rattle.p4_lexer.proofs.LineLemmas.{Reaches, StandsAt, stands_at, slice_bytes, reaches_more, line_is, line_is_only, whole_is_line, whole_is_only_line, not_true}
use Rattle.p4_lexer.proofs.lines.line_pieces.Goals as goal

stands_there : (c : goal.Then-holds_line_feed) → StandsAt c.args.text.now c.loop-at.at c.piece_at-piece.result
stands_there c = stands_at c.args.text.now c.loop-at.at c.piece_at-piece.result c.loop-at-test.true c.piece_at-piece.ensures.begins c.piece_at-piece.ensures.only

passes_there : (c : goal.Then-holds_line_feed) → Contains (take c.piece_at-piece.result.len (drop c.loop-at.at c.args.text.now)) line_feed
passes_there c =
    subst (λ xs. Contains xs line_feed) (slice_bytes c.loop-at.at c.piece_at-piece.result.len (drop c.loop-at.at c.args.text.now)) (c.holds_line_feed.ensures.0 c.if-holds_line_feed.true)

pub returns-then-holds_line_feed-clause-are : goal.returns-then-holds_line_feed-clause-are
returns-then-holds_line_feed-clause-are c =
    subst (AreFirstLine c.args.text.now) (sym c.in_ok-push.ensures.ok) (line_is c.args.text.now c.loop-at.at c.loop-at.pieces c.piece_at-piece.result (stands_there c) (passes_there c) c.loop-at.invariant)

pub returns-then-holds_line_feed-clause-only : goal.returns-then-holds_line_feed-clause-only
returns-then-holds_line_feed-clause-only c =
    subst (λ pieces. (others : List Piece) → AreFirstLine c.args.text.now others → others ≡ pieces) (sym c.in_ok-push.ensures.ok)
    (line_is_only c.args.text.now c.loop-at.at c.loop-at.pieces c.piece_at-piece.result (stands_there c) (passes_there c) c.loop-at.invariant)

pub loop-at-preserved : goal.loop-at-preserved
loop-at-preserved c =
    let text = c.args.text.now in
    let at = c.loop-at.at in
    let p = c.piece_at-piece.result in
    subst (Reaches text (at + p.len)) (sym c.in_ok-push.ensures.ok)
    (reaches_more text at c.loop-at.pieces p (stands_at text at p c.loop-at-test.true c.piece_at-piece.ensures.begins c.piece_at-piece.ensures.only)
    (λ holds. not_true c.holds_line_feed.result c.if-holds_line_feed.false (c.holds_line_feed.ensures.1 (subst (λ xs. Contains xs line_feed) (sym (slice_bytes at p.len (drop at text))) holds)))
    c.loop-at.invariant)

pub returns-clause-are : goal.returns-clause-are
returns-clause-are c = whole_is_line c.args.text.now c.loop-at.at c.loop-at.pieces c.loop-at-test.false c.loop-at.invariant

pub returns-clause-only : goal.returns-clause-only
returns-clause-only c = whole_is_only_line c.args.text.now c.loop-at.at c.loop-at.pieces c.loop-at-test.false c.loop-at.invariant
