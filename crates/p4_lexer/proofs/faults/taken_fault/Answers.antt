use Rattle.p4_lexer.specs.BadPieces.{HasBadAt}
use Rattle.p4_lexer.specs.PartFaults.{IsBadWhereTaken}
use Rattle.p4_lexer.proofs.FirstFaultLemmas.{first_same, first_from}
use Rattle.p4_lexer.proofs.faults.taken_fault.Goals as goal

pub returns-then-taken : goal.returns-then-taken
returns-then-taken c =
    let bad = HasBadAt c.args.text.now c.args.pieces.now in
    first_same bad (IsBadWhereTaken c.args.text.now c.args.pieces.now c.args.taken) c.bad_piece.result (λ f h. (c.if-taken.true, h)) (λ f h. h.1) (first_from bad c.bad_piece.result c.bad_piece.ensures)
