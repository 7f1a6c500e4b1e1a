use Rattle.p4_lexer.proofs.BeginsLemmas.{begins_text, only}
use Rattle.p4_lexer.proofs.pieces.piece_at.Goals as goal

pub returns-clause-begins : goal.returns-clause-begins
returns-clause-begins c = begins_text c.args.text.now c.piece_of.result c.requires c.piece_of.ensures.value c.piece_of.ensures.within

pub returns-clause-only : goal.returns-clause-only
returns-clause-only c =
    only c.args.text.now c.piece_of.result c.piece_of.ensures.value (begins_text c.args.text.now c.piece_of.result c.requires c.piece_of.ensures.value c.piece_of.ensures.within)
