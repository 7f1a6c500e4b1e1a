use Rattle.p4_lexer.proofs.BadPieceLemmas.{Looked}
use Rattle.p4_lexer.proofs.faults.bad_piece.Given as goal

abbrev pub invariant-loop-piece : goal.invariant-loop-piece
invariant-loop-piece l = Looked l.text l.pieces l.piece-index l.here l.best
