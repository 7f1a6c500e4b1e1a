use Rattle.std.proofs.Common.{◌≡◌, ◌+◌, ◌++◌, ◌∷◌, [], drop, map}
use Rattle.proof_stream.specs.Answers.{read_pieces}
use Rattle.proof_stream.specs.Drafts.{read_from}
use Rattle.proof_stream.proofs.reading.read_pieces.Given as goal

abbrev pub invariant-loop-piece : goal.invariant-loop-piece
invariant-loop-piece l =
    (read_from l.number l.old (map (λ piece. piece.now) (drop l.piece-index l.pieces) ++ l.last ∷ []) ≡ read_pieces (map (λ piece. piece.now) l.pieces) l.last)
    × (l.number ≡ l.piece-index + 1)
