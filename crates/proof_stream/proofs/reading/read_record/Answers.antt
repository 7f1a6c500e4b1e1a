use denote.Ref.{Bor}
use Rattle.std.proofs.Common.{ℕ, [], List, map, ap, ◌∙◌, arith}
use Rattle.proof_stream.proofs.ReadLemmas.{given, front_few, never_empty, found, fault, only}
use Rattle.proof_stream.proofs.reading.read_record.Goals as goal

pub read_pieces-requires : goal.read_pieces-requires
read_pieces-requires c =
    let few = front_few (λ (piece : Bor (List ℕ)). piece.now) c.args.text.now c.as_slice.result.now (ap (map (λ (piece : Bor (List ℕ)). piece.now)) c.as_slice.ensures.value ∙ c.in-Ok.ensures) in
    omega arith

pub returns-in-len1-up-clause-found : goal.returns-in-len1-up-clause-found
returns-in-len1-up-clause-found c = found c.args.text.now c.read_pieces.result
    (given (λ (piece : Bor (List ℕ)). piece.now) c.args.text.now c.as_slice.result.now (record { ref_ptr = (0, 0); now = [] }) c.read_pieces.result
    (ap (map (λ (piece : Bor (List ℕ)). piece.now)) c.as_slice.ensures.value ∙ c.in-Ok.ensures) c.in-len1-up.len_at_least c.read_pieces.ensures)

pub returns-in-len1-up-clause-fault : goal.returns-in-len1-up-clause-fault
returns-in-len1-up-clause-fault c = fault c.args.text.now c.read_pieces.result
    (given (λ (piece : Bor (List ℕ)). piece.now) c.args.text.now c.as_slice.result.now (record { ref_ptr = (0, 0); now = [] }) c.read_pieces.result
    (ap (map (λ (piece : Bor (List ℕ)). piece.now)) c.as_slice.ensures.value ∙ c.in-Ok.ensures) c.in-len1-up.len_at_least c.read_pieces.ensures)

pub returns-in-len1-up-clause-only : goal.returns-in-len1-up-clause-only
returns-in-len1-up-clause-only c = only c.args.text.now c.read_pieces.result
    (given (λ (piece : Bor (List ℕ)). piece.now) c.args.text.now c.as_slice.result.now (record { ref_ptr = (0, 0); now = [] }) c.read_pieces.result
    (ap (map (λ (piece : Bor (List ℕ)). piece.now)) c.as_slice.ensures.value ∙ c.in-Ok.ensures) c.in-len1-up.len_at_least c.read_pieces.ensures)

pub returns-clause-fault : goal.returns-clause-fault
returns-clause-fault c = absurd (never_empty (λ (piece : Bor (List ℕ)). piece.now) c.args.text.now c.as_slice.result.now
    (ap (map (λ (piece : Bor (List ℕ)). piece.now)) c.as_slice.ensures.value ∙ c.in-Ok.ensures) c.in-empty.len_below)
