-- One step of reading, where the pieces that are left end with the last.
use Rattle.std.proofs.Common.{◌≡◌, ℕ, ◌+◌, List, [], ◌∷◌, ◌++◌, refl}
use Rattle.proof_stream.specs.declared.draft.Draft.{Draft}
use Rattle.proof_stream.specs.Drafts.{next_at, with_draft, read_from}

pub read_step : (number : ℕ) (d : Draft) (t : List ℕ) (pieces : List (List ℕ)) (last : List ℕ)
    → read_from number d (t ∷ (pieces ++ last ∷ [])) ≡ with_draft number (λ e. read_from (number + 1) e (pieces ++ last ∷ [])) (next_at d t)
unfolding read_from
read_step number d t [] last = refl
read_step number d t (p ∷ pieces) last = refl
