-- What calls of a desk one after another do to its moment. Higher crates may cite these.
use Rattle.std.proofs.Common.{◌≡◌, ℕ, List, [], ◌∷◌, ◌++◌, Option, None, Some, refl, ap, append_assoc, ◌∙◌, rules}
use Rattle.std.proofs.lemmas.List.{append-nil}
use Rattle.tg_base.specs.Moment.{Opened, Output, file_after, after_read, with_piece, output_after}

-- a read from the last of the opened files leaves those before it
pub after_read_last : (files : List Opened) (file : Opened) (bytes : List ℕ)
    → after_read (files ++ file ∷ []) bytes ≡ files ++ file_after file bytes ∷ []
after_read_last [] file bytes = refl
after_read_last (first ∷ []) file bytes = refl
after_read_last (first ∷ (second ∷ files)) file bytes = ap (λ later. first ∷ later) (after_read_last (second ∷ files) file bytes)

pub with_piece_twice : (holds : Option (List ℕ)) (a b : List ℕ) → with_piece (with_piece holds a) b ≡ with_piece holds (a ++ b)
with_piece_twice None a b = refl
with_piece_twice (Some bytes) a b = ap Some (append_assoc bytes a b)

pub with_piece_nothing : (holds : Option (List ℕ)) → with_piece holds [] ≡ holds
with_piece_nothing None = refl
with_piece_nothing (Some bytes) = ap Some (search rules)

abbrev output_of : List ℕ → Option (List ℕ) → Output
output_of taken holds = record { taken = taken; holds = holds }

-- two pieces one after the other are one piece
pub output_after_twice : (output : Output) (a b : List ℕ) → output_after (output_after output a) b ≡ output_after output (a ++ b)
output_after_twice output a b =
    ap (λ taken. output_of taken (with_piece (with_piece output.holds a) b)) (append_assoc output.taken a b)
    ∙ ap (output_of (output.taken ++ (a ++ b))) (with_piece_twice output.holds a b)

-- no piece leaves an output as it is
pub output_after_nothing : (output : Output) → output_after output [] ≡ output
output_after_nothing output =
    ap (λ taken. output_of taken (with_piece output.holds [])) (append-nil output.taken)
    ∙ ap (output_of output.taken) (with_piece_nothing output.holds)
