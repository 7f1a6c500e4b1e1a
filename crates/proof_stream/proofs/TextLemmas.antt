-- The text of a step, and of lines in a row.
use Rattle.std.proofs.Common.{◌≡◌, ℕ, List, ◌++◌}
use Rattle.std.proofs.lemmas.List.Concat.{flat_map-append}
use Rattle.std.specs.List.{flat_map}
use Rattle.cnf_core.specs.declared.formula.Lit.{Lit}
use Rattle.proof_stream.specs.declared.line.Line.{Line}
use Rattle.proof_stream.specs.Words.{clause_words, hint_words}
use Rattle.proof_stream.specs.Spelling.{spaced, ended, line_text, text_of_lines}

pub step_text : (clause : List Lit) (hints : List ℕ)
    → flat_map spaced (clause_words clause ++ hint_words hints) ≡ flat_map spaced (clause_words clause) ++ flat_map spaced (hint_words hints)
step_text clause hints = flat_map-append spaced (clause_words clause) (hint_words hints)

pub text_of_both : (front rest : List Line) → text_of_lines (front ++ rest) ≡ text_of_lines front ++ text_of_lines rest
text_of_both front rest = flat_map-append (λ line. ended (line_text line)) front rest
