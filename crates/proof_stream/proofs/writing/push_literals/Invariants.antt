use Rattle.std.proofs.Common.{◌≡◌, ◌++◌, drop, string_bytes}
use Rattle.std.specs.List.{flat_map}
use Rattle.proof_stream.specs.Spelling.{spaced}
use Rattle.proof_stream.specs.Words.{clause_words}
use Rattle.proof_stream.proofs.writing.push_literals.Given as goal

abbrev pub invariant-loop-l : goal.invariant-loop-l
invariant-loop-l l =
    string_bytes l.text ++ flat_map spaced (clause_words (drop l.l-index l.lits)) ≡ string_bytes l.initial.text ++ flat_map spaced (clause_words l.lits)
