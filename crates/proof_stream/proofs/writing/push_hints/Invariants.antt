use Rattle.std.proofs.Common.{◌≡◌, ◌++◌, drop, string_bytes}
use Rattle.std.specs.List.{flat_map}
use Rattle.proof_stream.specs.Spelling.{spaced}
use Rattle.proof_stream.specs.Words.{hint_words}
use Rattle.proof_stream.proofs.writing.push_hints.Given as goal

abbrev pub invariant-loop-hint : goal.invariant-loop-hint
invariant-loop-hint l =
    string_bytes l.text ++ flat_map spaced (hint_words (drop l.hint-index l.hints)) ≡ string_bytes l.initial.text ++ flat_map spaced (hint_words l.hints)
