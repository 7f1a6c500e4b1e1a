use Rattle.std.proofs.Common.{◌≡◌, ◌++◌, drop, map, string_bytes}
use Rattle.std.specs.List.{flat_map}
use Rattle.proof_stream.specs.Words.{hex_word}
use Rattle.proof_stream.specs.Spelling.{spaced}
use Rattle.proof_stream.proofs.writing.push_values.Given as goal

abbrev pub invariant-loop-h : goal.invariant-loop-h
invariant-loop-h l =
    string_bytes l.text ++ flat_map spaced (map hex_word (drop l.h-index l.values)) ≡ string_bytes l.initial.text ++ flat_map spaced (map hex_word l.values)
