use Rattle.std.proofs.Common.{◌≡◌, ◌++◌, drop, map, string_bytes}
use Rattle.proof_stream.specs.declared.line.Line.TheVariants.{Derived}
use Rattle.proof_stream.specs.Spelling.{text_of_lines}
use Rattle.proof_stream.proofs.writing.push_derived.Given as goal

abbrev pub invariant-loop-line : goal.invariant-loop-line
invariant-loop-line l =
    string_bytes l.text ++ text_of_lines (map Derived (drop l.line-index l.derived)) ≡ string_bytes l.initial.text ++ text_of_lines (map Derived l.derived)
