use Rattle.std.proofs.Common.{◌≡◌, ◌++◌, drop, map, string_bytes}
use Rattle.proof_stream.specs.declared.line.Line.TheVariants.{Clause}
use Rattle.proof_stream.specs.Spelling.{text_of_lines}
use Rattle.proof_stream.proofs.writing.push_clauses.Given as goal

abbrev pub invariant-loop-clause : goal.invariant-loop-clause
invariant-loop-clause l =
    string_bytes l.text ++ text_of_lines (map Clause (drop l.clause-index l.clauses)) ≡ string_bytes l.initial.text ++ text_of_lines (map Clause l.clauses)
