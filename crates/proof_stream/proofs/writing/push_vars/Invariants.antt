use Rattle.std.proofs.Common.{◌≡◌, ◌++◌, drop, map, string_bytes}
use Rattle.proof_stream.specs.declared.line.Line.TheVariants.{Var}
use Rattle.proof_stream.specs.Spelling.{text_of_lines}
use Rattle.proof_stream.proofs.writing.push_vars.Given as goal

abbrev pub invariant-loop-var : goal.invariant-loop-var
invariant-loop-var l =
    string_bytes l.text ++ text_of_lines (map Var (drop l.var-index l.vars)) ≡ string_bytes l.initial.text ++ text_of_lines (map Var l.vars)
