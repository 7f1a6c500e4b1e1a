use Rattle.std.proofs.Common.{◌≡◌, ◌++◌, drop, string_bytes}
use Rattle.std.specs.Fmt.{decimal}
use Rattle.std.specs.List.{flat_map}
use Rattle.std.specs.Prelude.{codes}
use Rattle.testgen_engine.proofs.test_text.push_title.Given as goal

abbrev pub invariant-loop-statement : goal.invariant-loop-statement
invariant-loop-statement l =
    string_bytes l.text ++ flat_map (λ statement. codes " " ++ decimal statement) (drop l.statement-index l.statements)
    ≡ string_bytes l.initial.text ++ flat_map (λ statement. codes " " ++ decimal statement) l.statements
