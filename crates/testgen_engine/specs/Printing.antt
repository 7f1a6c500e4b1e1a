-- The texts of tests, one for the output of each.
use Rattle.std.specs.Prelude.{ℕ, List, [], ◌∷◌, ◌++◌}
use Prim.Native.Nat.{suc}
use Rattle.tg_base.specs.declared.desk.Out.{Out}
use Rattle.tg_base.specs.declared.desk.Out.TheVariants as out
use Rattle.p4_program.specs.declared.program.Program.{Program}
use Rattle.p4_meaning.specs.declared.test.Test.{Test}
use Rattle.p4_meaning.specs.declared.verdict.Verdict.{Verdict}
use Rattle.p4_meaning.specs.Verdicts.{credits}
use Rattle.testgen_engine.specs.Outputs.{only}
use Rattle.testgen_engine.specs.TestText.{test_text}

-- what tests add to an output, the first of them having this number
abbrev pub tests_text : Program → List Verdict → ℕ → List Test → Out → List ℕ
tests_text p verdicts number [] o = []
tests_text p verdicts number (t ∷ tests) o =
    only (out.Test number) (test_text p number (credits verdicts number) t) o ++ tests_text p verdicts (suc number) tests o
