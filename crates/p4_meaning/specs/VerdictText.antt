-- How a verdict is printed.
use Rattle.std.specs.Prelude.{ℕ, List, ◌++◌, codes}
use Rattle.std.specs.Fmt.{decimal}
use Rattle.p4_meaning.specs.declared.verdict.Verdict.{Verdict}
use Rattle.p4_meaning.specs.declared.verdict.Verdict.TheVariants.{Covered, Unreachable, Unsteady, Undecided}

abbrev pub verdict_text : Verdict → List ℕ
verdict_text (Covered test) = codes "covered " ++ decimal test
verdict_text Unreachable = codes "unreachable"
verdict_text Unsteady = codes "unsteady"
verdict_text Undecided = codes "undecided"
