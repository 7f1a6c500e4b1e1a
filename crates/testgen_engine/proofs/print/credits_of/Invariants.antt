use Rattle.std.proofs.Common.{◌≡◌, ◌++◌, drop}
use Prim.Native.Nat.{suc}
use Rattle.p4_meaning.specs.Verdicts.{credits_from}
use Rattle.testgen_engine.proofs.print.credits_of.Given as goal

abbrev pub invariant-loop-index : goal.invariant-loop-index
invariant-loop-index l = l.numbers ++ credits_from (suc l.index) (drop l.index l.verdicts) l.test ≡ credits_from 1 l.verdicts l.test
