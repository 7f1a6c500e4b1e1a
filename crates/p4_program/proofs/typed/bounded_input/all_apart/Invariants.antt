use Rattle.p4_program.specs.Entries.{Apart}
use Rattle.p4_program.specs.Trees.Programs.{core_of}
use Rattle.p4_program.proofs.Pairs.{PairsBelow}
use Rattle.p4_program.proofs.typed.bounded_input.all_apart.Given as goal

abbrev pub invariant-loop-i : goal.invariant-loop-i
invariant-loop-i l = PairsBelow (Apart (core_of l.program)) l.entries l.i
