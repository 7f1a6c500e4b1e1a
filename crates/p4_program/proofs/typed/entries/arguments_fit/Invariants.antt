use Rattle.std.proofs.Common.{ℕ, ◌<◌, length, get_or}
use Rattle.bits_core.specs.declared.number.Bits.{Bits}
use Rattle.p4_program.specs.declared.typed.callables.Parameter.{Parameter}
use Rattle.p4_program.specs.Entries.{ArgumentFits}
use Rattle.p4_program.proofs.typed.entries.arguments_fit.Given as goal

abbrev pub invariant-loop-parameter : goal.invariant-loop-parameter
invariant-loop-parameter l =
    (k : ℕ) (d : Parameter) (e : Bits) → k < length l.yielded → ArgumentFits (get_or l.parameters k d) (get_or l.arguments k e)
