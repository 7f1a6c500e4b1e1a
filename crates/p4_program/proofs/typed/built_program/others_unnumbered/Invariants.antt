use Rattle.std.proofs.Common.{ℕ, ◌≢◌, ◌<◌, get_or}
use Rattle.p4_program.specs.declared.typed.callables.Callable.{Callable}
use Rattle.p4_program.specs.Built.{CallableUnnumbered}
use Rattle.p4_program.specs.Trees.Callables.{callable_of}
use Rattle.p4_program.proofs.typed.built_program.others_unnumbered.Given as goal

abbrev pub invariant-loop-k : goal.invariant-loop-k
invariant-loop-k l =
    (j : ℕ) (d : Callable) → j < l.k → j ≢ l.number → CallableUnnumbered (callable_of (get_or l.callables j d))
