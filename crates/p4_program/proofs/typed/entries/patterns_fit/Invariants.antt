use Rattle.std.proofs.Common.{ℕ, ◌<◌, length, get_or}
use Rattle.p4_program.specs.declared.typed.tables.Pattern.{Pattern}
use Rattle.p4_program.specs.declared.typed.tables.TableKey.{TableKey}
use Rattle.p4_program.specs.Entries.{KeyFits}
use Rattle.p4_program.proofs.typed.entries.patterns_fit.Given as goal

abbrev pub invariant-loop-key : goal.invariant-loop-key
invariant-loop-key l =
    (k : ℕ) (d : TableKey) (e : Pattern) → k < length l.yielded → KeyFits (get_or l.keys k d) (get_or l.patterns k e)
