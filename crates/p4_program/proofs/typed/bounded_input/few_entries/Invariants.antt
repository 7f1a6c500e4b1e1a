use Rattle.std.proofs.Common.{ℕ, ◌<◌, get_or}
use Rattle.p4_program.specs.declared.typed.input.Entry.{Entry}
use Rattle.p4_program.specs.BoundedInput.{HasFew}
use Rattle.p4_program.proofs.typed.bounded_input.few_entries.Given as goal

abbrev pub invariant-loop-entry : goal.invariant-loop-entry
invariant-loop-entry l = (k : ℕ) (d : Entry) → k < l.entry-index → HasFew l.limit l.entries (get_or l.entries k d)
