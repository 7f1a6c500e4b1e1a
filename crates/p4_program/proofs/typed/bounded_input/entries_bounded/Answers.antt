use Rattle.std.proofs.Common.{refl}
use Rattle.p4_program.proofs.typed.bounded_input.entries_bounded.Goals as goal

pub returns-then-few_entries : goal.returns-then-few_entries
returns-then-few_entries c = (
  λ h.
      record {
        each_fits = c.if-not-entries_fit.ensures.0 refl;
        few = c.if-few_entries.ensures.0 refl;
        apart = c.all_apart.ensures.0 h;
      },
  λ b. c.all_apart.ensures.1 b.apart,
)
