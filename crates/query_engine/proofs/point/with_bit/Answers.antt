-- By the lemmas of a bit as a shift.
use Rattle.std.proofs.Common.{arith}
use Rattle.query_engine.proofs.BitLemmas.{small, shift_below, shift_bits, shift_fits}
use Rattle.query_engine.proofs.point.with_bit.Goals as goal

pub overflow_shl-result : goal.overflow_shl-result
overflow_shl-result c = small c.args.bits c.args.place c.requires

pub overflow_add-result : goal.overflow_add-result
overflow_add-result c = omega (arith, shift_fits c.args.bits c.args.place c.requires)

pub invariant_of-result : goal.invariant_of-result
invariant_of-result c = record {
  some_bit = c.args.bits.some_bit;
  at_most_widest = c.args.bits.at_most_widest;
  fits = shift_below c.args.bits c.args.place c.requires;
}

pub returns-clause-bits : goal.returns-clause-bits
returns-clause-bits c = shift_bits c.args.bits c.args.place c.requires
