use Rattle.bits_core.proofs.SignLaws.{low_fits}
use Rattle.bits_core.proofs.sign.biased.Goals as goal

pub overflow_add-result : goal.overflow_add-result
overflow_add-result c = record { fits = low_fits c.args.a.width c.args.a.value c.half-half.result c.args.a.some_bit c.args.a.at_most_widest c.half-half.ensures c.if-a-half.true }
