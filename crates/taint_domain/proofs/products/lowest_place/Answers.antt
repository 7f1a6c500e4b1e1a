use Rattle.std.proofs.Common.{arith}
use Rattle.std.specs.Int.{w128}
use Rattle.std.proofs.lemmas.Nat.Bits.{bit_at-trailing_zeros}
use Rattle.bits_core.proofs.WidthLaws.{pow_le}
use Rattle.taint_domain.proofs.products.lowest_place.Goals as goal

pub returns-else-bits-eq0-clause-below : goal.returns-else-bits-eq0-clause-below
returns-else-bits-eq0-clause-below c =
    let bits = c.args.bits in
    (bit_at-trailing_zeros w128 bits.value (grind arith) (omega (arith, bits.fits, pow_le bits.width 128 bits.at_most_widest))).2

pub returns-else-bits-eq0-clause-lowest : goal.returns-else-bits-eq0-clause-lowest
returns-else-bits-eq0-clause-lowest c = λ some.
    let bits = c.args.bits in
    (bit_at-trailing_zeros w128 bits.value (grind arith) (omega (arith, bits.fits, pow_le bits.width 128 bits.at_most_widest))).1
