-- The numbers that a type of bits has are numbers of so many bits.
use Rattle.std.specs.Prelude.{◌≡◌, ℕ, true, pos}
use Rattle.std.proofs.Common.{arith}
use Rattle.std.proofs.lemmas.Grind.{common_steps}
use Rattle.p4_rules.specs.Integers.{fits_bit, fits_int}
use Rattle.p4_consts.specs.Fits.{bits_fit}

pub bit_literal : (w v : ℕ) → fits_bit w (pos v) ≡ true → bits_fit w v ≡ true
bit_literal w v h = grind (arith, common_steps)

pub int_literal : (w v : ℕ) → fits_int w (pos v) ≡ true → bits_fit w v ≡ true
int_literal w v h = grind (arith, common_steps)
