-- A number is its two fields.
use Rattle.std.proofs.Common.{◌≡◌, ◌^◌, ◌<◌, ◌≤◌}
use Rattle.std.specs.Coded.{le_prop}
use mathlib.Core.HLevel.{is_prop→PathP}
use Rattle.bits_core.specs.declared.number.Bits.{Bits}

pub same_fields : (a b : Bits) → a.width ≡ b.width → a.value ≡ b.value → a ≡ b
same_fields a b p q =
    λ i. record {
      width = p i;
      value = q i;
      some_bit = is_prop→PathP (λ j. 1 ≤ p j) (λ j. le_prop) a.some_bit b.some_bit i;
      at_most_widest = is_prop→PathP (λ j. p j ≤ 128) (λ j. le_prop) a.at_most_widest b.at_most_widest i;
      fits = is_prop→PathP (λ j. q j < 2 ^ p j) (λ j. le_prop) a.fits b.fits i;
    }
