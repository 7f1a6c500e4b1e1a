-- Integers in code, a sign and a magnitude, and the integers that they are.
use Rattle.std.proofs.Common.{◌≡◌, ℕ, zero, suc, ◌+◌, ◌-◌, ◌%◌, ◌^◌, ◌≤◌, ◌<◌, refl, ap, ◌∙◌, arith}
use Rattle.std.specs.Prelude.{pos, neg_ℤ, ◌-ℤ◌}
use Rattle.std.proofs.lemmas.Int.{ints}
use Rattle.bits_core.specs.Number.{wrapped}
use Rattle.bits_core.proofs.WidthLaws.{wrapped_sub}

less_is_negated : (m : ℕ) → pos 0 -ℤ pos m ≡ neg_ℤ (pos m)
less_is_negated zero = refl
less_is_negated (suc m) = omega (arith, ints)

-- the lowest bits of a number below 0
pub wrapped_negated : (w m : ℕ) → w ≤ 128 → m < 2 ^ 128 → (0 + (2 ^ 128 - m)) % 2 ^ 128 % 2 ^ w ≡ wrapped w (neg_ℤ (pos m))
wrapped_negated w m within small =
    wrapped_sub w 128 0 m within (omega arith) ∙ ap (wrapped w) (less_is_negated m)
