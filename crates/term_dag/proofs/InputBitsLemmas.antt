-- A number from its bits, the first most significant, fits as many bits.
use Rattle.std.proofs.Common.{◌≡◌, ℕ, ◌+◌, ◌*◌, ◌<◌, ◌≤◌, ◌^◌, Bool, true, false, List, length, take, reverse, sym, ap, subst, ◌∙◌, arith}
use Rattle.std.proofs.lemmas.List.{length-reverse, length-take-le}
use Rattle.std.proofs.Math.Pow.{pow_mono}
use mir.Val.{bool_byte}
use Rattle.bits_core.specs.BitList.{number_of}
use Rattle.bits_core.proofs.BitListLaws.{number_of_below}

pub bit_is_small : (b : Bool) → bool_byte b ≤ 1
bit_is_small true = omega arith
bit_is_small false = omega arith

pub fits_width : (bits : List Bool) (number w f : ℕ) → number ≡ number_of (reverse bits) → length bits + f ≡ f + w → number < 2 ^ w
fits_width bits number w f is e =
    let long : length (reverse bits) ≡ w = length-reverse bits ∙ omega arith in
    subst (λ (n : ℕ). n < 2 ^ w) (sym is) (subst (λ (n : ℕ). number_of (reverse bits) < 2 ^ n) long (number_of_below (reverse bits)))

module _ (bits : List Bool) (i number : ℕ) (is : number ≡ number_of (reverse (take i bits))) (l : i < length bits) (most : length bits ≤ 128) where
  below : number < 2 ^ 127
  below =
      let here : number < 2 ^ i = fits_width (take i bits) number i 0 is (ap (λ n. n + 0) (length-take-le i bits (omega arith)) ∙ omega arith) in
      let power : 2 ^ i ≤ 2 ^ 127 = pow_mono {i = i} {j = 127} (omega arith) in
      omega arith

  pub room_for_double : 2 * number < 2 ^ 128
  room_for_double = omega (arith, below)

  pub room_for_bit : (x : ℕ) → x ≤ 1 → 2 * number + x < 2 ^ 128
  room_for_bit x small = omega (arith, below)
