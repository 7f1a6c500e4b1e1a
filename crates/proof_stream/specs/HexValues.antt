-- A value with its count of digits, where there is one.
use Rattle.std.specs.Prelude.{ℕ, ◌≤◌, ◌<◌, ◌^◌, ◌⊎◌, Option, None, Some}
use Rattle.std.proofs.Common.{inl, inr}
use Rattle.std.proofs.lemmas.Bool.{cases_lt}
use Rattle.proof_stream.specs.declared.hex_value.HexValue.{HexValue}

abbrev pub of_few : (digits value : ℕ) → 1 ≤ digits → digits ≤ 32 → (value < 16 ^ digits) ⊎ (16 ^ digits ≤ value) → Option HexValue
of_few digits value some most (inl fits) = Some (record { digits = digits; value = value; some_digit = some; at_most = most; fits = fits })
of_few digits value some most (inr great) = None

abbrev pub of_some : (digits value : ℕ) → 1 ≤ digits → (32 < digits) ⊎ (digits ≤ 32) → Option HexValue
of_some digits value some (inl many) = None
of_some digits value some (inr most) = of_few digits value some most (cases_lt value (16 ^ digits))

abbrev pub of_any : (digits value : ℕ) → (digits < 1) ⊎ (1 ≤ digits) → Option HexValue
of_any digits value (inl none) = None
of_any digits value (inr some) = of_some digits value some (cases_lt 32 digits)

-- the value of so many digits, where there is one
unfoldable pub hex_value : ℕ → ℕ → Option HexValue
hex_value digits value = of_any digits value (cases_lt digits 1)
