-- Which classes a byte is in.
use Rattle.std.proofs.Common.{◌≡◌, ℕ, ◌<◌, ◌≤◌, true, false, refl, arith, ◌||◌, ◌==◌, ◌⊎◌, inl, inr, Some, nat_le}
use Rattle.std.specs.Int.{is_in_range}
use Rattle.std.proofs.lemmas.Bool.{and_parts, or_cases, eqb-true, leb-true}
use Rattle.std.proofs.lemmas.Bool.Decides.{nat_tests}
use Rattle.p4_lexer.specs.declared.classes.Head.TheVariants.{NameHead, DigitHead, BlankHead}
use Rattle.p4_lexer.specs.Bytes.{line_feed, space, tab, carriage_return, is_blank, begins_name}
use Rattle.p4_lexer.specs.Digits.{is_digit_of, is_in_digits, base_of}
use Rattle.p4_lexer.specs.Lengths.{head_of, is_sort}

range_bounds : (low high c : ℕ) → is_in_range low high c ≡ true → (low ≤ c) × (c ≤ high)
range_bounds low high c e = let both = and_parts (nat_le low c) (nat_le c high) e in (leb-true low c both.0, leb-true c high both.1)

range_outside : (low high c : ℕ) → (c < low) ⊎ (high < c) → is_in_range low high c ≡ false
range_outside low high c out = grind (arith, nat_tests)

-- a decimal digit is from `0` to `9`
pub decimal_bounds : (c : ℕ) → is_digit_of 10 c ≡ true → (48 ≤ c) × (c ≤ 57)
decimal_bounds c e = grind (arith, nat_tests)

-- and begins no name
pub decimal_begins_no_name : (c : ℕ) → is_digit_of 10 c ≡ true → begins_name c ≡ false
decimal_begins_no_name c e = grind (arith, nat_tests)

-- a letter that gives a base is no decimal digit, no `_` and gives no width
pub base_letter : (c base : ℕ) → base_of c ≡ Some base → (is_in_digits 10 c ≡ false) × (is_sort c ≡ false)
base_letter c base e = grind (arith, nat_tests)

-- the letter of a prefix is no digit
pub sort_letter : (c : ℕ) → is_sort c ≡ true → (is_digit_of 10 c ≡ false) × (is_in_digits 10 c ≡ false)
sort_letter c e = grind (arith, nat_tests)

-- the head of each kind of piece
pub name_head : (c : ℕ) → begins_name c ≡ true → head_of c ≡ NameHead
name_head c e = rw e refl

pub digit_head : (c : ℕ) → is_digit_of 10 c ≡ true → head_of c ≡ DigitHead
digit_head c e = rw (decimal_begins_no_name c e, e) refl

pub blank_head : (c : ℕ) → is_blank c ≡ true → head_of c ≡ BlankHead
blank_head c e = elim (or_cases (c == space) ((c == tab) || ((c == carriage_return) || (c == line_feed))) e) [
  | inl is ↦ rw (eqb-true c space is) refl
  | inr others ↦ elim (or_cases (c == tab) ((c == carriage_return) || (c == line_feed)) others) [
    | inl is ↦ rw (eqb-true c tab is) refl
    | inr more ↦ elim (or_cases (c == carriage_return) (c == line_feed) more) [
      | inl is ↦ rw (eqb-true c carriage_return is) refl
      | inr is ↦ rw (eqb-true c line_feed is) refl
    ]
  ]
]
