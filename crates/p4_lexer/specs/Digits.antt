-- Digits of a base, and the number that they give.
use Rattle.std.specs.Prelude.{ℕ, ◌+◌, ◌-◌, ◌*◌, Bool, ◌||◌, ◌&&◌, ◌==◌, nat_lt, if◌then◌else◌, List, [], ◌∷◌, Option, Some, None}
use Rattle.std.specs.Char.{is_ascii_digit, is_ascii_lowercase, is_ascii_hexdigit}
use Rattle.p4_lexer.specs.Bytes.{underscore}

-- the value of a digit of a base up to 16: `7` is 7, `a` and `A` are 10
abbrev pub digit_value : ℕ → ℕ
digit_value c = if is_ascii_digit c then c - 48 else (if is_ascii_lowercase c then c - 87 else c - 55)

abbrev pub is_digit_of : ℕ → ℕ → Bool
is_digit_of base c = is_ascii_hexdigit c && nat_lt (digit_value c) base

-- a digit of the base, or the `_` that may stand between digits
abbrev pub is_in_digits : ℕ → ℕ → Bool
is_in_digits base c = is_digit_of base c || (c == underscore)

-- the base that a letter behind the first `0` gives: `0x`, `0d`, `0o` and `0b`, in either case
abbrev pub base_of : ℕ → Option ℕ
base_of c =
    if (c == 120) || (c == 88) then Some 16
    else (if (c == 100) || (c == 68) then Some 10
    else (if (c == 111) || (c == 79) then Some 8
    else (if (c == 98) || (c == 66) then Some 2
    else None)))

-- the number with one more digit; `_` counts for nothing
abbrev pub with_digit : ℕ → ℕ → ℕ → ℕ
with_digit base high c = if c == underscore then high else base * high + digit_value c

-- the number that the digits give behind those that gave `high`
abbrev pub value_from : ℕ → ℕ → List ℕ → ℕ
value_from base high [] = high
value_from base high (c ∷ digits) = value_from base (with_digit base high c) digits

abbrev pub value_of : ℕ → List ℕ → ℕ
value_of base digits = value_from base 0 digits
