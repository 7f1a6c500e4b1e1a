-- How a number is spelled, and what it stands for (P4-16, "Integer literals").
use Rattle.std.specs.Prelude.{◌≡◌, ℕ, ◌≤◌, ◌<◌, ◌^◌, ◌||◌, ◌==◌, IsTrue, List, [], ◌∷◌, ◌++◌, ◌⊎◌, Option, Some, None, IsSomeAnd}
use Rattle.std.specs.List.{list_all, list_any}
use Rattle.tg_base.specs.declared.literal.Literal.{Literal}
use Rattle.tg_base.specs.declared.literal.IntType.{IntType}
use Rattle.tg_base.specs.declared.literal.IntType.TheVariants.{Integer, Unsigned, Signed}
use Rattle.tg_base.specs.declared.literal.IntValue.{IntValue}
use Rattle.tg_base.specs.declared.literal.IntValue.TheVariants.{Exact, TooLarge}
use Rattle.p4_lexer.specs.Digits.{is_digit_of, is_in_digits, base_of, value_of}

-- decimal digits, and `_` after the first of them
abbrev pub IsDecimal : List ℕ → Type 0
IsDecimal [] = ⊥
IsDecimal (c ∷ w) = IsTrue (is_digit_of 10 c) × IsTrue (list_all (is_in_digits 10) w)

-- digits of a base and `_`, with at least one digit
abbrev pub HasDigits : List ℕ → ℕ → Type 0
HasDigits w base = IsTrue (list_all (is_in_digits base) w) × IsTrue (list_any (is_digit_of base) w)

-- `0`, a letter that gives the base, and digits of that base
abbrev pub IsBased : List ℕ → Type 0
IsBased [] = ⊥
IsBased (zero_digit ∷ []) = ⊥
IsBased (zero_digit ∷ letter ∷ w) = (zero_digit ≡ 48) × IsSomeAnd (base_of letter) (HasDigits w)

-- a number with no prefix
abbrev pub IsPlain : List ℕ → Type 0
IsPlain w = IsDecimal w ⊎ IsBased w

-- the greatest width of a type
abbrev pub widest : ℕ
widest = 128

-- the prefix of a number: its width in decimal digits, from 1 to 128, and `w` for `bit` or `s` for `int`
pub record IsPrefix (prefix : List ℕ) : Type 0 where
  pub digits : List ℕ
  pub letter : ℕ
  pub spelled : prefix ≡ digits ++ letter ∷ []
  pub decimal : IsTrue (list_all (is_digit_of 10) digits)
  pub lower : 1 ≤ value_of 10 digits
  pub upper : value_of 10 digits ≤ widest
  pub sort : IsTrue ((letter == 119) || (letter == 115))

-- a number with a prefix
pub record IsPrefixed (w : List ℕ) : Type 0 where
  pub prefix : List ℕ
  pub plain : List ℕ
  pub spelled : w ≡ prefix ++ plain
  pub width : IsPrefix prefix
  pub number : IsPlain plain

abbrev pub IsNumber : List ℕ → Type 0
IsNumber w = IsPlain w ⊎ IsPrefixed w

-- the value that the digits of a number with no prefix give
abbrev pub plain_value : List ℕ → ℕ
plain_value [] = 0
plain_value (c ∷ []) = value_of 10 (c ∷ [])
plain_value (c ∷ letter ∷ w) = based_or (base_of letter) where
  based_or : Option ℕ → ℕ
  based_or None = value_of 10 (c ∷ letter ∷ w)
  based_or (Some base) = value_of base w

-- a value of at most 128 bits is kept, and a larger one as too large
abbrev pub IsValue : ℕ → IntValue → Type 0
IsValue n (Exact v) = (v ≡ n) × (n < 2 ^ 128)
IsValue n TooLarge = 2 ^ 128 ≤ n

-- the type that a prefix gives
abbrev pub IsTypeOf : {prefix : List ℕ} → IsPrefix prefix → IntType → Type 0
IsTypeOf p Integer = ⊥
IsTypeOf p (Unsigned width) = (width ≡ value_of 10 (p.digits)) × (p.letter ≡ 119)
IsTypeOf p (Signed width) = (width ≡ value_of 10 (p.digits)) × (p.letter ≡ 115)

-- a number with no prefix is an integer of any size
pub record IsInteger (w : List ℕ) (l : Literal) : Type 0 where
  pub plain : IsPlain w
  pub no_type : l.int_type ≡ Integer
  pub value : IsValue (plain_value w) l.value

-- a number with a prefix has the type that this gives
pub record IsTyped (w : List ℕ) (l : Literal) : Type 0 where
  pub prefixed : IsPrefixed w
  pub type_of : IsTypeOf prefixed.width l.int_type
  pub value : IsValue (plain_value prefixed.plain) l.value

-- what a number stands for that is spelled so
abbrev pub StandsFor : List ℕ → Literal → Type 0
StandsFor w l = (l.spelling ≡ w) × (IsInteger w l ⊎ IsTyped w l)
