-- The words of a line: numbers in decimal, literals, bits and hexadecimal values.
use Rattle.std.specs.Prelude.{ℕ, zero, suc, ◌^◌, ◌/◌, ◌%◌, Bool, true, false, List, [], ◌∷◌, ◌++◌, map, codes}
use Rattle.std.specs.Fmt.{decimal, digit_glyph}
use Rattle.cnf_core.specs.declared.formula.Lit.{Lit}
use Rattle.proof_stream.specs.declared.hex_value.HexValue.{HexValue}

-- the bytes of a word; none of them is a blank or a line feed
abbrev pub Word : Type 0
Word = List ℕ

-- `-`
abbrev pub minus : ℕ
minus = 45

abbrev pub sign : Bool → Word
sign true = []
sign false = minus ∷ []

-- a variable's number, behind `-` where it is denied
abbrev pub literal_word : Lit → Word
literal_word l = sign l.positive ++ decimal l.var

-- the word `0`, which ends literals and hints
abbrev pub end_word : Word
end_word = codes "0"

abbrev pub clause_words : List Lit → List Word
clause_words lits = map literal_word lits ++ end_word ∷ []

abbrev pub hint_words : List ℕ → List Word
hint_words hints = map decimal hints ++ end_word ∷ []

-- `1` for true and `0` for false
abbrev pub bit_glyph : Bool → ℕ
bit_glyph true = 49
bit_glyph false = 48

abbrev pub bits_word : List Bool → Word
bits_word bits = map bit_glyph bits

-- so many hexadecimal digits of a value, the highest first
abbrev pub hex_digits : ℕ → ℕ → Word
hex_digits zero value = []
hex_digits (suc places) value = digit_glyph false (value / 16 ^ places) ∷ hex_digits places (value % 16 ^ places)

-- `0x`, and the digits
abbrev pub hex_word : HexValue → Word
hex_word h = codes "0x" ++ hex_digits h.digits h.value
