-- What words stand for, where they stand for something.
use Rattle.std.specs.Prelude.{ℕ, ◌+◌, ◌-◌, ◌*◌, ◌^◌, ◌==◌, ◌&&◌, ◌||◌, nat_lt, if◌then◌else◌, true, false, Bool, List, [], ◌∷◌, ◌++◌, length, map, slice_index, Option, None, Some}
use Rattle.std.specs.Char.{is_ascii_digit}
use Rattle.std.specs.Ordering.{nat_cmp, eq_by_cmp}
use Rattle.std.specs.Set.{distinct_count}
use Rattle.std.specs.Str.{bytes_eq}
use Rattle.cnf_core.specs.declared.derivation.Step.{Step as StepLine}
use Rattle.cnf_core.specs.declared.derivation.Derived.TheVariants.{Cube, Step}
use Rattle.cnf_core.specs.declared.derivation.Var.{Var}
use Rattle.cnf_core.specs.declared.derivation.Var.TheVariants.{Input, Read}
use Rattle.cnf_core.specs.declared.formula.Lit.{Lit}
use Rattle.proof_stream.specs.declared.hex_value.HexValue.{HexValue}
use Rattle.proof_stream.specs.declared.line.Line.{Line}
use Rattle.proof_stream.specs.declared.line.Line.TheVariants as line
use Rattle.proof_stream.specs.declared.record.End.TheVariants.{Sat, Unsat, Spent}
use Rattle.proof_stream.specs.HexValues.{hex_value}
use Rattle.proof_stream.specs.declared.keyword.Keyword.{Keyword}
use Rattle.proof_stream.specs.declared.keyword.Keyword.TheVariants as keyword
use Rattle.proof_stream.specs.declared.record.Kind.{Kind}
use Rattle.proof_stream.specs.declared.record.Kind.TheVariants.{Reach, Steady, Break, Nibble}
use Rattle.proof_stream.specs.Keywords.{keyword_of}
use Rattle.proof_stream.specs.Words.{Word, minus, end_word}

infixl 10 ◌>>=◌
abbrev pub ◌>>=◌ : {A B : Type 0} → Option A → (A → Option B) → Option B
(Some x) >>= f = f x
None >>= f = None

-- the number that these decimal digits give behind those that gave `high`, if it has 32 bits
abbrev pub number_from : ℕ → Word → Option ℕ
number_from high [] = Some high
number_from high (c ∷ digits) =
    if is_ascii_digit c && nat_lt (10 * high + (c - 48)) (2 ^ 32) then number_from (10 * high + (c - 48)) digits else None

-- a number without a leading zero
unfoldable pub number_of : Word → Option ℕ
number_of word = if (length word == 0) || ((slice_index word 0 == 48) && nat_lt 1 (length word)) then None else number_from 0 word

abbrev pub not_zero : ℕ → Option ℕ
not_zero n = if n == 0 then None else Some n

abbrev pub positive_of : Word → Option ℕ
positive_of word = number_of word >>= not_zero

-- a literal with this sign
abbrev pub signed_literal : Bool → Word → Option Lit
signed_literal positive digits = positive_of digits >>= λ var. Some (record { var = var; positive = positive })

unfoldable pub literal_of : Word → Option Lit
literal_of [] = signed_literal true []
literal_of (c ∷ word) = if c == minus then signed_literal false word else signed_literal true (c ∷ word)

abbrev pub statement_kind : Keyword → ℕ → Option Kind
statement_kind keyword.Reach statement = Some (Reach statement)
statement_kind keyword.Steady statement = Some (Steady statement)
statement_kind keyword.Break statement = Some (Break statement)
statement_kind other statement = None

abbrev pub nibble_kind : Keyword → ℕ → ℕ → Option Kind
nibble_kind keyword.Nibble test nibble = Some (Nibble test nibble)
nibble_kind other test nibble = None

unfoldable pub kind_of : List Word → Option Kind
kind_of (word ∷ statement ∷ []) = keyword_of word >>= λ keyword. number_of statement >>= statement_kind keyword
kind_of (word ∷ test ∷ nibble ∷ []) = keyword_of word >>= λ keyword. number_of test >>= λ t. number_of nibble >>= nibble_kind keyword t
kind_of other = None

abbrev pub input_var : Keyword → ℕ → Option Var
input_var keyword.Input place = Some (Input place)
input_var other place = None

abbrev pub read_var : Keyword → ℕ → ℕ → Option Var
read_var keyword.Read read bit = Some (Read read bit)
read_var other read bit = None

unfoldable pub var_of : List Word → Option Var
var_of (word ∷ place ∷ []) = keyword_of word >>= λ keyword. number_of place >>= input_var keyword
var_of (word ∷ read ∷ bit ∷ []) = keyword_of word >>= λ keyword. number_of read >>= λ r. number_of bit >>= read_var keyword r
var_of other = None

-- the one number of the words
unfoldable pub one_number_of : List Word → Option ℕ
one_number_of (word ∷ []) = number_of word
one_number_of other = None

abbrev pub bit_of : ℕ → Option Bool
bit_of c = if c == 49 then Some true else (if c == 48 then Some false else None)

-- these bits and those of the glyphs
abbrev pub bits_onto : List Bool → Word → Option (List Bool)
bits_onto front [] = Some front
bits_onto front (c ∷ word) = bit_of c >>= λ bit. bits_onto (front ++ bit ∷ []) word

-- the one word of bits, of which there is at least one
unfoldable pub bits_of : List Word → Option (List Bool)
bits_of (word ∷ []) = if length word == 0 then None else bits_onto [] word
bits_of other = None

abbrev pub hex_digit_of : ℕ → Option ℕ
hex_digit_of c = if is_ascii_digit c then Some (c - 48) else (if nat_lt 96 c && nat_lt c 103 then Some (c - 87) else None)

-- the number that these hexadecimal digits give behind those that gave `high`
abbrev pub hex_from : ℕ → Word → Option ℕ
hex_from high [] = Some high
hex_from high (c ∷ digits) = hex_digit_of c >>= λ digit. hex_from (16 * high + digit) digits

unfoldable pub hex_of_digits : Word → Option HexValue
hex_of_digits digits = if nat_lt 32 (length digits) then None else hex_from 0 digits >>= hex_value (length digits)

unfoldable pub hex_of : Word → Option HexValue
hex_of (first ∷ second ∷ digits) = if (first == 48) && (second == 120) then hex_of_digits digits else None
hex_of other = None

-- these values and those of the words
abbrev pub values_onto : List HexValue → List Word → Option (List HexValue)
values_onto front [] = Some front
values_onto front (word ∷ words) = hex_of word >>= λ h. values_onto (front ++ h ∷ []) words

-- these literals and those up to the word that ends them, and the words behind it
abbrev pub literals_onto : List Lit → List Word → Option (List Lit × List Word)
literals_onto front [] = None
literals_onto front (word ∷ words) =
    if bytes_eq word end_word then Some (front, words) else (literal_of word >>= λ l. literals_onto (front ++ l ∷ []) words)

-- the same for hints
abbrev pub hints_onto : List ℕ → List Word → Option (List ℕ × List Word)
hints_onto front [] = None
hints_onto front (word ∷ words) =
    if bytes_eq word end_word then Some (front, words) else (positive_of word >>= λ hint. hints_onto (front ++ hint ∷ []) words)

-- the items where no word is left
abbrev pub whole : {A : Type 0} → A × List Word → Option A
whole (items, []) = Some items
whole (items, word ∷ words) = None

unfoldable pub cube_of : List Word → Option (List Lit)
cube_of words = literals_onto [] words >>= whole

unfoldable pub step_of : List Word → Option StepLine
step_of words = literals_onto [] words >>= λ found. hints_onto [] found.1 >>= whole >>= λ hints. Some (record { clause = found.0; hints = hints })

-- whether no variable stands twice
unfoldable pub are_apart : List Lit → Bool
are_apart lits = distinct_count (eq_by_cmp nat_cmp) (map (λ l. l.var) lits) == length lits

abbrev pub if_apart : List Lit → Option (List Lit)
if_apart lits = if are_apart lits then Some lits else None

unfoldable pub clause_of : List Word → Option (List Lit)
clause_of words = cube_of words >>= if_apart

-- the line, where no word is left
abbrev pub alone : Line → List Word → Option Line
alone l [] = Some l
alone l (word ∷ words) = None

unfoldable pub operands_of : Keyword → List Word → Option Line
operands_of keyword.Record words = kind_of words >>= λ kind. Some (line.Head kind)
operands_of keyword.At words = bits_of words >>= λ bits. Some (line.At bits)
operands_of keyword.Var words = var_of words >>= λ var. Some (line.Var var)
operands_of keyword.Clause words = clause_of words >>= λ lits. Some (line.Clause lits)
operands_of keyword.Cube words = cube_of words >>= λ lits. Some (line.Derived (Cube lits))
operands_of keyword.Step words = step_of words >>= λ step. Some (line.Derived (Step step))
operands_of keyword.Sat words = bits_of words >>= λ bits. Some (line.End (Sat bits))
operands_of keyword.Unsat words = alone (line.End Unsat) words
operands_of keyword.Spent words = alone (line.End Spent) words
operands_of keyword.Broken words = one_number_of words >>= λ target. Some (line.Broken target)
operands_of keyword.Runs words = values_onto [] words >>= λ values. Some (line.Runs values)
operands_of keyword.Breaks words = values_onto [] words >>= λ values. Some (line.Breaks values)
operands_of other words = None

-- the line that the words spell
unfoldable pub line_of : List Word → Option Line
line_of [] = None
line_of (word ∷ words) = keyword_of word >>= λ keyword. operands_of keyword words
