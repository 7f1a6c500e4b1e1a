-- What the code's table of macros stands for: the macros in force.
use Rattle.std.specs.Prelude.{◌≡◌, ℕ, List, [], map, Option, Some, None, slice_get}
use Rattle.std.specs.List.{filter}
use Rattle.std.specs.Str.{bytes_eq}
use Rattle.p4_lexer.specs.declared.extents.PieceAt.{PieceAt}
use Rattle.p4_lexer.specs.declared.macro_table.Definition.{Definition}
use Rattle.p4_lexer.specs.declared.macro_table.MacroTable.{MacroTable}
use Rattle.p4_lexer.specs.Extents.{bytes_at, cut_at, IsIn}
use Rattle.p4_lexer.specs.Scope.{Macro, macro_of}
use Rattle.p4_lexer.specs.SourceWords.{is_word}
use Rattle.std.specs.HashMap.{get_by}

-- the words of a definition, if there is one
abbrev pub definition_words : Option Definition → List PieceAt
definition_words None = []
definition_words (Some d) = d.words

-- its name
abbrev pub definition_name : List ℕ → Option Definition → List ℕ
definition_name text None = []
definition_name text (Some d) = bytes_at text d.name

-- the words of the definition of this number
abbrev pub words_of_number : MacroTable → ℕ → List PieceAt
words_of_number t n = definition_words (slice_get t.definitions n)

-- its name
abbrev pub name_of_number : MacroTable → ℕ → List ℕ
name_of_number t n = definition_name t.text.now (slice_get t.definitions n)

-- the number of the definition of a name that is in force
abbrev pub number_of : MacroTable → List ℕ → Option ℕ
number_of t name = get_by (λ k. bytes_eq name k.now) t.numbers

-- the definition of this number is the macro, without the blanks and comments among its pieces
abbrev pub IsMacro : MacroTable → ℕ → Macro → Type 0
IsMacro t n m = (m.name ≡ name_of_number t n) × (map (cut_at t.text.now) (words_of_number t n) ≡ filter (λ c. is_word c.kind) m.words)

-- a number for a macro, and none for none
abbrev pub AreSame : MacroTable → Option ℕ → Option Macro → Type 0
AreSame t None None = Unit {0}
AreSame t (Some n) (Some m) = IsMacro t n m
AreSame t _ _ = ⊥

-- the macros in force, by their names
abbrev pub AreInForce : MacroTable → List Macro → Type 0
AreInForce t macros = (name : List ℕ) → AreSame t (number_of t name) (macro_of macros name)

-- the piece is a word of a definition
abbrev pub IsWordOf : MacroTable → PieceAt → Type 0
IsWordOf t p = (n : ℕ) × (k : ℕ) × (slice_get (words_of_number t n) k ≡ Some p)

-- the words of definitions lie in the text
abbrev pub AreWordsIn : MacroTable → Type 0
AreWordsIn t = (p : PieceAt) → IsWordOf t p → IsIn t.text.now p.extent
