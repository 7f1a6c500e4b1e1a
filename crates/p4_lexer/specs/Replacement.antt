-- Macros: a name that is defined is replaced by its words, and these in turn, but no name inside its own replacement
-- (P4-16, "Preprocessing").
use Rattle.std.specs.Prelude.{◌≡◌, ℕ, true, List, [], ◌∷◌, ◌++◌, Option, Some, None, if◌then◌else◌}
use Rattle.std.specs.List.{list_any}
use Rattle.std.specs.Str.{bytes_eq}
use Rattle.tg_base.specs.declared.place.Span.{Span}
use Rattle.p4_lexer.specs.declared.piece.Kind.{Kind}
use Rattle.p4_lexer.specs.declared.piece.Kind.TheVariants.{Name}
use Rattle.p4_lexer.specs.Cuts.{Cut}
use Rattle.p4_lexer.specs.Scope.{Macro, macro_of}
use Rattle.p4_lexer.specs.SourceWords.{Placed, SourceWord, is_word}

-- what comes of the source when names are replaced: a word that stays, or a name that was replaced
pub data Item : Type 0 where
  Word : (word : Placed) → Item
  Replaced : (name : Placed) → Item

-- the words of a macro, all at one place
abbrev pub words_at : Span → List Cut → List Placed
words_at place [] = []
words_at place (c ∷ cuts) = if is_word c.kind then record { cut = c; place = place; replacement = true } ∷ words_at place cuts else words_at place cuts

-- the macro that a word names, unless the word stands inside the replacement of that name
abbrev pub names_macro : List Macro → List (List ℕ) → Placed → Option Macro
names_macro macros inside w = of_kind w.cut.kind where
  of_kind : Kind → Option Macro
  of_kind Name = if list_any (bytes_eq w.cut.bytes) inside then None else macro_of macros w.cut.bytes
  of_kind _ = None

-- words inside the replacements of these names give these items
pub data Gives (macros : List Macro) : List (List ℕ) → List Placed → List Item → Type 0 where
  none : (inside : List (List ℕ)) → Gives macros inside [] []
  kept : (inside : List (List ℕ)) (w : Placed) (words : List Placed) (items : List Item)
      → names_macro macros inside w ≡ None → Gives macros inside words items → Gives macros inside (w ∷ words) (Word w ∷ items)
  replaced : (inside : List (List ℕ)) (w : Placed) (words : List Placed) (m : Macro) (inner items : List Item)
      → names_macro macros inside w ≡ Some m
      → Gives macros (m.name ∷ inside) (words_at w.place m.words) inner
      → Gives macros inside words items
      → Gives macros inside (w ∷ words) (Replaced w ∷ inner ++ items)

-- the words of the source give these items
abbrev pub AreItems : List SourceWord → List Item → Type 0
AreItems [] items = items ≡ []
AreItems (w ∷ words) items = (own : List Item) × (rest : List Item) × (items ≡ own ++ rest) × Gives w.macros [] (w.word ∷ []) own × AreItems words rest
