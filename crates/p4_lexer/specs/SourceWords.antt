-- The words of the parts that are taken, in their order, each with its place and the macros in force there.
use Rattle.std.specs.Prelude.{ℕ, Bool, true, false, List, [], ◌∷◌, ◌++◌, if◌then◌else◌}
use Rattle.tg_base.specs.declared.place.Span.{Span}
use Rattle.p4_lexer.specs.declared.piece.Kind.{Kind}
use Rattle.p4_lexer.specs.declared.piece.Kind.TheVariants.{Name, Number, Text, Sign, Annotation}
use Rattle.p4_lexer.specs.Places.{place_after}
use Rattle.p4_lexer.specs.Cuts.{Cut}
use Rattle.p4_lexer.specs.Scope.{Scope, Macro, outermost}
use Rattle.p4_lexer.specs.Parts.{Part, Piece, part_bytes, scope_behind}

-- a word and its place: its own, or that of the name in the source in whose replacement it stands
pub record Placed : Type 0 where
  pub cut : Cut
  pub place : Span
  pub replacement : Bool

-- a word of the source, with the macros in force there
pub record SourceWord : Type 0 where
  pub word : Placed
  pub macros : List Macro

-- whether pieces of this kind are words
abbrev pub is_word : Kind → Bool
is_word Name = true
is_word Number = true
is_word Text = true
is_word Sign = true
is_word Annotation = true
is_word _ = false

-- the word of a piece, if it is one
abbrev pub word_at : List ℕ → Scope → Cut → List SourceWord
word_at before scope c = if is_word c.kind then record { word = record { cut = c; place = place_after before; replacement = false }; macros = scope.macros } ∷ [] else []

abbrev pub part_words : List ℕ → Scope → Part → List SourceWord
part_words before scope (Piece c) = word_at before scope c
part_words before scope _ = []

abbrev pub words_from : List ℕ → Scope → List Part → List SourceWord
words_from before scope [] = []
words_from before scope (p ∷ parts) = part_words before scope p ++ words_from (before ++ part_bytes p) (scope_behind before scope p) parts

abbrev pub source_words : List Part → List SourceWord
source_words parts = words_from [] outermost parts
