-- Annotations: `@name("text")`, `@defaultonly` and `@tableonly` are one token each, and any other is dropped with the
-- balanced part in parentheses that follows it (P4-16, "Annotations").
use Rattle.std.specs.Prelude.{◌≡◌, ◌≢◌, ℕ, List, [], ◌∷◌, ◌++◌, codes}
use Rattle.tg_base.specs.declared.place.Span.{Span}
use Rattle.p4_lexer.specs.declared.piece.Kind.TheVariants.{Text as TextPiece, Sign as SignPiece, Annotation}
use Rattle.p4_lexer.specs.Bytes.{quotation_mark}
use Rattle.p4_lexer.specs.SourceWords.{Placed}
use Rattle.p4_lexer.specs.Replacement.{Item, Word, Replaced}

-- a token before it is marked
pub data Bare : Type 0 where
  Plain : (word : Placed) → Bare
  Named : (text : List ℕ) (place : Span) → Bare
  DefaultOnly : (place : Span) → Bare
  TableOnly : (place : Span) → Bare

-- what is counted: a token, or a name that was replaced
pub data Entry : Type 0 where
  Token : (bare : Bare) → Entry
  Name : (place : Span) → Entry

abbrev pub words_among : List Item → List Placed
words_among [] = []
words_among (Word w ∷ items) = w ∷ words_among items
words_among (Replaced name ∷ items) = words_among items

-- of items that are dropped, the names that were replaced among them are still counted
abbrev pub names_among : List Item → List Entry
names_among [] = []
names_among (Word w ∷ items) = names_among items
names_among (Replaced name ∷ items) = Name name.place ∷ names_among items

abbrev pub IsSignOf : List ℕ → Placed → Type 0
IsSignOf sign w = w.cut ≡ record { kind = SignPiece; bytes = sign }

-- each parenthesis among the words has its partner there
pub data AreBalanced : List Placed → Type 0 where
  none : AreBalanced []
  other : (w : Placed) (words : List Placed) → (IsSignOf (codes "(") w → ⊥) → (IsSignOf (codes ")") w → ⊥) → AreBalanced words → AreBalanced (w ∷ words)
  group : (open_ close : Placed) (inside words : List Placed) → IsSignOf (codes "(") open_ → IsSignOf (codes ")") close → AreBalanced inside → AreBalanced words → AreBalanced (open_ ∷ inside ++ close ∷ words)

-- the items begin with `(`, end with the `)` that is its partner, and have these words between the two
pub record IsGroup (items : List Item) (inside : List Placed) : Type 0 where
  pub open_ : Placed
  pub close : Placed
  pub front : List Item
  pub last : items ≡ front ++ Word close ∷ []
  pub spelled : words_among items ≡ open_ ∷ inside ++ close ∷ []
  pub opens : IsSignOf (codes "(") open_
  pub closes : IsSignOf (codes ")") close
  pub balanced : AreBalanced inside

-- no such group begins the items
abbrev pub NoGroup : List Item → Type 0
NoGroup items = (group rest : List Item) (inside : List Placed) → items ≡ group ++ rest → IsGroup group inside → ⊥

abbrev pub IsAnnotationOf : List ℕ → Placed → Type 0
IsAnnotationOf spelling w = w.cut ≡ record { kind = Annotation; bytes = spelling }

-- one string stands between the parentheses
abbrev pub IsString : List Placed → List ℕ → Type 0
IsString inside text = (w : Placed) × (inside ≡ w ∷ []) × (w.cut ≡ record { kind = TextPiece; bytes = quotation_mark ∷ text ++ quotation_mark ∷ [] })

-- an annotation other than the two that are tokens
abbrev pub IsDropped : Placed → Type 0
IsDropped w = (w.cut.kind ≡ Annotation) × (w.cut.bytes ≢ codes "@defaultonly") × (w.cut.bytes ≢ codes "@tableonly")

-- what the items leave: tokens, and the names that were replaced
pub data Leaves : List Item → List Entry → Type 0 where
  none : Leaves [] []
  name : (w : Placed) (items : List Item) (entries : List Entry) → Leaves items entries → Leaves (Replaced w ∷ items) (Name w.place ∷ entries)
  plain : (w : Placed) (items : List Item) (entries : List Entry) → w.cut.kind ≢ Annotation → Leaves items entries → Leaves (Word w ∷ items) (Token (Plain w) ∷ entries)
  named : (w : Placed) (group items : List Item) (inside : List Placed) (text : List ℕ) (entries : List Entry)
      → IsAnnotationOf (codes "@name") w → IsGroup group inside → IsString inside text → Leaves items entries
      → Leaves (Word w ∷ group ++ items) (Token (Named text w.place) ∷ names_among group ++ entries)
  default_only : (w : Placed) (items : List Item) (entries : List Entry) → IsAnnotationOf (codes "@defaultonly") w → Leaves items entries → Leaves (Word w ∷ items) (Token (DefaultOnly w.place) ∷ entries)
  table_only : (w : Placed) (items : List Item) (entries : List Entry) → IsAnnotationOf (codes "@tableonly") w → Leaves items entries → Leaves (Word w ∷ items) (Token (TableOnly w.place) ∷ entries)
  dropped : (w : Placed) (group items : List Item) (inside : List Placed) (entries : List Entry)
      → IsDropped w → (IsAnnotationOf (codes "@name") w → (text : List ℕ) → IsString inside text → ⊥) → IsGroup group inside → Leaves items entries
      → Leaves (Word w ∷ group ++ items) (names_among group ++ entries)
  dropped_alone : (w : Placed) (items : List Item) (entries : List Entry)
      → IsDropped w → NoGroup items → Leaves items entries → Leaves (Word w ∷ items) entries
