-- The tokens of a source, and the faults of one that has none.
use Rattle.std.specs.Prelude.{◌≡◌, ℕ, ◌+◌, ◌≤◌, ◌<◌, false, IsTrue, List, [], ◌∷◌, ◌++◌, length, take, Some, None, ◌⊎◌}
use Rattle.std.specs.List.{flat_map}
use Rattle.std.specs.Char.{is_ascii_alphabetic}
use Rattle.std.specs.Str.{IsValidUpTo}
use Rattle.tg_base.specs.declared.place.Span.{Span}
use Rattle.tg_base.specs.declared.place.Code.{Code}
use Rattle.tg_base.specs.declared.place.Code.TheVariants.{NotText, Lex, Directive as DirectiveCode, Limit}
use Rattle.tg_base.specs.declared.place.Refusal.{Refusal}
use Rattle.tg_base.specs.Deciding.{IsDeciding}
use Rattle.p4_lexer.specs.declared.limits.TheConstants.{MAX_WORDS, MAX_WEIGHT}
use Rattle.p4_lexer.specs.declared.piece.Kind.TheVariants.{Number, OpenComment, OpenText, Stray}
use Rattle.p4_lexer.specs.declared.token.Tokens.{Tokens}
use Rattle.p4_lexer.specs.Bytes.{hash}
use Rattle.p4_lexer.specs.Places.{place_after}
use Rattle.p4_lexer.specs.Cuts.{Cut, bytes_of}
use Rattle.p4_lexer.specs.Directives.{Directive}
use Rattle.p4_lexer.specs.Scope.{Scope, Condition, outermost, is_taken, belongs}
use Rattle.p4_lexer.specs.Parts.{Part, Piece, Line, part_bytes, scope_behind, AreParts}
use Rattle.p4_lexer.specs.SourceWords.{source_words}
use Rattle.p4_lexer.specs.Replacement.{Item, AreItems}
use Rattle.p4_lexer.specs.Weight.{word_of, weight, total_weight, within}
use Rattle.p4_lexer.specs.Annotations.{Bare, Entry, Token as Counted, Name, Leaves}
use Rattle.p4_lexer.specs.Marks.{place_of, Become}

-- A text read through all layers but the marks. Annotations are looked for among the items that are within the limit of
-- weight: what is behind them is refused anyway, and a part in parentheses that does not end there has no partner.
pub record Reading (text : List ℕ) : Type 0 where
  pub parts : List Part
  pub items : List Item
  pub entries : List Entry
  pub are_parts : AreParts text parts
  pub are_items : AreItems (source_words parts) items
  pub leaves : Leaves (within MAX_WEIGHT items) entries

-- the tokens among what is counted
abbrev pub tokens_among : List Entry → List Bare
tokens_among [] = []
tokens_among (Counted b ∷ entries) = b ∷ tokens_among entries
tokens_among (Name place ∷ entries) = tokens_among entries

abbrev pub entry_place : Entry → Span
entry_place (Counted b) = place_of b
entry_place (Name place) = place

-- what is in force behind parts
abbrev pub scope_of : List ℕ → Scope → List Part → Scope
scope_of before scope [] = scope
scope_of before scope (p ∷ parts) = scope_of (before ++ part_bytes p) (scope_behind before scope p) parts

-- a part with the parts before it and behind it
pub record IsPartOf (parts : List Part) (earlier : List Part) (p : Part) (later : List Part) : Type 0 where
  pub spelled : parts ≡ earlier ++ p ∷ later

abbrev pub text_of : List Part → List ℕ
text_of parts = flat_map part_bytes parts

abbrev pub scope_before : List Part → Scope
scope_before earlier = scope_of [] outermost earlier

-- a letter stands first
abbrev pub BeginsWithLetter : List ℕ → Type 0
BeginsWithLetter [] = ⊥
BeginsWithLetter (c ∷ text) = IsTrue (is_ascii_alphabetic c)

-- the piece is no word, or a comment or string that is not ended, or a number that a letter follows directly
abbrev pub IsBadPiece : Cut → List ℕ → Type 0
IsBadPiece c left = (c.kind ≡ Stray) ⊎ ((c.kind ≡ OpenText) ⊎ ((c.kind ≡ OpenComment) ⊎ ((c.kind ≡ Number) × BeginsWithLetter left)))

-- the pieces have a bad one behind `before`
pub record HasBadPiece (cuts : List Cut) (left before : List ℕ) : Type 0 where
  pub earlier : List Cut
  pub bad : Cut
  pub later : List Cut
  pub spelled : cuts ≡ earlier ++ bad ∷ later
  pub place : before ≡ bytes_of earlier
  pub is_bad : IsBadPiece bad (bytes_of later ++ left)

abbrev pub refusal_at : Code → Span → Refusal
refusal_at code place = record { code = code; line = place.line; column = place.column }

-- what is wrong in the parts of a text
pub data IsPartFault (text : List ℕ) (parts : List Part) : Refusal → Type 0 where
  -- the first byte that is no text
  not_text : (n : ℕ) → IsValidUpTo text n → IsPartFault text parts (refusal_at NotText (place_after (take n text)))
  -- a bad piece in a part that is taken
  lex : (earlier : List Part) (c : Cut) (later : List Part) → IsPartOf parts earlier (Piece c) later
      → IsBadPiece c (text_of later) → IsPartFault text parts (refusal_at Lex (place_after (text_of earlier)))
  -- one behind the `#` of a directive, where the part is taken behind it
  lex_in_line : (earlier : List Part) (lead : List ℕ) (pieces : List Cut) (d : Directive) (later : List Part) (inside : List ℕ) → IsPartOf parts earlier (Line lead pieces (Some d)) later
      → IsTrue (is_taken (scope_behind (text_of earlier) (scope_before earlier) (Line lead pieces (Some d))))
      → HasBadPiece pieces (text_of later) inside
      → IsPartFault text parts (refusal_at Lex (place_after (text_of earlier ++ lead ++ hash ∷ inside)))
  -- a line that begins with `#` and is no directive
  no_directive : (earlier : List Part) (lead : List ℕ) (pieces : List Cut) (later : List Part) → IsPartOf parts earlier (Line lead pieces None) later
      → IsPartFault text parts (refusal_at DirectiveCode (place_after (text_of earlier ++ lead)))
  -- an `#else` or `#endif` that belongs to no open condition
  stray_directive : (earlier : List Part) (lead : List ℕ) (pieces : List Cut) (d : Directive) (later : List Part) → IsPartOf parts earlier (Line lead pieces (Some d)) later
      → belongs (scope_before earlier) d ≡ false → IsPartFault text parts (refusal_at DirectiveCode (place_after (text_of earlier ++ lead)))
  -- a condition that is not ended
  not_ended : (inner outer : List Condition) (c : Condition) → (scope_before parts).conditions ≡ inner ++ c ∷ outer → IsPartFault text parts (refusal_at DirectiveCode c.place)

-- one token or replaced name too many
pub record IsPastCount (entries : List Entry) (fault : Refusal) : Type 0 where
  pub first : List Entry
  pub next : Entry
  pub rest : List Entry
  pub spelled : entries ≡ first ++ next ∷ rest
  pub count : length first ≡ MAX_WORDS
  pub is_limit : fault ≡ refusal_at Limit (entry_place next)

-- the word or replaced name that is too heavy
pub record IsPastWeight (items : List Item) (fault : Refusal) : Type 0 where
  pub first : List Item
  pub next : Item
  pub rest : List Item
  pub spelled : items ≡ first ++ next ∷ rest
  pub before : total_weight first ≤ MAX_WEIGHT
  pub past : MAX_WEIGHT < total_weight first + weight next
  pub is_limit : fault ≡ refusal_at Limit (word_of next).place

-- the faults of a text that reads so
abbrev pub IsFault : (text : List ℕ) → Reading text → Refusal → Type 0
IsFault text r fault = IsPartFault text r.parts fault ⊎ (IsPastCount r.entries fault ⊎ IsPastWeight r.items fault)

-- the text has these tokens
pub record HasTokens (text : List ℕ) (tokens : Tokens) : Type 0 where
  pub reading : Reading text
  pub faultless : (fault : Refusal) → IsFault text reading fault → ⊥
  pub become : Become [] (tokens_among reading.entries) tokens.tokens
  pub ended : tokens.end ≡ place_after text

-- the text has no tokens, and this fault decides
pub record IsRefused (text : List ℕ) (fault : Refusal) : Type 0 where
  pub reading : Reading text
  pub decides : IsDeciding (IsFault text reading) fault
