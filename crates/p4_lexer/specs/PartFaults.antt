-- What is wrong in a text, by what is found in each part, at its bytes, and behind its parts.
use Rattle.std.specs.Prelude.{◌≡◌, ℕ, ◌+◌, Bool, false, IsTrue, List, [], ◌∷◌, ◌++◌, Contains, Option, Some, None, take, drop, IfSome, ◌⊎◌}
use Rattle.std.specs.Str.{IsValidUpTo}
use Rattle.tg_base.specs.declared.place.Code.TheVariants.{NotText, Lex, Directive as DirectiveCode}
use Rattle.tg_base.specs.declared.place.Refusal.{Refusal}
use Rattle.tg_base.specs.declared.place.Span.{Span}
use Rattle.tg_base.specs.Deciding.{DecidesOver}
use Rattle.p4_lexer.specs.declared.extents.PieceAt.{PieceAt}
use Rattle.p4_lexer.specs.declared.scope.ConditionAt.{ConditionAt}
use Rattle.p4_lexer.specs.Bytes.{hash}
use Rattle.p4_lexer.specs.Places.{place_after}
use Rattle.p4_lexer.specs.Cuts.{Cut}
use Rattle.p4_lexer.specs.Scope.{Scope, Condition, is_taken, belongs}
use Rattle.p4_lexer.specs.Parts.{Part, Piece, Line, Skipped, part_bytes, scope_behind}
use Rattle.p4_lexer.specs.Extents.{cut_at}
use Rattle.p4_lexer.specs.BadPieces.{HasBadAt}
use Rattle.p4_lexer.specs.Tokens.{IsBadPiece, HasBadPiece, refusal_at, text_of}

-- the line of a directive stands behind `before`, with `left` behind it, and a piece behind its `#` is bad
pub record IsBadInLine (before lead : List ℕ) (pieces : List Cut) (left : List ℕ) (f : Refusal) : Type 0 where
  pub inside : List ℕ
  pub bad : HasBadPiece pieces left inside
  pub refusal : f ≡ refusal_at Lex (place_after (before ++ lead ++ hash ∷ inside))

-- what is wrong in a part that stands behind `before`, where the scope is in force, with `left` behind it
abbrev pub FaultHere : List ℕ → Scope → Part → List ℕ → Refusal → Type 0
FaultHere before scope (Piece c) left f = IsBadPiece c left × (f ≡ refusal_at Lex (place_after before))
FaultHere before scope (Line lead pieces None) left f = f ≡ refusal_at DirectiveCode (place_after (before ++ lead))
FaultHere before scope (Line lead pieces (Some d)) left f =
    (IsTrue (is_taken (scope_behind before scope (Line lead pieces (Some d)))) × IsBadInLine before lead pieces left f)
    ⊎ ((belongs scope d ≡ false) × (f ≡ refusal_at DirectiveCode (place_after (before ++ lead))))
FaultHere before scope (Skipped bytes) left f = ⊥

-- what is wrong in one of the parts behind `before`, where the scope is in force, with `left` behind them all
abbrev pub FaultsOf : List ℕ → Scope → List Part → List ℕ → Refusal → Type 0
FaultsOf before scope [] left f = ⊥
FaultsOf before scope (p ∷ parts) left f =
    FaultHere before scope p (text_of parts ++ left) f ⊎ FaultsOf (before ++ part_bytes p) (scope_behind before scope p) parts left f

-- the first byte that is no text
pub record IsNoText (text : List ℕ) (f : Refusal) : Type 0 where
  pub at : ℕ
  pub first : IsValidUpTo text at
  pub refusal : f ≡ refusal_at NotText (place_after (take at text))

-- one of the conditions is not ended
pub record IsNotEnded (conditions : List Condition) (f : Refusal) : Type 0 where
  pub inner : List Condition
  pub condition : Condition
  pub outer : List Condition
  pub spelled : conditions ≡ inner ++ condition ∷ outer
  pub refusal : f ≡ refusal_at DirectiveCode condition.place

-- the one of two faults that decides
abbrev pub IsOneOf : Option Refusal → Option Refusal → Option Refusal → Type 0
IsOneOf a b None = (a ≡ None) × (b ≡ None)
IsOneOf a b (Some r) = ((a ≡ Some r) ⊎ (b ≡ Some r)) × IfSome a (DecidesOver r) × IfSome b (DecidesOver r)

-- the piece is bad, and this is its refusal at its place
abbrev pub IsBadThere : List ℕ → PieceAt → Span → Refusal → Type 0
IsBadThere text piece place f = IsBadPiece (cut_at text piece) (drop (piece.extent.at + piece.extent.len) text) × (f ≡ refusal_at Lex place)

-- one of the pieces is bad where the part is taken
abbrev pub IsBadWhereTaken : List ℕ → List PieceAt → Bool → Refusal → Type 0
IsBadWhereTaken text pieces taken f = IsTrue taken × HasBadAt text pieces f

-- an `#else` or `#endif` at this place belongs to no condition
abbrev pub IsStray : Bool → Span → Refusal → Type 0
IsStray belongs place f = (belongs ≡ false) × (f ≡ refusal_at DirectiveCode place)

-- a condition among these is not ended
pub record IsOpenAt (conditions : List ConditionAt) (f : Refusal) : Type 0 where
  pub condition : ConditionAt
  pub there : Contains conditions condition
  pub refusal : f ≡ refusal_at DirectiveCode condition.place
