-- A text as its parts: pieces, the lines of directives, and the lines of parts that are not taken.
use Rattle.std.specs.Prelude.{◌≡◌, ◌≢◌, ℕ, Bool, false, IsTrue, not, ◌&&◌, ◌==◌, List, [], ◌∷◌, ◌++◌, Option, Some, None, length, Contains, ◌⊎◌}
use Rattle.std.specs.List.{list_all}
use Rattle.p4_lexer.specs.Bytes.{line_feed, hash, is_blank}
use Rattle.p4_lexer.specs.Places.{place_after}
use Rattle.p4_lexer.specs.Pieces.{Begins}
use Rattle.p4_lexer.specs.Cuts.{Cut, CutsInto, bytes_of, AreLine}
use Rattle.p4_lexer.specs.Directives.{Directive, IsDirective}
use Rattle.p4_lexer.specs.Scope.{Scope, outermost, is_taken, scope_after}

pub data Part : Type 0 where
  -- a piece in a part that is taken
  Piece : (cut : Cut) → Part
  -- a line that begins with `#` behind these blanks, and the directive that it is, if it is one
  Line : (lead : List ℕ) (pieces : List Cut) (directive : Option Directive) → Part
  -- the rest of a line in a part that is not taken
  Skipped : (bytes : List ℕ) → Part

abbrev pub part_bytes : Part → List ℕ
part_bytes (Piece c) = c.bytes
part_bytes (Line lead pieces directive) = lead ++ hash ∷ bytes_of pieces
part_bytes (Skipped bytes) = bytes

-- a line begins behind these bytes
abbrev pub AtLineStart : List ℕ → Type 0
AtLineStart before = (before ≡ []) ⊎ ((earlier : List ℕ) × (before ≡ earlier ++ line_feed ∷ []))

-- blanks of one line
abbrev pub is_lead : List ℕ → Bool
is_lead lead = list_all (λ c. is_blank c && not (c == line_feed)) lead

-- the first byte of the line that is not blank is a `#`
pub record BeginsWithHash (text : List ℕ) : Type 0 where
  pub lead : List ℕ
  pub rest : List ℕ
  pub spelled : text ≡ lead ++ hash ∷ rest
  pub blank : IsTrue (is_lead lead)

-- the bytes are the rest of a line with its line feed, or with none at the end of the text
abbrev pub IsRestOfLine : List ℕ → List ℕ → Type 0
IsRestOfLine bytes left =
    ((inside : List ℕ) × (bytes ≡ inside ++ line_feed ∷ []) × ¬ Contains inside line_feed)
    ⊎ ((bytes ≢ []) × (left ≡ []) × ¬ Contains bytes line_feed)

abbrev pub IsDirectiveOrNone : List Cut → Option Directive → Type 0
IsDirectiveOrNone pieces None = (d : Directive) → ¬ IsDirective pieces d
IsDirectiveOrNone pieces (Some d) = IsDirective pieces d

-- The part stands behind `before`, where this scope is in force, and `left` is behind it. A line that begins with `#` is
-- read for its directive everywhere; any other line stands piece by piece where it is taken, and is skipped where not.
abbrev pub StandsThere : List ℕ → Scope → Part → List ℕ → Type 0
StandsThere before scope (Piece c) left =
    IsTrue (is_taken scope)
    × ¬ (AtLineStart before × BeginsWithHash (c.bytes ++ left))
    × Begins (c.bytes ++ left) c.kind (length c.bytes)
StandsThere before scope (Line lead pieces directive) left =
    AtLineStart before
    × IsTrue (is_lead lead)
    × CutsInto (bytes_of pieces ++ left) pieces left
    × AreLine pieces left
    × IsDirectiveOrNone pieces directive
StandsThere before scope (Skipped bytes) left =
    (is_taken scope ≡ false)
    × ¬ (AtLineStart before × BeginsWithHash (bytes ++ left))
    × IsRestOfLine bytes left

-- what is in force behind a part
abbrev pub scope_behind : List ℕ → Scope → Part → Scope
scope_behind before scope (Line lead pieces (Some d)) = scope_after scope (place_after (before ++ lead)) d
scope_behind before scope _ = scope

-- the text behind `before`, where the scope is in force, is these parts
abbrev pub PartsFrom : List ℕ → Scope → List ℕ → List Part → Type 0
PartsFrom before scope text [] = text ≡ []
PartsFrom before scope text (p ∷ parts) =
    (left : List ℕ)
    × (text ≡ part_bytes p ++ left)
    × StandsThere before scope p left
    × PartsFrom (before ++ part_bytes p) (scope_behind before scope p) left parts

-- the whole text is these parts
abbrev pub AreParts : List ℕ → List Part → Type 0
AreParts text parts = PartsFrom [] outermost text parts
