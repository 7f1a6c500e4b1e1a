-- Where the part in parentheses ends that begins at an index of the items, and which annotation a word is.
use Rattle.std.specs.Prelude.{◌≡◌, ◌≢◌, ℕ, ◌-◌, ◌≤◌, ◌<◌, List, length, slice_index_or, take, drop, codes, Option, Some, None}
use Rattle.p4_lexer.specs.declared.piece.Kind.TheVariants.{Annotation}
use Rattle.p4_lexer.specs.declared.annotations.Sort.{Sort}
use Rattle.p4_lexer.specs.declared.annotations.Sort.TheVariants.{Plain, AtName, DefaultOnly, TableOnly, Other}
use Rattle.p4_lexer.specs.declared.groups.Parenthesis.{Parenthesis}
use Rattle.p4_lexer.specs.declared.groups.Parenthesis.TheVariants.{Opening, Closing, Neither}
use Rattle.p4_lexer.specs.declared.extents.Item.{Item as ItemAt}
use Rattle.p4_lexer.specs.declared.extents.Item.TheVariants.{Word as WordAt, Replaced as ReplacedAt}
use Rattle.p4_lexer.specs.Extents.{IsIn}
use Rattle.p4_lexer.specs.SourceWords.{Placed}
use Rattle.p4_lexer.specs.Replacement.{Item}
use Rattle.p4_lexer.specs.Annotations.{IsSignOf, IsGroup, NoGroup, IsAnnotationOf, IsDropped}

-- the word is this parenthesis
abbrev pub IsParenthesis : Parenthesis → Placed → Type 0
IsParenthesis Opening w = IsSignOf (codes "(") w
IsParenthesis Closing w = IsSignOf (codes ")") w
IsParenthesis Neither w = (IsSignOf (codes "(") w → ⊥) × (IsSignOf (codes ")") w → ⊥)

-- a part in parentheses goes from one index up to another
abbrev pub GroupFrom : List Item → ℕ → ℕ → Type 0
GroupFrom items at end = (at ≤ end) × (end ≤ length items) × (inside : List Placed) × IsGroup (take (end - at) (drop at items)) inside

-- the part in parentheses that begins at the first index ends at the second, or none begins there
abbrev pub EndsAt : List Item → ℕ → Option ℕ → Type 0
EndsAt items at (Some end) = GroupFrom items at end
EndsAt items at None = NoGroup (drop at items)

-- the word is of this sort
abbrev pub IsSort : Sort → Placed → Type 0
IsSort Plain w = w.cut.kind ≢ Annotation
IsSort AtName w = IsAnnotationOf (codes "@name") w
IsSort DefaultOnly w = IsAnnotationOf (codes "@defaultonly") w
IsSort TableOnly w = IsAnnotationOf (codes "@tableonly") w
IsSort Other w = IsDropped w × (IsAnnotationOf (codes "@name") w → ⊥)

-- for each item, where the part in parentheses ends that begins there
abbrev pub AreEnds : List Item → List (Option ℕ) → Type 0
AreEnds items ends = (length ends ≡ length items) × ((at : ℕ) → at < length items → EndsAt items at (slice_index_or ends at None))

-- the bytes of a word lie in the text
abbrev pub IsItemIn : List ℕ → ItemAt → Type 0
IsItemIn text (WordAt w) = IsIn text w.piece.extent
IsItemIn text (ReplacedAt w) = Unit {0}
