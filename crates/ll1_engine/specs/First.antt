-- FIRST and FOLLOW, the textbook's least sets. Each is given for one token, as the set of the symbols that
-- have the token in their FIRST, or in their FOLLOW.
use Rattle.std.specs.Prelude.{◌≡◌, ℕ, Bool, IsTrue, List, ◌∷◌, ◌++◌, Option, None, Some}
use Rattle.ll1_engine.specs.declared.grammar.Row.{Row}
use Rattle.ll1_engine.specs.Table.{IsRow, IsToken}
use Rattle.ll1_engine.specs.Trees.{Nullable}

-- closed under the rules of FIRST: a token begins with itself, and the left of a row with what a symbol of
-- its right side begins with, where the symbols before that one derive the empty list
pub record IsFirstSet (g : List Row) (t : ℕ) (p : ℕ → Bool) : Type 0 where
  pub itself : IsToken g t → IsTrue (p t)
  pub row : (k : ℕ) (r : Row) (before : List ℕ) (y : ℕ) (after : List ℕ) → IsRow g k r →
      r.right ≡ before ++ y ∷ after → Nullable g before → IsTrue (p y) → IsTrue (p r.left)

-- the token is in FIRST of the symbol: the symbol is in each such set
abbrev pub InFirst : List Row → ℕ → ℕ → Type 0
InFirst g x t = (p : ℕ → Bool) → IsFirstSet g t p → IsTrue (p x)

-- the token is in FIRST of a list of symbols
pub record BeginsWith (g : List Row) (symbols : List ℕ) (t : ℕ) : Type 0 where
  pub before : List ℕ
  pub symbol : ℕ
  pub after : List ℕ
  pub parts : symbols ≡ before ++ symbol ∷ after
  pub skipped : Nullable g before
  pub first : InFirst g symbol t

-- closed under the rules of FOLLOW, where e is a token, or none for the end: the end follows the start symbol,
-- what the symbols after one in a row begin with follows it, and so does what follows the left symbol, where
-- the symbols after it derive the empty list
pub record IsFollowSet (g : List Row) (e : Option ℕ) (p : ℕ → Bool) : Type 0 where
  pub start : e ≡ None → IsTrue (p 0)
  pub next : (k : ℕ) (r : Row) (before : List ℕ) (y : ℕ) (after : List ℕ) (t : ℕ) → IsRow g k r →
      r.right ≡ before ++ y ∷ after → e ≡ Some t → BeginsWith g after t → IsTrue (p y)
  pub left : (k : ℕ) (r : Row) (before : List ℕ) (y : ℕ) (after : List ℕ) → IsRow g k r →
      r.right ≡ before ++ y ∷ after → Nullable g after → IsTrue (p r.left) → IsTrue (p y)

-- the token, or the end, is in FOLLOW of the symbol: the symbol is in each such set
abbrev pub InFollow : List Row → ℕ → Option ℕ → Type 0
InFollow g x e = (p : ℕ → Bool) → IsFollowSet g e p → IsTrue (p x)
