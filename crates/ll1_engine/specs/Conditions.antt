-- The five conditions that the rows of a table meet or break.
use Rattle.std.specs.Prelude.{◌≡◌, ◌≢◌, ℕ, ◌<◌, List, [], ◌∷◌, ◌++◌, Some}
use Rattle.ll1_engine.specs.declared.grammar.Row.{Row}
use Rattle.ll1_engine.specs.declared.fault.Break.{Break}
use Rattle.ll1_engine.specs.declared.fault.Break.TheVariants.{Barren, Rank, Nullable as NullableTwice, First, Follow}
use Rattle.ll1_engine.specs.Table.{IsRow, IsToken}
use Rattle.ll1_engine.specs.Trees.{Productive, Nullable}
use Rattle.ll1_engine.specs.First.{BeginsWith, InFollow}

-- s is a row of the symbol of row k, other than row k
pub record IsOther (g : List Row) (k : ℕ) (r : Row) (j : ℕ) (s : Row) : Type 0 where
  pub row : IsRow g j s
  pub left : s.left ≡ r.left
  pub apart : j ≢ k

-- each place where t stands in the table is the first of row k
abbrev pub StandsOnlyFirstIn : List Row → ℕ → ℕ → Type 0
StandsOnlyFirstIn g t k = (j : ℕ) (s : Row) (before after : List ℕ) → IsRow g j s →
    s.right ≡ before ++ t ∷ after → (j ≡ k) × (before ≡ [])

-- row k, which is r, may have a rank above 0: its first symbol is a token that the table has nowhere else, and the one
-- other row of its symbol is empty and has rank 0. With such a row an `else` goes with the nearest `if` before it
pub record MayRank (g : List Row) (k : ℕ) (r : Row) : Type 0 where
  pub token : ℕ
  pub rest : List ℕ
  pub begins : r.right ≡ token ∷ rest
  pub terminal : IsToken g token
  pub once : StandsOnlyFirstIn g token k
  pub j : ℕ
  pub s : Row
  pub other : IsOther g k r j s
  pub empty : s.right ≡ []
  pub plain : s.rank ≡ 0
  pub only : (i : ℕ) (q : Row) → IsOther g k r i q → i ≡ j

-- row k and another row of its symbol derive the empty list
pub record BothNullable (g : List Row) (k : ℕ) (r : Row) : Type 0 where
  pub j : ℕ
  pub s : Row
  pub other : IsOther g k r j s
  pub here : Nullable g r.right
  pub there : Nullable g s.right

-- a token is in FIRST of row k and of another row of its symbol
pub record SharesFirst (g : List Row) (k : ℕ) (r : Row) : Type 0 where
  pub token : ℕ
  pub j : ℕ
  pub s : Row
  pub other : IsOther g k r j s
  pub here : BeginsWith g r.right token
  pub there : BeginsWith g s.right token

-- the row has rank 0, another row of its symbol derives the empty list, and a token is in FIRST of row k and in
-- FOLLOW of its symbol
pub record MeetsFollow (g : List Row) (k : ℕ) (r : Row) : Type 0 where
  pub plain : r.rank ≡ 0
  pub token : ℕ
  pub j : ℕ
  pub s : Row
  pub other : IsOther g k r j s
  pub empty : Nullable g s.right
  pub here : BeginsWith g r.right token
  pub behind : InFollow g r.left (Some token)

-- row k, which is r, meets the condition
abbrev pub Meets : List Row → ℕ → Row → Break → Type 0
Meets g k r Barren = Productive g (r.left ∷ [])
Meets g k r Rank = 0 < r.rank → MayRank g k r
Meets g k r NullableTwice = ¬ BothNullable g k r
Meets g k r First = ¬ SharesFirst g k r
Meets g k r Follow = ¬ MeetsFollow g k r

-- row k, which is r, breaks the condition
abbrev pub Breaks : List Row → ℕ → Row → Break → Type 0
Breaks g k r Barren = ¬ Productive g (r.left ∷ [])
Breaks g k r Rank = (0 < r.rank) × ¬ MayRank g k r
Breaks g k r NullableTwice = BothNullable g k r
Breaks g k r First = SharesFirst g k r
Breaks g k r Follow = MeetsFollow g k r

-- the order in which the conditions are named
abbrev pub place_of : Break → ℕ
place_of Barren = 0
place_of Rank = 1
place_of NullableTwice = 2
place_of First = 3
place_of Follow = 4

-- each row meets the five conditions
abbrev pub IsGood : List Row → Type 0
IsGood g = (k : ℕ) (r : Row) (b : Break) → IsRow g k r → Meets g k r b

-- row k breaks b, it meets the conditions before b, and each row before it meets all five
pub record IsFirstBreak (g : List Row) (k : ℕ) (b : Break) : Type 0 where
  pub r : Row
  pub row : IsRow g k r
  pub breaks : Breaks g k r b
  pub sooner : (a : Break) → place_of a < place_of b → Meets g k r a
  pub earlier : (j : ℕ) (s : Row) (a : Break) → j < k → IsRow g j s → Meets g j s a
