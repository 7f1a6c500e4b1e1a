-- What stands at the front of a text of words: a number, a statement, or statements and the skeleton's end; and the texts
-- that are such words behind the skeleton's head.
use Rattle.std.specs.Prelude.{◌≡◌, ℕ, ◌<◌, ◌≤◌, List, ◌++◌, length, slice_index}
use Rattle.std.specs.Char.{is_ascii_digit}
use Rattle.std.specs.Fmt.{decimal}
use Rattle.std.specs.List.{flat_map, prefix_len, AllByRecursion}
use Rattle.p4_program.specs.declared.program.StatementKind.{StatementKind}
use Rattle.p4_program.specs.declared.v1model.TheConstants.{PORT_END}
use Rattle.testgen_engine.specs.declared.skeleton.TheConstants.{MOST_STATEMENTS}
use Rattle.testgen_engine.specs.Skeleton.{tail_text, statement_text, source_text, FitsNineBits}

-- the text does not begin with a digit
abbrev pub StartsNoDigit : List ℕ → Type 0
StartsNoDigit text = prefix_len is_ascii_digit text ≡ 0

-- one to three digits, and no zero before others
pub record IsPlain (digits : List ℕ) : Type 0 where
  pub some : 0 < length digits
  pub few : length digits ≤ 3
  pub no_zero : slice_index digits 0 ≡ 48 → length digits ≡ 1

-- a number of nine bits stands at the front, and then this, which does not go on with a digit
pub record IsNumberAt (text : List ℕ) (value : ℕ) (rest : List ℕ) : Type 0 where
  pub nine_bits : value < PORT_END
  pub whole : text ≡ decimal value ++ rest
  pub ends : StartsNoDigit rest

abbrev pub IsNoNumber : List ℕ → Type 0
IsNoNumber text = (value : ℕ) (rest : List ℕ) → IsNumberAt text value rest → ⊥

-- a statement stands at the front, and then this
pub record IsStatementAt (text : List ℕ) (kind : StatementKind) (rest : List ℕ) : Type 0 where
  pub fits : FitsNineBits kind
  pub whole : text ≡ statement_text kind ++ rest

abbrev pub IsNoStatement : List ℕ → Type 0
IsNoStatement text = (kind : StatementKind) (rest : List ℕ) → IsStatementAt text kind rest → ⊥

-- the text is these statements and the skeleton's end
pub record IsBody (text : List ℕ) (kinds : List StatementKind) : Type 0 where
  pub fit : AllByRecursion FitsNineBits kinds
  pub whole : text ≡ flat_map statement_text kinds ++ tail_text

abbrev pub IsNoBody : List ℕ → Type 0
IsNoBody text = (kinds : List StatementKind) → IsBody text kinds → ⊥

-- the text is that of the skeleton with these statements
pub record IsSkeletonOf (text : List ℕ) (kinds : List StatementKind) : Type 0 where
  pub few : length kinds ≤ MOST_STATEMENTS
  pub fit : AllByRecursion FitsNineBits kinds
  pub whole : text ≡ source_text kinds

abbrev pub IsNoSkeleton : List ℕ → Type 0
IsNoSkeleton text = (kinds : List StatementKind) → IsSkeletonOf text kinds → ⊥
