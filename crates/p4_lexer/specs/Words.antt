-- How words, blanks and comments are spelled (P4-16, "Lexical constructs"), and what goes on to the end where
-- a comment or a string is not ended.
use Rattle.std.specs.Prelude.{◌≡◌, ◌≢◌, ℕ, IsTrue, not, ◌==◌, List, [], ◌∷◌, ◌++◌}
use Rattle.std.specs.List.{list_all}
use Rattle.p4_lexer.specs.Bytes.{line_feed, quotation_mark, star, slash, at_sign, backslash, underscore, is_blank, begins_name, is_in_name}

-- one blank
abbrev pub IsBlank : List ℕ → Type 0
IsBlank [] = ⊥
IsBlank (c ∷ w) = IsTrue (is_blank c) × (w ≡ [])

-- a letter or `_`, and then letters, digits and `_`. A `_` alone is a sign
abbrev pub IsName : List ℕ → Type 0
IsName [] = ⊥
IsName (c ∷ w) = IsTrue (begins_name c) × IsTrue (list_all is_in_name w) × (c ∷ w ≢ underscore ∷ [])

-- `@` and a name
abbrev pub IsAnnotation : List ℕ → Type 0
IsAnnotation [] = ⊥
IsAnnotation (c ∷ w) = (c ≡ at_sign) × IsName w

-- characters of a string: each but `"`, `\` and the line feed stands for itself, and behind a `\` any one may stand
pub data AreCharacters : List ℕ → Type 0 where
  none : AreCharacters []
  plain : (c : ℕ) (w : List ℕ) → c ≢ quotation_mark → c ≢ backslash → c ≢ line_feed → AreCharacters w → AreCharacters (c ∷ w)
  escaped : (c : ℕ) (w : List ℕ) → AreCharacters w → AreCharacters (backslash ∷ c ∷ w)

-- a string
pub record IsText (w : List ℕ) : Type 0 where
  pub inside : List ℕ
  pub spelled : w ≡ quotation_mark ∷ inside ++ quotation_mark ∷ []
  pub characters : AreCharacters inside

-- a string that is not ended
pub record IsOpenText (w : List ℕ) : Type 0 where
  pub inside : List ℕ
  pub spelled : w ≡ quotation_mark ∷ inside
  pub characters : AreCharacters inside

-- a `*/` stands somewhere in w
pub record HasClose (w : List ℕ) : Type 0 where
  pub before : List ℕ
  pub after : List ℕ
  pub spelled : w ≡ before ++ star ∷ slash ∷ after

-- a comment up to the end of its line
pub record IsLineComment (w : List ℕ) : Type 0 where
  pub inside : List ℕ
  pub spelled : w ≡ slash ∷ slash ∷ inside
  pub one_line : IsTrue (list_all (λ c. not (c == line_feed)) inside)

-- a comment up to the next `*/`
pub record IsBlockComment (w : List ℕ) : Type 0 where
  pub inside : List ℕ
  pub spelled : w ≡ slash ∷ star ∷ inside ++ star ∷ slash ∷ []
  pub next : ¬ HasClose inside

-- a comment that is not ended
pub record IsOpenComment (w : List ℕ) : Type 0 where
  pub inside : List ℕ
  pub spelled : w ≡ slash ∷ star ∷ inside
  pub open_ : ¬ HasClose inside
