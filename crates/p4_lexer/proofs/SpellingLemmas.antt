-- The word that is found in the table by its spelling is the one that is spelled so.
use Rattle.std.proofs.Common.{◌≡◌, ◌↔◌, ℕ, List, [], ◌∷◌, Option, Some, refl, sym, ap, ◌∙◌, inl, inr}
use Rattle.std.specs.List.{find}
use Rattle.std.specs.Str.{bytes_eq}
use Rattle.std.proofs.lemmas.Bool.{cases_Bool}
use Rattle.std.proofs.lemmas.Slice.Eq.{bytes_eq-Decides}
use Rattle.p4_lexer.specs.declared.token.Keyword.{Keyword}
use Rattle.p4_lexer.specs.declared.token.Keyword.TheVariants as k
use Rattle.p4_lexer.specs.declared.token.Reserved.{Reserved}
use Rattle.p4_lexer.specs.declared.token.Reserved.TheVariants as r
use Rattle.p4_lexer.specs.declared.token.Sign.{Sign}
use Rattle.p4_lexer.specs.declared.token.Sign.TheVariants as s
use Rattle.p4_lexer.specs.declared.spellings.TheConstants.{KEYWORDS, RESERVED, SIGNS}
use Rattle.p4_lexer.specs.Spellings.{keyword_spelling, reserved_spelling, sign_spelling}

some_same : {W : Type 0} (v w : W) → Some v ≡ Some w → v ≡ w
some_same v w e = search e

find_spelled : {W : Type 0} (spell : W → List ℕ) (words : List W) (spelling : List ℕ) (word : W) → find (λ v. bytes_eq (spell v) spelling) words ≡ Some word → spelling ≡ spell word
find_spelled spell [] spelling word found = absurd cc
find_spelled spell (w ∷ words) spelling word found = elim (cases_Bool (bytes_eq (spell w) spelling)) [
  | inl here ↦
      let same : Some w ≡ Some word = rw here at found in
      sym ((bytes_eq-Decides (spell w) spelling).0 here) ∙ ap spell (some_same w word same)
  | inr not_here ↦ find_spelled spell words spelling word (rw not_here at found)
]

keyword_found : (word : Keyword) → find (λ v. bytes_eq (keyword_spelling v) (keyword_spelling word)) KEYWORDS ≡ Some word
keyword_found k.Action = refl
keyword_found k.Actions = refl
keyword_found k.Apply = refl
keyword_found k.Bit = refl
keyword_found k.Bool = refl
keyword_found k.Const = refl
keyword_found k.Control = refl
keyword_found k.Default = refl
keyword_found k.Else = refl
keyword_found k.Entries = refl
keyword_found k.Enum = refl
keyword_found k.Error = refl
keyword_found k.Exit = refl
keyword_found k.False = refl
keyword_found k.Header = refl
keyword_found k.If = refl
keyword_found k.In = refl
keyword_found k.Inout = refl
keyword_found k.Int = refl
keyword_found k.Key = refl
keyword_found k.Out = refl
keyword_found k.Parser = refl
keyword_found k.Return = refl
keyword_found k.Select = refl
keyword_found k.State = refl
keyword_found k.Struct = refl
keyword_found k.Switch = refl
keyword_found k.Table = refl
keyword_found k.Transition = refl
keyword_found k.True = refl
keyword_found k.Typedef = refl

pub keyword_exact : (spelling : List ℕ) (r : Option Keyword) → r ≡ find (λ v. bytes_eq (keyword_spelling v) spelling) KEYWORDS → (word : Keyword) → (r ≡ Some word) ↔ (spelling ≡ keyword_spelling word)
keyword_exact spelling r e word = (
  λ found. find_spelled keyword_spelling KEYWORDS spelling word (sym e ∙ found),
  λ spelled. e ∙ ap (λ s. find (λ v. bytes_eq (keyword_spelling v) s) KEYWORDS) spelled ∙ keyword_found word,
)

reserved_found : (word : Reserved) → find (λ v. bytes_eq (reserved_spelling v) (reserved_spelling word)) RESERVED ≡ Some word
reserved_found r.Extern = refl
reserved_found r.Package = refl
reserved_found r.Varbit = refl
reserved_found r.HeaderUnion = refl
reserved_found r.Tuple = refl
reserved_found r.Void = refl
reserved_found r.MatchKind = refl
reserved_found r.ValueSet = refl

pub reserved_exact : (spelling : List ℕ) (r : Option Reserved) → r ≡ find (λ v. bytes_eq (reserved_spelling v) spelling) RESERVED → (word : Reserved) → (r ≡ Some word) ↔ (spelling ≡ reserved_spelling word)
reserved_exact spelling r e word = (
  λ found. find_spelled reserved_spelling RESERVED spelling word (sym e ∙ found),
  λ spelled. e ∙ ap (λ s. find (λ v. bytes_eq (reserved_spelling v) s) RESERVED) spelled ∙ reserved_found word,
)

sign_found : (word : Sign) → find (λ v. bytes_eq (sign_spelling v) (sign_spelling word)) SIGNS ≡ Some word
sign_found s.Mask = refl
sign_found s.SaturatingPlus = refl
sign_found s.SaturatingMinus = refl
sign_found s.ShiftLeft = refl
sign_found s.ShiftRight = refl
sign_found s.AtMost = refl
sign_found s.AtLeast = refl
sign_found s.Equal = refl
sign_found s.NotEqual = refl
sign_found s.And = refl
sign_found s.Or = refl
sign_found s.Concat = refl
sign_found s.Range = refl
sign_found s.Plus = refl
sign_found s.Minus = refl
sign_found s.Star = refl
sign_found s.Slash = refl
sign_found s.Percent = refl
sign_found s.Ampersand = refl
sign_found s.Bar = refl
sign_found s.Caret = refl
sign_found s.Tilde = refl
sign_found s.Not = refl
sign_found s.Less = refl
sign_found s.Greater = refl
sign_found s.Assign = refl
sign_found s.LeftParen = refl
sign_found s.RightParen = refl
sign_found s.LeftBrace = refl
sign_found s.RightBrace = refl
sign_found s.LeftBracket = refl
sign_found s.RightBracket = refl
sign_found s.Comma = refl
sign_found s.Semicolon = refl
sign_found s.Colon = refl
sign_found s.Dot = refl
sign_found s.Question = refl
sign_found s.Underscore = refl

pub sign_exact : (spelling : List ℕ) (r : Option Sign) → r ≡ find (λ v. bytes_eq (sign_spelling v) spelling) SIGNS → (word : Sign) → (r ≡ Some word) ↔ (spelling ≡ sign_spelling word)
sign_exact spelling r e word = (
  λ found. find_spelled sign_spelling SIGNS spelling word (sym e ∙ found),
  λ spelled. e ∙ ap (λ s. find (λ v. bytes_eq (sign_spelling v) s) SIGNS) spelled ∙ sign_found word,
)
