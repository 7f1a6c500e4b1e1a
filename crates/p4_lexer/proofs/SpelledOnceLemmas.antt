-- A word is spelled as one keyword, one reserved word or one sign at most, and no reserved word is a keyword.
use Rattle.std.proofs.Common.{◌≡◌, ℕ, List, Option, None, Some, refl, sym, ap, ◌∙◌}
use Rattle.std.specs.List.{find}
use Rattle.std.specs.Str.{bytes_eq}
use Rattle.p4_lexer.specs.declared.token.Keyword.{Keyword}
use Rattle.p4_lexer.specs.declared.token.Reserved.{Reserved}
use Rattle.p4_lexer.specs.declared.token.Reserved.TheVariants as r
use Rattle.p4_lexer.specs.declared.token.Sign.{Sign}
use Rattle.p4_lexer.specs.declared.spellings.TheConstants.{KEYWORDS, RESERVED, SIGNS}
use Rattle.p4_lexer.specs.Spellings.{keyword_spelling, reserved_spelling, sign_spelling}
use Rattle.p4_lexer.proofs.SpellingLemmas.{keyword_exact, reserved_exact, sign_exact}

abbrev pub keyword_by : List ℕ → Option Keyword
keyword_by name = find (λ v. bytes_eq (keyword_spelling v) name) KEYWORDS

abbrev pub reserved_by : List ℕ → Option Reserved
reserved_by name = find (λ v. bytes_eq (reserved_spelling v) name) RESERVED

abbrev pub sign_by : List ℕ → Option Sign
sign_by name = find (λ v. bytes_eq (sign_spelling v) name) SIGNS

same_some : {W : Type 0} (v w : W) → Some v ≡ Some w → v ≡ w
same_some v w e = cc

pub one_keyword : (name : List ℕ) (a b : Keyword) → name ≡ keyword_spelling a → name ≡ keyword_spelling b → a ≡ b
one_keyword name a b p q = same_some a b (sym ((keyword_exact name (keyword_by name) refl a).1 p) ∙ (keyword_exact name (keyword_by name) refl b).1 q)

pub one_reserved : (name : List ℕ) (a b : Reserved) → name ≡ reserved_spelling a → name ≡ reserved_spelling b → a ≡ b
one_reserved name a b p q = same_some a b (sym ((reserved_exact name (reserved_by name) refl a).1 p) ∙ (reserved_exact name (reserved_by name) refl b).1 q)

pub one_sign : (name : List ℕ) (a b : Sign) → name ≡ sign_spelling a → name ≡ sign_spelling b → a ≡ b
one_sign name a b p q = same_some a b (sym ((sign_exact name (sign_by name) refl a).1 p) ∙ (sign_exact name (sign_by name) refl b).1 q)

no_keyword_by : (w : Reserved) → keyword_by (reserved_spelling w) ≡ None
no_keyword_by r.Extern = refl
no_keyword_by r.Package = refl
no_keyword_by r.Varbit = refl
no_keyword_by r.HeaderUnion = refl
no_keyword_by r.Tuple = refl
no_keyword_by r.Void = refl
no_keyword_by r.MatchKind = refl
no_keyword_by r.ValueSet = refl

none_some : {W : Type 0} (w : W) → None ≡ Some w → ⊥
none_some w e = cc

pub keyword_apart : (name : List ℕ) (a : Keyword) (b : Reserved) → name ≡ keyword_spelling a → name ≡ reserved_spelling b → ⊥
keyword_apart name a b p q = none_some a (sym (no_keyword_by b) ∙ ap keyword_by (sym q) ∙ (keyword_exact name (keyword_by name) refl a).1 p)
