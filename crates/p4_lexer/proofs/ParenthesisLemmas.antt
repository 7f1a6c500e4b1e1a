-- Each word is one parenthesis or neither.
use Rattle.std.proofs.Common.{◌≡◌, ℕ, false, List, codes, refl, sym, ap, ◌∙◌, if◌then◌else◌, inl, inr}
use Rattle.std.specs.Str.{bytes_eq}
use Rattle.std.proofs.lemmas.Bool.{cases_Bool, both_ways}
use Rattle.std.proofs.lemmas.Slice.Eq.{bytes_eq-Decides}
use Rattle.p4_lexer.specs.declared.piece.Kind.{Kind}
use Rattle.p4_lexer.specs.declared.piece.Kind.TheVariants.{Sign as SignPiece}
use Rattle.p4_lexer.specs.declared.groups.Parenthesis.{Parenthesis}
use Rattle.p4_lexer.specs.declared.groups.Parenthesis.TheVariants.{Opening, Closing, Neither}
use Rattle.p4_lexer.specs.Cuts.{Cut}
use Rattle.p4_lexer.specs.SourceWords.{Placed}
use Rattle.p4_lexer.specs.Groups.{IsParenthesis}

abbrev pub cut_of : Kind → List ℕ → Cut
cut_of kind bytes = record { kind = kind; bytes = bytes }

abbrev IsIt : Parenthesis → Cut → Type 0
IsIt Opening c = c ≡ cut_of SignPiece (codes "(")
IsIt Closing c = c ≡ cut_of SignPiece (codes ")")
IsIt Neither c = (c ≡ cut_of SignPiece (codes "(") → ⊥) × (c ≡ cut_of SignPiece (codes ")") → ⊥)

abbrev sign_is : List ℕ → Parenthesis
sign_is bytes = if bytes_eq bytes (codes "(") then Opening else if bytes_eq bytes (codes ")") then Closing else Neither

abbrev which : Kind → List ℕ → Parenthesis
which SignPiece bytes = sign_is bytes
which _ bytes = Neither

spelled : (bytes sign : List ℕ) → bytes_eq bytes sign ≡ false → cut_of SignPiece bytes ≡ cut_of SignPiece sign → ⊥
spelled bytes sign fails e = both_ways (bytes_eq bytes sign) fails ((bytes_eq-Decides bytes sign).1 (ap (λ c. c.bytes) e))

which_is : (kind : Kind) (bytes : List ℕ) → IsIt (which kind bytes) (cut_of kind bytes)
which_is SignPiece bytes = elim (cases_Bool (bytes_eq bytes (codes "("))) [
  | inl opens ↦ rw opens (ap (cut_of SignPiece) ((bytes_eq-Decides bytes (codes "(")).0 opens))
  | inr no_open ↦ rw no_open (elim (cases_Bool (bytes_eq bytes (codes ")"))) [
    | inl closes ↦ rw closes (ap (cut_of SignPiece) ((bytes_eq-Decides bytes (codes ")")).0 closes))
    | inr no_close ↦ rw no_close (spelled bytes (codes "(") no_open, spelled bytes (codes ")") no_close)
  ])
]
which_is _ bytes = (λ e. let h = ap (λ c. c.kind) e in cc, λ e. let h = ap (λ c. c.kind) e in cc)

unfolded : (p : Parenthesis) (w : Placed) → IsIt p w.cut → IsParenthesis p w
unfolded Opening w is = is
unfolded Closing w is = is
unfolded Neither w is = is

-- the parenthesis that a word is
abbrev pub parenthesis : Placed → Parenthesis
parenthesis w = which w.cut.kind w.cut.bytes

pub parenthesis_is : (w : Placed) → IsParenthesis (parenthesis w) w
parenthesis_is w = unfolded (parenthesis w) w (which_is w.cut.kind w.cut.bytes)

not_both : (w : Placed) → IsParenthesis Opening w → IsParenthesis Closing w → ⊥
not_both w opens closes = both_ways (bytes_eq (codes "(") (codes ")")) refl ((bytes_eq-Decides (codes "(") (codes ")")).1 (ap (λ c. c.bytes) (sym opens ∙ closes)))

-- and no other
pub one_parenthesis : (p q : Parenthesis) (w : Placed) → IsParenthesis p w → IsParenthesis q w → p ≡ q
one_parenthesis Opening Opening w a b = refl
one_parenthesis Opening Closing w a b = absurd (not_both w a b)
one_parenthesis Opening Neither w a b = absurd (b.0 a)
one_parenthesis Closing Opening w a b = absurd (not_both w b a)
one_parenthesis Closing Closing w a b = refl
one_parenthesis Closing Neither w a b = absurd (b.1 a)
one_parenthesis Neither Opening w a b = absurd (a.0 b)
one_parenthesis Neither Closing w a b = absurd (a.1 b)
one_parenthesis Neither Neither w a b = refl

pub is_parenthesis : (p : Parenthesis) (w : Placed) → IsParenthesis p w → parenthesis w ≡ p
is_parenthesis p w is = one_parenthesis (parenthesis w) p w (parenthesis_is w) is
