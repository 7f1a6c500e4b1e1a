-- Each word is of one sort where annotations are read.
use Rattle.std.proofs.Common.{◌≡◌, ◌≢◌, ℕ, false, List, codes, refl, ap, ◌∙◌, if◌then◌else◌, inl, inr}
use Rattle.std.specs.Str.{bytes_eq}
use Rattle.std.proofs.lemmas.Bool.{cases_Bool, both_ways}
use Rattle.std.proofs.lemmas.Slice.Eq.{bytes_eq-Decides}
use Rattle.p4_lexer.specs.declared.annotations.Sort.{Sort}
use Rattle.p4_lexer.specs.declared.annotations.Sort.TheVariants.{Plain, AtName, DefaultOnly, TableOnly, Other}
use Rattle.p4_lexer.specs.declared.piece.Kind.{Kind}
use Rattle.p4_lexer.specs.declared.piece.Kind.TheVariants.{Annotation}
use Rattle.p4_lexer.specs.SourceWords.{Placed}
use Rattle.p4_lexer.specs.Groups.{IsSort}
use Rattle.p4_lexer.proofs.ParenthesisLemmas.{cut_of}

abbrev spelled : List ℕ → Sort
spelled bytes = if bytes_eq bytes (codes "@name") then AtName else if bytes_eq bytes (codes "@defaultonly") then DefaultOnly else if bytes_eq bytes (codes "@tableonly") then TableOnly else Other

abbrev which : Kind → List ℕ → Sort
which Annotation bytes = spelled bytes
which _ bytes = Plain

-- the sort of a word
abbrev pub sort : Placed → Sort
sort w = which w.cut.kind w.cut.bytes

fails_at : (bytes spelling : List ℕ) → bytes_eq bytes spelling ≡ false → bytes ≢ spelling
fails_at bytes spelling fails e = both_ways (bytes_eq bytes spelling) fails ((bytes_eq-Decides bytes spelling).1 e)

not_at : (bytes spelling : List ℕ) → bytes ≢ spelling → bytes_eq bytes spelling ≡ false
not_at bytes spelling differs = elim (cases_Bool (bytes_eq bytes spelling)) [
  | inl holds ↦ absurd (differs ((bytes_eq-Decides bytes spelling).0 holds))
  | inr fails ↦ fails
]

plain_sort : (kind : Kind) (bytes : List ℕ) → kind ≢ Annotation → which kind bytes ≡ Plain
plain_sort Annotation bytes differs = absurd (differs refl)
plain_sort _ bytes differs = refl

other_sort : (bytes : List ℕ) → bytes ≢ codes "@name" → bytes ≢ codes "@defaultonly" → bytes ≢ codes "@tableonly" → spelled bytes ≡ Other
other_sort bytes name default table = rw (not_at bytes (codes "@name") name, not_at bytes (codes "@defaultonly") default, not_at bytes (codes "@tableonly") table) refl

-- a word of this sort has no other
pub is_sort : (s : Sort) (w : Placed) → IsSort s w → sort w ≡ s
is_sort Plain w is = plain_sort w.cut.kind w.cut.bytes is
is_sort AtName w is = ap (λ c. which c.kind c.bytes) is
is_sort DefaultOnly w is = ap (λ c. which c.kind c.bytes) is
is_sort TableOnly w is = ap (λ c. which c.kind c.bytes) is
is_sort Other w (dropped, no_name) =
    ap (λ k. which k w.cut.bytes) dropped.0 ∙ other_sort w.cut.bytes (λ e. no_name (ap (λ k. cut_of k w.cut.bytes) dropped.0 ∙ ap (cut_of Annotation) e)) dropped.1 dropped.2

abbrev word_of : Kind → List ℕ → Placed → Placed
word_of kind bytes w = record { cut = cut_of kind bytes; place = w.place; replacement = w.replacement }

spelled_is : (bytes : List ℕ) (w : Placed) → IsSort (spelled bytes) (word_of Annotation bytes w)
spelled_is bytes w = elim (cases_Bool (bytes_eq bytes (codes "@name"))) [
  | inl holds ↦ rw holds (ap (cut_of Annotation) ((bytes_eq-Decides bytes (codes "@name")).0 holds))
  | inr no_name ↦ rw no_name (elim (cases_Bool (bytes_eq bytes (codes "@defaultonly"))) [
    | inl holds ↦ rw holds (ap (cut_of Annotation) ((bytes_eq-Decides bytes (codes "@defaultonly")).0 holds))
    | inr no_default ↦ rw no_default (elim (cases_Bool (bytes_eq bytes (codes "@tableonly"))) [
      | inl holds ↦ rw holds (ap (cut_of Annotation) ((bytes_eq-Decides bytes (codes "@tableonly")).0 holds))
      | inr no_table ↦ rw no_table (
        (refl, fails_at bytes (codes "@defaultonly") no_default, fails_at bytes (codes "@tableonly") no_table),
        λ e. fails_at bytes (codes "@name") no_name (ap (λ c. c.bytes) e),
      )
    ])
  ])
]

which_is : (kind : Kind) (bytes : List ℕ) (w : Placed) → IsSort (which kind bytes) (word_of kind bytes w)
which_is Annotation bytes w = spelled_is bytes w
which_is _ bytes w = λ e. cc

-- each word is of a sort
pub sort_is : (w : Placed) → IsSort (sort w) w
sort_is w = which_is w.cut.kind w.cut.bytes w
