-- The fault that decides of some faults and one more.
use Rattle.std.proofs.Common.{◌≡◌, ◌⊎◌, inl, inr, Option, Some, None, MatchOption, sym, ◌∙◌, subst, arith}
use Rattle.tg_base.specs.declared.place.Refusal.{Refusal}
use Rattle.tg_base.specs.Deciding.{StandsBefore, DecidesOver, IsDeciding}

-- no fault is there, or this one decides
abbrev pub Decides : (Refusal → Type 0) → Option Refusal → Type 0
Decides faults best = MatchOption best ((f : Refusal) → ¬ faults f) (IsDeciding faults)

before_through : (r s t : Refusal) → StandsBefore r s → StandsBefore s t → StandsBefore r t
before_through r s t (inl a) (inl b) = inl (omega arith)
before_through r s t (inl a) (inr b) = inl (omega (arith, b.0))
before_through r s t (inr a) (inl b) = inl (omega (arith, a.0))
before_through r s t (inr a) (inr b) = inr (a.0 ∙ b.0, omega (arith, a.1, b.1))

before_same : (r s t : Refusal) → StandsBefore r s → s.line ≡ t.line → s.column ≡ t.column → StandsBefore r t
before_same r s t (inl a) line column = inl (omega arith)
before_same r s t (inr a) line column = inr (a.0 ∙ line, omega (arith, a.1))

same_before : (r s t : Refusal) → r.line ≡ s.line → r.column ≡ s.column → StandsBefore s t → StandsBefore r t
same_before r s t line column (inl b) = inl (omega arith)
same_before r s t line column (inr b) = inr (line ∙ b.0, omega (arith, b.1))

pub decides_through : (r s t : Refusal) → DecidesOver r s → DecidesOver s t → DecidesOver r t
decides_through r s t (inl a) (inl b) = inl (before_through r s t a b)
decides_through r s t (inl a) (inr b) = inl (before_same r s t a b.0 b.1)
decides_through r s t (inr a) (inl b) = inl (same_before r s t a.0 a.1 b)
decides_through r s t (inr a) (inr b) = inr (a.0 ∙ b.0, a.1 ∙ b.1, omega (arith, a.2, b.2))

abbrev pub and_one : (Refusal → Type 0) → Refusal → Refusal → Type 0
and_one faults fault f = faults f ⊎ (f ≡ fault)

found_is : (best : Refusal) (r : Refusal) → Some best ≡ Some r → best ≡ r
found_is best r e = cc

-- where there was no fault so far
pub kept_none : (faults : Refusal → Type 0) (r fault : Refusal) → ((f : Refusal) → ¬ faults f) → (r ≡ fault) ⊎ (None ≡ Some r) → DecidesOver r fault → IsDeciding (and_one faults fault) r
kept_none faults r fault none (inl e) over = record {
  found = inr e;
  first = λ s f. elim f [ inl earlier ↦ absurd (none s earlier) | inr one ↦ subst (DecidesOver r) (sym one) over ];
}
kept_none faults r fault none (inr e) over = absurd cc

-- where one decided
pub kept : (faults : Refusal → Type 0) (best r fault : Refusal) → IsDeciding faults best → (r ≡ fault) ⊎ (Some best ≡ Some r) → DecidesOver r fault → DecidesOver r best → IsDeciding (and_one faults fault) r
kept faults best r fault d either over first = record {
  found = elim either [ inl e ↦ inr e | inr e ↦ inl (subst faults (found_is best r e) d.found) ];
  first = λ s f. elim f [ inl earlier ↦ decides_through r best s first (d.first s earlier) | inr one ↦ subst (DecidesOver r) (sym one) over ];
}
