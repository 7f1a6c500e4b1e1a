-- From what holds of each member of a set to its mask, and from the mask back.
use Rattle.std.proofs.Common.{◌≡◌, ℕ, ◌-◌, ◌^◌, ◌<◌, ◌≤◌, sym, ◌∙◌, arith, ⊎_elim}
use Rattle.std.specs.Int.{bit_at}
use Rattle.std.proofs.lemmas.Bool.{cases_lt, cases_eq}
use Rattle.std.proofs.lemmas.Nat.Bits.{bit_at_above, bit_at_ones, bit_at-lt}
use Rattle.taint_domain.specs.Results.{MasksAll}
use Rattle.taint_domain.specs.Tainted.{IsSameOutside}

-- where each member has n's bits outside the mask, the mask has all that differ
pub masks_all : (set : ℕ → Type 0) (n m : ℕ) → ((z : ℕ) → set z → IsSameOutside m n z) → MasksAll set n m
masks_all set n m same = record {
  bits = λ i can.
      ⊎_elim
      (λ (clear : bit_at m i < 1). absurd (can.differs ((same can.z can.of).bits i (omega arith))))
      (λ (set : 1 ≤ bit_at m i). omega (arith, bit_at-lt m i))
      (cases_lt (bit_at m i) 1);
}

pub same_where_masked : (set : ℕ → Type 0) (n m z : ℕ) → MasksAll set n m → set z → IsSameOutside m n z
same_where_masked set n m z all of = record {
  bits = λ i clear.
      ⊎_elim
      (λ (same : bit_at z i ≡ bit_at n i). same)
      (λ (differs : bit_at z i ≡ bit_at n i → ⊥).
      absurd (omega (arith, all.bits i (record { z = z; of = of; differs = differs }))))
      (cases_eq (bit_at z i) (bit_at n i));
}

-- numbers of w bits are the same from place w on
pub same_outside_below : (w m n x : ℕ) → n < 2 ^ w → x < 2 ^ w → ((i : ℕ) → i < w → bit_at m i ≡ 0 → bit_at x i ≡ bit_at n i) →
    IsSameOutside m n x
same_outside_below w m n x p q same = record {
  bits = λ i clear.
      ⊎_elim
      (λ (within : i < w). same i within clear)
      (λ (above : w ≤ i). bit_at_above x w i q above ∙ sym (bit_at_above n w i p above))
      (cases_lt i w);
}

pub same_outside_ones : (w n x : ℕ) → n < 2 ^ w → x < 2 ^ w → IsSameOutside (2 ^ w - 1) n x
same_outside_ones w n x p q =
    same_outside_below w (2 ^ w - 1) n x p q (λ i within clear. absurd (omega (arith, bit_at_ones w i within)))
