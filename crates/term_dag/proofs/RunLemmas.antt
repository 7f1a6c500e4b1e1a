-- Runs of input bits that are fixed, or are not.
use Rattle.std.proofs.Common.{not, ◌≡◌, ℕ, ◌+◌, ◌-◌, ◌*◌, ◌<◌, ◌≤◌, ◌^◌, ◌⊎◌, inl, inr, Bool, true, false, List, Option, Some, None, length, reverse, slice_get, refl, sym, ap, subst, ◌∙◌, arith}
use Rattle.std.specs.Prelude.{slice_range, IfSome, IfNone, is_some, unwrap_or}
use Rattle.std.proofs.lemmas.Nat.{pow-add}
use Rattle.std.proofs.lemmas.Option.{slice_get_within}
use mathlib.Core.Bool.{beq}
use mir.Val.{bool_byte}
use Rattle.std.proofs.Math.Pow.{pow_mono}
use Rattle.bits_core.specs.BitList.{bit_value, number_of}
use Rattle.term_dag.specs.Substitution.{IsFixedAt, Overlays}
use Rattle.term_dag.proofs.BitRunLemmas.{range_one_more, number_one_more, no_bits}

pub same_bools : (a b : Bool) → not (beq a b) ≡ false → a ≡ b
same_bools true true e = refl
same_bools true false e = grind arith
same_bools false true e = grind arith
same_bools false false e = refl

-- the bits from one to another are fixed as the first is, or are free as that is
pub record IsRun (fixed : List (Option Bool)) (from to : ℕ) : Type 0 where
  pub all_fixed : IsFixedAt fixed from → (bit : ℕ) → from ≤ bit → bit < to → IsFixedAt fixed bit
  pub all_free : (IsFixedAt fixed from → ⊥) → (bit : ℕ) → from ≤ bit → bit < to → IsFixedAt fixed bit → ⊥

module _ (fixed : List (Option Bool)) (from : ℕ) where
  pub first_run : IsRun fixed from (from + 1)
  first_run = record {
    all_fixed = λ h bit l m. let e : from ≡ bit = omega arith in subst (IsFixedAt fixed) e h;
    all_free = λ h bit l m k. let e : bit ≡ from = omega arith in h (subst (IsFixedAt fixed) e k);
  }

  fixed_where_some : (n : ℕ) (o : Option Bool) → IfSome o (λ b. slice_get fixed n ≡ Some (Some b)) → is_some o ≡ true → IsFixedAt fixed n
  fixed_where_some n (Some b) h e = record { x = b; is = h }
  fixed_where_some n None h e = grind arith

  free_where_none : (n : ℕ) (o : Option Bool) → IfNone o (IsFixedAt fixed n → ⊥) → is_some o ≡ false → IsFixedAt fixed n → ⊥
  free_where_none n (Some b) h e = grind arith
  free_where_none n None h e = h

  -- the first bit and another, as the code reads them
  module _ (to : ℕ) (o p : Option Bool)
      (some : IfSome o (λ b. slice_get fixed from ≡ Some (Some b))) (none : IfNone o (IsFixedAt fixed from → ⊥))
      (some_there : IfSome p (λ b. slice_get fixed to ≡ Some (Some b))) (none_there : IfNone p (IsFixedAt fixed to → ⊥))
      (l : from < to) (run : IsRun fixed from to) where
    by_kind : (is_fixed : Bool) → is_some o ≡ is_fixed → is_some p ≡ is_fixed → IsRun fixed from (to + 1)
    by_kind true e f =
        let there = fixed_where_some to p some_there f in
        let here = fixed_where_some from o some e in
        record {
          all_fixed = λ h bit k m. either bit k m (run.all_fixed h bit k) there;
          all_free = λ h bit k m is. h here;
        }
      where
        either : (bit : ℕ) → from ≤ bit → bit < to + 1 → (bit < to → IsFixedAt fixed bit) → IsFixedAt fixed to → IsFixedAt fixed bit
        either bit k m before there =
            elim (split bit (omega arith)) [
              | inl less ↦ before less
              | inr same ↦ subst (IsFixedAt fixed) (sym same) there
            ]
          where
            split : (bit : ℕ) → bit ≤ to → (bit < to) ⊎ (bit ≡ to)
            split bit m = grind arith
    by_kind false e f =
        let there = free_where_none to p none_there f in
        let here = free_where_none from o none e in
        record {
          all_fixed = λ h bit k m. absurd (here h);
          all_free = λ h bit k m is. either bit m (run.all_free h bit k) there is;
        }
      where
        either : (bit : ℕ) → bit < to + 1 → (bit < to → IsFixedAt fixed bit → ⊥) → (IsFixedAt fixed to → ⊥) → IsFixedAt fixed bit → ⊥
        either bit m before there =
            elim (split bit (omega arith)) [
              | inl less ↦ before less
              | inr same ↦ subst (λ (n : ℕ). IsFixedAt fixed n → ⊥) (sym same) there
            ]
          where
            split : (bit : ℕ) → bit ≤ to → (bit < to) ⊎ (bit ≡ to)
            split bit m = grind arith

    pub longer_run : is_some p ≡ is_some o → IsRun fixed from (to + 1)
    longer_run e = by_kind (is_some o) refl e

    turned : (a b : Bool) → is_some o ≡ a → is_some p ≡ b → (b ≡ a → ⊥) → to ≤ length fixed
    turned true true e f differs = absurd (differs refl)
    turned false false e f differs = absurd (differs refl)
    turned false true e f differs =
        let there = fixed_where_some to p some_there f in
        omega (arith, slice_get_within fixed to (Some there.x) there.is)
    turned true false e f differs =
        let last = run.all_fixed (fixed_where_some from o some e) (to - 1) (omega arith) (omega arith) in
        omega (arith, slice_get_within fixed (to - 1) (Some last.x) last.is)

    pub turn_within : (is_some p ≡ is_some o → ⊥) → to ≤ length fixed
    turn_within differs = turned (is_some o) (is_some p) refl refl differs

-- ---- the number of a fixed run

pub room_for_double : (number from at to : ℕ) → number < 2 ^ (at - from) → from ≤ at → at < to → to ≤ from + 128 → 2 * number < 2 ^ 128
room_for_double number from at to small l k m =
    let power : 2 ^ (at - from) ≤ 2 ^ 127 = pow_mono {i = at - from} {j = 127} (omega arith) in
    omega arith

pub room_for_bit : (number from at to : ℕ) (b : Bool) → number < 2 ^ (at - from) → from ≤ at → at < to → to ≤ from + 128 → 2 * number + bool_byte b < 2 ^ 128
room_for_bit number from at to b small l k m =
    let power : 2 ^ (at - from) ≤ 2 ^ 127 = pow_mono {i = at - from} {j = 127} (omega arith) in
    omega (arith, bit b)
  where
    bit : (b : Bool) → bool_byte b ≤ 1
    bit true = omega arith
    bit false = omega arith

pub one_more_fits : (number from at : ℕ) (b : Bool) → number < 2 ^ (at - from) → from ≤ at → 2 * number + bool_byte b < 2 ^ (at + 1 - from)
one_more_fits number from at b small l =
    let e : at + 1 - from ≡ 1 + (at - from) = omega arith in
    let power : 2 ^ (at + 1 - from) ≡ 2 * 2 ^ (at - from) = ap (λ n. 2 ^ n) e ∙ pow-add 2 1 (at - from) in
    omega (arith, bit b)
  where
    bit : (b : Bool) → bool_byte b ≤ 1
    bit true = omega arith
    bit false = omega arith

pub one_more_number : (fixed : List (Option Bool)) (number from at : ℕ) (o : Option Bool) → from ≤ at
    → IfSome o (λ b. slice_get fixed at ≡ Some (Some b)) → IfNone o (IsFixedAt fixed at → ⊥) → IsFixedAt fixed at
    → ((under over : List Bool) → Overlays fixed under over → number ≡ number_of (reverse (slice_range over from at)))
    → (under over : List Bool) → Overlays fixed under over
    → 2 * number + bool_byte (unwrap_or o false) ≡ number_of (reverse (slice_range over from (at + 1)))
one_more_number fixed number from at None l some none is far under over overlaid = absurd (none is)
one_more_number fixed number from at (Some b) l some none is far under over overlaid =
    let more = range_one_more over from at b l (overlaid.fixed_there at b some) in
    let e : 2 * number ≡ 2 * number_of (reverse (slice_range over from at)) = ap (λ n. 2 * n) (far under over overlaid) in
    sym (ap (λ l. number_of (reverse l)) more ∙ number_one_more (slice_range over from at) b
    ∙ (λ i. sym e i + byte b i))
  where
    byte : (b : Bool) → bit_value b ≡ bool_byte b
    byte true = refl
    byte false = refl

pub number_of_none : (from : ℕ) (over : List Bool) → 0 ≡ number_of (reverse (slice_range over from from))
number_of_none from over = sym (ap (λ l. number_of (reverse l)) (no_bits over from))
