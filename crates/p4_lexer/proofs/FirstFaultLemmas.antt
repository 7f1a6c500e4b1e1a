-- Which fault decides in sets of faults that are joined, or are the same.
use Rattle.std.proofs.Common.{◌≡◌, ◌≤◌, Option, Some, None, ◌⊎◌, inl, inr, refl, sym, ap, subst, arith}
use Rattle.std.specs.Prelude.{IfSome}
use Rattle.tg_base.specs.declared.place.Refusal.{Refusal}
use Rattle.tg_base.specs.Code.{number_of}
use Rattle.tg_base.specs.Deciding.{DecidesOver}
use Rattle.p4_lexer.specs.Scanning.{IsFirstOf}
use Rattle.p4_lexer.specs.PartFaults.{IsOneOf}
use Rattle.p4_lexer.proofs.DecidingLemmas.{Decides, decides_through}

pub some_is_not_none : {X : Type 0} (x : X) → Some x ≡ None → ⊥
some_is_not_none x same = cc

pub over_itself : (r s : Refusal) → s ≡ r → DecidesOver r s
over_itself r s same = inr (ap (λ x. x.line) (sym same), ap (λ x. x.column) (sym same), subst (λ x. number_of r.code ≤ number_of x.code) (sym same) (omega arith))

-- the fault of two sets that decides, from that of each
pub first_of_both : (faults others : Refusal → Type 0) (a b result : Option Refusal) → IsFirstOf faults a → IsFirstOf others b → IsOneOf a b result
    → IsFirstOf (λ r. faults r ⊎ others r) result
first_of_both faults others None None None no_fault no_other none = λ r found. by_case r found where
  by_case : (r : Refusal) → (faults r ⊎ others r) → ⊥
  by_case r (inl found) = no_fault r found
  by_case r (inr found) = no_other r found
first_of_both faults others (Some a) b None first second (is_none, other) = absurd (some_is_not_none a is_none)
first_of_both faults others None (Some b) None first second (other, is_none) = absurd (some_is_not_none b is_none)
first_of_both faults others a b (Some r) first second (either, over_a, over_b) = record {
  found = found_in either;
  first = decides;
} where
  found_in : ((a ≡ Some r) ⊎ (b ≡ Some r)) → faults r ⊎ others r
  found_in (inl is_a) = inl (subst (IsFirstOf faults) is_a first).found
  found_in (inr is_b) = inr (subst (IsFirstOf others) is_b second).found

  over : (set : Refusal → Type 0) (x : Option Refusal) → IsFirstOf set x → IfSome x (DecidesOver r) → (s : Refusal) → set s → DecidesOver r s
  over set None none above s found = absurd (none s found)
  over set (Some x) deciding above s found = decides_through r x s above (deciding.first s found)

  decides : (s : Refusal) → (faults s ⊎ others s) → DecidesOver r s
  decides s (inl found) = over faults a first over_a s found
  decides s (inr found) = over others b second over_b s found

-- the same faults have the same one that decides
pub first_same : (faults others : Refusal → Type 0) (r : Option Refusal) → ((f : Refusal) → faults f → others f) → ((f : Refusal) → others f → faults f) → IsFirstOf faults r → IsFirstOf others r
first_same faults others None into back first = λ f found. first f (back f found)
first_same faults others (Some r) into back first = record { found = into r first.found; first = λ s found. first.first s (back s found) }

pub first_from : (faults : Refusal → Type 0) (r : Option Refusal) → Decides faults r → IsFirstOf faults r
first_from faults None none = none
first_from faults (Some r) first = first

-- a set with one fault
pub first_alone : (faults : Refusal → Type 0) (r : Refusal) → faults r → ((f : Refusal) → faults f → f ≡ r) → IsFirstOf faults (Some r)
first_alone faults r found only = record { found = found; first = λ s other. over_itself r s (only s other) }

-- which of two was kept
pub one_kept : (a : Option Refusal) (fault r : Refusal) → (r ≡ fault) ⊎ (a ≡ Some r) → DecidesOver r fault → IfSome a (DecidesOver r) → IsOneOf a (Some fault) (Some r)
one_kept a fault r (inl is) over first = (inr (ap (λ x. Some x) (sym is)), first, over)
one_kept a fault r (inr is) over first = (inl is, first, over)

pub one_alone : (a : Option Refusal) → IsOneOf a None a
one_alone None = (refl, refl)
one_alone (Some r) = (inl refl, over_itself r r refl, tt)
