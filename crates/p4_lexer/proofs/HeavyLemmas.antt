-- The items that are within a weight weigh no more, and with the next one they do.
use Rattle.std.proofs.Common.{◌≡◌, ℕ, Bool, true, false, ◌+◌, ◌-◌, ◌≤◌, ◌<◌, List, [], ◌∷◌, ◌++◌, Option, Some, None, refl, sym, ap, subst, arith, nat_le}
use Rattle.std.proofs.lemmas.Bool.{leb-true, leb-false}
use Rattle.std.specs.Prelude.{if◌then◌else◌}
use Rattle.tg_base.specs.declared.place.Span.{Span}
use Rattle.tg_base.specs.declared.place.Refusal.{Refusal}
use Rattle.tg_base.specs.declared.place.Code.TheVariants.{Limit}
use Rattle.p4_lexer.specs.declared.limits.TheConstants.{MAX_WEIGHT}
use Rattle.p4_lexer.specs.Replacement.{Item}
use Rattle.p4_lexer.specs.Weight.{weight, total_weight, within}
use Rattle.p4_lexer.specs.Events.{IsNextPlace}
use Rattle.p4_lexer.specs.Tokens.{IsPastWeight, refusal_at}
use Rattle.p4_lexer.specs.Scanning.{IsFirstOf}
use Rattle.p4_lexer.proofs.ScanningLemmas.{first_is, rest_is, none_too_heavy, one_too_heavy}

pub total_within : (items : List Item) (most : ℕ) → total_weight (within most items) ≤ most
total_within [] most = omega arith
total_within (i ∷ items) most = by_test (total_within items (most - weight i)) (nat_le (weight i) most) refl where
  by_test : total_weight (within (most - weight i) items) ≤ most - weight i → (b : Bool) → nat_le (weight i) most ≡ b → total_weight (if b then i ∷ within (most - weight i) items else []) ≤ most
  by_test rest true fits = omega (arith, rest, leb-true (weight i) most fits)
  by_test rest false heavy = omega arith

next_is_heavy : (items : List Item) (most : ℕ) (next : Item) (more : List Item) → items ≡ within most items ++ next ∷ more → most < total_weight (within most items) + weight next
next_is_heavy [] most next more same = absurd (cc)
next_is_heavy (i ∷ items) most next more same = by_test (next_is_heavy items (most - weight i) next more) (nat_le (weight i) most) refl same where
  by_test : (items ≡ within (most - weight i) items ++ next ∷ more → most - weight i < total_weight (within (most - weight i) items) + weight next)
      → (b : Bool) → nat_le (weight i) most ≡ b → i ∷ items ≡ (if b then i ∷ within (most - weight i) items else []) ++ next ∷ more
      → most < total_weight (if b then i ∷ within (most - weight i) items else []) + weight next
  by_test rest true fits spelled =
      omega (arith, rest (rest_is i i items (within (most - weight i) items ++ next ∷ more) spelled), leb-true (weight i) most fits)
  by_test rest false heavy spelled = omega (arith, leb-false (weight i) most heavy, ap weight (first_is i next items more spelled))

-- the fault of the item that is too heavy decides among those of the weight, and there is none where all fit
pub weight_decides : (items : List Item) (place : Option Span) (fault : Option Refusal) → IsNextPlace items (within MAX_WEIGHT items) place
    → ((p : Span) → place ≡ Some p → fault ≡ Some (refusal_at Limit p)) → (place ≡ None → fault ≡ None) → IsFirstOf (IsPastWeight items) fault
weight_decides items None fault fits some none =
    subst (IsFirstOf (IsPastWeight items)) (sym (none refl)) (none_too_heavy items (subst (λ all. total_weight all ≤ MAX_WEIGHT) (sym fits) (total_within items MAX_WEIGHT)))
weight_decides items (Some p) fault (next, more, spelled, at) some none =
    subst (IsFirstOf (IsPastWeight items)) (sym (some p refl)) (one_too_heavy items p past) where
      past : IsPastWeight items (refusal_at Limit p)
      past = record {
        first = within MAX_WEIGHT items;
        next = next;
        rest = more;
        spelled = spelled;
        before = total_within items MAX_WEIGHT;
        past = next_is_heavy items MAX_WEIGHT next more spelled;
        is_limit = ap (refusal_at Limit) (sym at);
      }
