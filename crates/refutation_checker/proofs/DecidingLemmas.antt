-- Literals that are not open, and what came of a decision.
use Rattle.std.proofs.Common.{◌≡◌, List, refl, ◌⊎◌, inl, inr, [], ◌∷◌, ◌++◌, subst}
use Rattle.std.specs.Prelude.{◌↔◌}
use Rattle.cnf_core.specs.declared.formula.Lit.{Lit}
use Rattle.cnf_core.specs.Propagation.{Conflicts}
use Rattle.unit_propagation.specs.Propagation.{Propagation, Extends, FollowsAs, decisions}
use Rattle.unit_propagation.specs.declared.assignment.Truth.{Truth}
use Rattle.unit_propagation.specs.declared.assignment.Truth.TheVariants.{True, False}
use Rattle.refutation_checker.specs.Deciding.{Decides, IsSetUnder}
use Rattle.refutation_checker.specs.declared.decide.Decision.{Decision}
use Rattle.refutation_checker.specs.declared.decide.Decision.TheVariants.{Refused, Conflict, Full}

-- a literal that is not open
pub is_set : (p : Propagation) (l : Lit) (t : Truth) → FollowsAs p l t → (t ≡ True) ⊎ (t ≡ False) → IsSetUnder p.clauses (decisions p) l
is_set p l t follows (inl is_true) = inl (subst (FollowsAs p l) is_true follows)
is_set p l t follows (inr is_false) = inr (subst (FollowsAs p l) is_false follows)

-- what is said of the clauses and decisions of one propagator is said of another's
pub conflicts_same : (a b : Propagation) (more : List Lit) → Extends a b → decisions b ≡ decisions a ++ more → Conflicts b.clauses (decisions b) ↔ Conflicts a.clauses (decisions a ++ more)
conflicts_same a b more h same =
    subst (λ (cs : List (List Lit)). Conflicts b.clauses (decisions b) ↔ Conflicts cs (decisions a ++ more)) h.clauses
    (subst (λ (ds : List Lit). Conflicts b.clauses (decisions b) ↔ Conflicts b.clauses ds) same ((λ c. c), (λ c. c)))

-- what came of a decision, where that was not to go on, or was no conflict
pub not_full : (a b : Propagation) (l : Lit) (d : Decision) → Decides a b l d → (d ≡ Full → ⊥) → IsSetUnder a.clauses (decisions a) l ⊎ Conflicts a.clauses (decisions a ++ l ∷ [])
not_full a b l Refused h differs = inl h
not_full a b l Conflict h differs = inr h.1
not_full a b l Full h differs = absurd (differs refl)

pub not_conflict : (a b : Propagation) (l : Lit) (d : Decision) → Decides a b l d → (d ≡ Conflict → ⊥) → IsSetUnder a.clauses (decisions a) l ⊎ (Conflicts a.clauses (decisions a ++ l ∷ []) → ⊥)
not_conflict a b l Refused h differs = inl h
not_conflict a b l Conflict h differs = absurd (differs refl)
not_conflict a b l Full h differs = inr h.1
