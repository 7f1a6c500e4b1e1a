-- Literals that are decided on top of others, and what came of it.
use Rattle.std.specs.Prelude.{◌≡◌, ℕ, ◌⊎◌, ◌++◌, ◌∷◌, [], List, Some, slice_get, take}
use Rattle.cnf_core.specs.declared.formula.Lit.{Lit}
use Rattle.cnf_core.specs.Propagation.{Sets, Conflicts}
use Rattle.unit_propagation.specs.Propagation.{Propagation, decisions, IsFull, IsRefuted}
use Rattle.refutation_checker.specs.Acceptance.{LeavesOpen}
use Rattle.refutation_checker.specs.declared.decide.Decision.{Decision}
use Rattle.refutation_checker.specs.declared.decide.Decision.TheVariants.{Refused, Conflict, Full}

-- the decided literals set the literal, or rule it out
abbrev pub IsSetUnder : List (List Lit) → List Lit → Lit → Type 0
IsSetUnder clauses decided l = Sets clauses decided l ⊎ IsRefuted clauses decided l

-- one of the literals is set by those that are decided before it
abbrev pub HasSet : List (List Lit) → List Lit → List Lit → Type 0
HasSet clauses decided lits =
    (k : ℕ) × (l : Lit) × (slice_get lits k ≡ Some l) × IsSetUnder clauses (decided ++ take k lits) l

-- what comes of one literal more
abbrev pub Decides : Propagation → Propagation → Lit → Decision → Type 0
Decides old new l Refused = IsSetUnder old.clauses (decisions old) l
Decides old new l Conflict = LeavesOpen old.clauses (decisions old) l × Conflicts old.clauses (decisions old ++ l ∷ [])
Decides old new l Full =
    LeavesOpen old.clauses (decisions old) l × (¬ Conflicts old.clauses (decisions old ++ l ∷ [])) ×
    (decisions new ≡ decisions old ++ l ∷ []) × IsFull new new
