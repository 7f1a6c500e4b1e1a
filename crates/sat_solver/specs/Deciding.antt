-- Literals that are decided one after the other, each with what follows from it.
use Rattle.std.specs.Prelude.{◌≡◌, ◌-◌, ◌<◌, ◌⊎◌, ◌++◌, ◌∷◌, ℕ, Bool, true, false, List, [], Some, All, Contains, length, slice_get, slice_index_or, take}
use Rattle.cnf_core.specs.declared.formula.Lit.{Lit}
use Rattle.cnf_core.specs.Literal.{IsApart}
use Rattle.cnf_core.specs.Propagation.{Conflicts}
use Rattle.unit_propagation.specs.Propagation.{Propagation, decisions, IsFull}
use Rattle.refutation_checker.specs.Derivation.{IsInput}
use Rattle.refutation_checker.specs.Acceptance.{LeavesOpen}

-- those before each literal leave it open
abbrev pub OpensEach : List (List Lit) → List Lit → Type 0
OpensEach clauses decided =
    (i : ℕ) (d : Lit) → i < length decided → LeavesOpen clauses (take i decided) (slice_index_or decided i d)

-- inputs, each of which those before it leave open
pub record AreOpenInputs (inputs : ℕ) (clauses : List (List Lit)) (decided : List Lit) : Type 0 where
  pub are_inputs : All (λ l. IsInput inputs l.var) decided
  pub apart : IsApart decided
  pub opens : OpensEach clauses decided

-- these literals are decided, and what follows is set, without a conflict
pub record IsReached (inputs : ℕ) (p : Propagation) (decided : List Lit) : Type 0 where
  pub decides : decisions p ≡ decided
  pub full : IsFull p p
  pub open_inputs : AreOpenInputs inputs p.clauses decided
  pub no_conflict : ¬ Conflicts p.clauses decided

-- these literals conflict, and those before the last do not
pub record EndsInConflict (inputs : ℕ) (clauses : List (List Lit)) (decided : List Lit) : Type 0 where
  pub open_inputs : AreOpenInputs inputs clauses decided
  pub conflict : Conflicts clauses decided
  pub rest : List Lit
  pub last : Lit
  pub parts : decided ≡ rest ++ last ∷ []
  pub no_conflict : ¬ Conflicts clauses rest

abbrev pub literal : ℕ → Bool → Lit
literal var positive = record { var = var; positive = positive }

-- the variable is set one way
abbrev pub IsSetOneWay : List Lit → ℕ → Type 0
IsSetOneWay trail var = Contains trail (literal var true) ⊎ Contains trail (literal var false)

-- each variable from 1 to a number is set
abbrev pub AreSetTo : ℕ → List Lit → Type 0
AreSetTo highest trail = (var : ℕ) → IsInput highest var → IsSetOneWay trail var

-- what comes of a literal, or of several: they conflict, or they are reached
abbrev pub Comes : ℕ → Propagation → List Lit → Bool → Type 0
Comes inputs new decided true = EndsInConflict inputs new.clauses decided
Comes inputs new decided false = IsReached inputs new decided

-- a truth is that of a variable in the trail
abbrev pub SaysVariable : List Lit → ℕ → Bool → Type 0
SaysVariable trail var truth = (positive : Bool) → Contains trail (literal var positive) → truth ≡ positive

-- the valuation makes true the literals of the trail over variables from 1 below a number
abbrev pub GivesTrail : List Bool → ℕ → List Lit → Type 0
GivesTrail valuation width trail =
    (l : Lit) → 0 < l.var → l.var < width → Contains trail l → slice_get valuation (l.var - 1) ≡ Some l.positive
