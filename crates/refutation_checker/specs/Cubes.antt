-- A cube whose literals are decided one after the other, and how far that has come.
use Rattle.std.specs.Prelude.{◌≡◌, ℕ, Bool, false, IsTrue, ◌<◌, ◌++◌, ◌∷◌, [], List, take, remove}
use Rattle.cnf_core.specs.declared.formula.Lit.{Lit}
use Rattle.cnf_core.specs.Literal.{IsApart}
use Rattle.cnf_core.specs.Propagation.{Conflicts}
use Rattle.unit_propagation.specs.Propagation.{Propagation, decisions, IsFull}
use Rattle.refutation_checker.specs.Acceptance.{LeavesOpen, IsEachNeeded}

-- nothing is decided, and what follows is set, without a conflict
pub record IsRoot (p : Propagation) : Type 0 where
  pub decides : decisions p ≡ []
  pub full : IsFull p p
  pub no_conflict : ¬ Conflicts p.clauses []

-- nothing is decided, and what follows is set; or that conflicts
pub record IsSettled (p : Propagation) (conflict : Bool) : Type 0 where
  pub root : conflict ≡ false → IsRoot p
  pub conflicts : IsTrue conflict → Conflicts p.clauses []

-- the literals before the place are decided, and the clauses need each of them
pub record IsReached (p : Propagation) (cube : List Lit) (place : ℕ) : Type 0 where
  pub decides : decisions p ≡ take place cube
  pub full : IsFull p p
  pub apart : IsApart (take place cube)
  pub no_conflict : ¬ Conflicts p.clauses (take place cube)
  pub needed : (k : ℕ) → k < place → ¬ Conflicts p.clauses (remove cube k)

-- a least conflict, over any variables
pub record IsLeast (clauses : List (List Lit)) (cube : List Lit) : Type 0 where
  pub apart : IsApart cube
  pub conflict : Conflicts clauses cube
  pub needed : IsEachNeeded clauses cube
  pub last : (rest : List Lit) × (l : Lit) × (cube ≡ rest ++ l ∷ []) × LeavesOpen clauses rest l
