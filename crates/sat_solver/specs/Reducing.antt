-- Literals that are dropped from a conflict, as long as the others conflict without them.
use Rattle.std.specs.Prelude.{◌≡◌, ◌<◌, ◌++◌, ℕ, List, Contains, length, take, drop, remove}
use Rattle.cnf_core.specs.declared.formula.Lit.{Lit}
use Rattle.cnf_core.specs.Literal.{IsApart}
use Rattle.cnf_core.specs.Propagation.{Sets, Conflicts}
use Rattle.unit_propagation.specs.Propagation.{Propagation, decisions, IsFull}

-- decided literals that are among others, and set these
pub record StandsFor (clauses : List (List Lit)) (few more : List Lit) : Type 0 where
  pub part : (l : Lit) → Contains few l → Contains more l
  pub sets : (l : Lit) → Contains more l → Sets clauses few l

-- those kept of the literals before the place conflict with the others, and not without any one of them
pub record KeepsConflict (clauses : List (List Lit)) (decided kept : List Lit) (place : ℕ) : Type 0 where
  pub part : (l : Lit) → Contains kept l → Contains (take place decided) l
  pub apart : IsApart kept
  pub conflict : Conflicts clauses (kept ++ drop place decided)
  pub needed : (i : ℕ) → i < length kept → ¬ Conflicts clauses (remove kept i ++ drop place decided)

-- and they are decided
pub record IsReduced (p : Propagation) (decided kept : List Lit) (place : ℕ) : Type 0 where
  pub decides : decisions p ≡ kept
  pub full : IsFull p p
  pub keeps : KeepsConflict p.clauses decided kept place
