-- What a checker's fields stand for, and how they fit together.
use Rattle.std.specs.Prelude.{List, ◌≡◌, ◌≤◌, ◌+◌, ◌↔◌, [], All, length, take, drop, IsTrue}
use Rattle.cnf_core.specs.declared.formula.Lit.{Lit}
use Rattle.unit_propagation.specs.Units.{IsWithin}
use Rattle.refutation_checker.specs.Derivation.{Derivation}
use Rattle.refutation_checker.specs.Acceptance.{IsAccepted, HasEmptyStep}
use Rattle.refutation_checker.specs.Cubes.{IsSettled}
use Rattle.refutation_checker.specs.Lines.{lines_of}
use Rattle.refutation_checker.specs.Variables.{IsNumbering, Numbers, width, external_clauses}
use Rattle.refutation_checker.specs.declared.checker.Checker.TheInside.{Inside}

-- the root's clauses in the variables' own numbers
abbrev pub clauses_of : Inside → List (List Lit)
clauses_of a = external_clauses a.variables a.root.clauses

-- the first of these are the formula, the others count as the lines
abbrev pub derivation_of : Inside → Derivation
derivation_of a = record {
  inputs = a.variables.inputs;
  clauses = take a.given (clauses_of a);
  derived = lines_of (drop a.given (clauses_of a)) a.evidence.items;
}

-- the root has what follows under no decision, or a conflict; tables fit the variables, and each line was accepted
pub record IsConsistent (a : Inside) : Type 0 where
  pub lines : a.given + length a.evidence.items ≡ length a.root.clauses
  pub root : IsSettled a.root a.conflict
  pub numbering : IsNumbering a.variables
  pub root_width : a.root.width ≡ width a.variables
  pub within : All (IsWithin (width a.variables)) a.root.clauses
  pub hinted_width : width a.variables ≤ a.hinted.width
  pub nothing_set : a.hinted.trail ≡ []
  pub variables : Numbers a.variables a.variables.inputs (take a.given (clauses_of a))
  pub accepted : IsAccepted (derivation_of a)
  pub empty_step : IsTrue a.refuted ↔ HasEmptyStep (derivation_of a)
