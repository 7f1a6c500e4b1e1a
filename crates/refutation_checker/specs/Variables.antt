-- The variables of a derivation in close numbers. As solvers call them: a variable's own number is external, that of the
-- tables internal.
use Rattle.std.specs.Prelude.{ℕ, Bool, List, cond, nat_le, length, map, slice_index_or, ◌+◌, ◌-◌, ◌<◌, ◌≡◌, ◌↔◌, ◌⊎◌, ◌^◌, All, Any, Contains, IsTrue}
use Rattle.std.specs.List.Sorted.{IsStrictlyIncreasing}
use Rattle.cnf_core.specs.declared.formula.Lit.{Lit}
use Rattle.cnf_core.specs.declared.derivation.Step.{Step}
use Rattle.cnf_core.specs.Literal.{negation, IsApart}
use Rattle.refutation_checker.specs.Derivation.{IsInput, IsVariable}
use Rattle.refutation_checker.specs.Hints.{HintsConflict}

-- the inputs, whether 0 is a variable, and the variables past the inputs
pub record Numbering : Type 0 where
  pub inputs : ℕ
  pub zero : Bool
  pub others : List ℕ

-- numbers past the inputs, each of 32 bits
abbrev pub AreOthers : ℕ → List ℕ → Type 0
AreOthers inputs others = All (λ v. (inputs < v) × (v < 2 ^ 32)) others

-- the variables past the inputs are in order
pub record IsNumbering (n : Numbering) : Type 0 where
  pub inputs_range : n.inputs < 2 ^ 32
  pub rising : IsStrictlyIncreasing n.others
  pub range : AreOthers n.inputs n.others

-- internal numbers are below it
abbrev pub width : Numbering → ℕ
width n = n.inputs + 1 + length n.others

-- the variable of an internal number: 0 and the inputs keep theirs, and the others follow
abbrev pub external : Numbering → ℕ → ℕ
external n number = cond (nat_le number n.inputs) number (slice_index_or n.others (number - (n.inputs + 1)) 0)

abbrev pub HasVariable : Numbering → ℕ → Type 0
HasVariable n var = IsInput n.inputs var ⊎ ((var ≡ 0) × IsTrue n.zero) ⊎ Contains n.others var

-- the numbered variables are exactly the inputs and those of the clauses
abbrev pub Numbers : Numbering → ℕ → List (List Lit) → Type 0
Numbers n inputs clauses = (var : ℕ) → HasVariable n var ↔ IsVariable inputs clauses var

-- the literal of another variable and the same sign
abbrev pub renamed : (ℕ → ℕ) → Lit → Lit
renamed f l = record { var = f l.var; positive = l.positive }

abbrev pub external_clause : Numbering → List Lit → List Lit
external_clause n clause = map (renamed (external n)) clause

abbrev pub external_clauses : Numbering → List (List Lit) → List (List Lit)
external_clauses n clauses = map (external_clause n) clauses

-- the literal's variable is this one, which is past the inputs
abbrev pub IsOther : ℕ → ℕ → Lit → Type 0
IsOther inputs var l = (inputs < var) × (l.var ≡ var)

-- the list gained the variable of the literal, where it is past the inputs
abbrev pub AddsOther : ℕ → List ℕ → List ℕ → Lit → Type 0
AddsOther inputs old new l = (var : ℕ) → Contains new var ↔ (Contains old var ⊎ IsOther inputs var l)

-- the list gained exactly the variables of the literals that are past the inputs
abbrev pub AddsOthers : ℕ → List ℕ → List ℕ → List Lit → Type 0
AddsOthers inputs old new lits = (var : ℕ) → Contains new var ↔ (Contains old var ⊎ Any (IsOther inputs var) lits)

-- the literals are of these variables, and none has one twice
abbrev pub IsApartAmong : Numbering → List Lit → Type 0
IsApartAmong n lits = All (λ l. HasVariable n l.var) lits × IsApart lits

-- a step over these variables that follows the clauses, which have internal numbers
abbrev pub FollowsAmong : Numbering → List (List Lit) → Step → Type 0
FollowsAmong n clauses step =
    IsApartAmong n step.clause × HintsConflict (external_clauses n clauses) (map negation step.clause) step.hints
