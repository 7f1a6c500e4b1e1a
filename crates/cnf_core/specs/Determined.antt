-- Formulas whose first variables, the inputs, determine every other by unit propagation.
use Rattle.std.specs.Prelude.{◌≡◌, ◌<◌, ◌+◌, ◌⊎◌, ℕ, List, All, length, slice_index_or}
use Rattle.cnf_core.specs.declared.formula.Lit.{Lit}
use Rattle.cnf_core.specs.Literal.{negation}
use Rattle.cnf_core.specs.Propagation.{Sets, Conflicts}

-- one literal for each input, in order
pub record Chooses (inputs : ℕ) (chosen : List Lit) : Type 0 where
  pub one_each : length chosen ≡ inputs
  pub in_order : (i : ℕ) (d : Lit) → i < inputs → (slice_index_or chosen i d).var ≡ i + 1

-- propagation sets the literal's variable one way
abbrev pub SetsVariable : List (List Lit) → List Lit → Lit → Type 0
SetsVariable clauses decided l = Sets clauses decided l ⊎ Sets clauses decided (negation l)

-- whichever way the inputs are decided, propagation conflicts or sets each variable of the clauses
abbrev pub IsDetermined : ℕ → List (List Lit) → Type 0
IsDetermined inputs clauses = (chosen : List Lit) → Chooses inputs chosen →
    Conflicts clauses chosen ⊎ All (All (SetsVariable clauses chosen)) clauses

-- variables are numbered from 1
abbrev pub AreNumbered : List (List Lit) → Type 0
AreNumbered clauses = All (All (λ l. 0 < l.var)) clauses
