-- Literals of propositional logic, and sets of them.
use Rattle.std.specs.Prelude.{◌≢◌, Bool, not, List, AllPairs}
use Rattle.cnf_core.specs.declared.formula.Lit.{Lit}

-- the literal of the same variable and the other sign
abbrev pub negation : Lit → Lit
negation l = record { var = l.var; positive = not l.positive }

-- a set of literals, as the test for its members
abbrev pub LitSet : Type 0
LitSet = Lit → Bool

-- no variable stands twice
abbrev pub IsApart : List Lit → Type 0
IsApart lits = AllPairs (λ k l. k.var ≢ l.var) lits
