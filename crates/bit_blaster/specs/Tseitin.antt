-- A circuit as a formula, by Tseitin's transformation. A gate's output stands last in each of its clauses.
use Rattle.std.specs.Prelude.{ℕ, suc, true, false, List, [], ◌∷◌, ◌++◌}
use Rattle.cnf_core.specs.declared.formula.Lit.{Lit}
use Rattle.cnf_core.specs.Literal.{negation}
use Rattle.bit_blaster.specs.declared.gate.Gate.{Gate}
use Rattle.bit_blaster.specs.declared.gate.Gate.TheVariants.{And, Xor, Choose, Majority}
use Rattle.bit_blaster.specs.declared.wire.Wire.{Wire}
use Rattle.bit_blaster.specs.declared.wire.Wire.TheVariants.{Known, Literal}

-- that the output is what both operands are, where they agree
abbrev pub agreement_clauses : Lit → Lit → Lit → List (List Lit)
agreement_clauses a b output = (negation a ∷ negation b ∷ output ∷ []) ∷ (a ∷ b ∷ negation output ∷ []) ∷ []

-- a clause for each way in which operands decide the output
abbrev pub gate_clauses : Gate → Lit → List (List Lit)
gate_clauses (And a b) output =
    (a ∷ negation output ∷ []) ∷ (b ∷ negation output ∷ []) ∷ (negation a ∷ negation b ∷ output ∷ []) ∷ []
gate_clauses (Xor a b) output =
    (negation a ∷ negation b ∷ negation output ∷ []) ∷ (negation a ∷ b ∷ output ∷ [])
    ∷ (a ∷ negation b ∷ output ∷ []) ∷ (a ∷ b ∷ negation output ∷ []) ∷ []
gate_clauses (Choose c a b) output =
    (negation c ∷ negation a ∷ output ∷ []) ∷ (negation c ∷ a ∷ negation output ∷ [])
    ∷ (c ∷ negation b ∷ output ∷ []) ∷ (c ∷ b ∷ negation output ∷ []) ∷ []
gate_clauses (Majority a b c) output =
    agreement_clauses a b output ++ (agreement_clauses a c output ++ agreement_clauses b c output)

-- the literal that is true where its variable is
abbrev pub variable : ℕ → Lit
variable n = record { var = n; positive = true }

-- the clauses of gates whose outputs are the variables after the n-th
abbrev pub gates_clauses : ℕ → List Gate → List (List Lit)
gates_clauses n [] = []
gates_clauses n (gate ∷ gates) = gate_clauses gate (variable (suc n)) ++ gates_clauses (suc n) gates

-- the clauses that the goal is true
abbrev pub goal_clauses : Wire → List (List Lit)
goal_clauses (Known true) = []
goal_clauses (Known false) = [] ∷ []
goal_clauses (Literal l) = (l ∷ []) ∷ []
