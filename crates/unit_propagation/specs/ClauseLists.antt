-- Clauses one behind the other in one list of literals.
use Rattle.std.specs.Prelude.{◌≡◌, ◌≤◌, ◌-◌, ℕ, List, [], ◌∷◌, length, take, drop, slice_index_or, zero, suc}
use Rattle.cnf_core.specs.declared.formula.Lit.{Lit}

-- the literals cut at the ends of the clauses, the first of which begins at a place
abbrev pub cut : ℕ → List ℕ → List Lit → List (List Lit)
cut start [] lits = []
cut start (end ∷ ends) lits = take (end - start) lits ∷ cut end ends (drop (end - start) lits)

-- the ends do not go back, and the last one is that of the literals
abbrev pub AreEnds : ℕ → List ℕ → List Lit → Type 0
AreEnds start [] lits = lits ≡ []
AreEnds start (end ∷ ends) lits = (start ≤ end) × (end - start ≤ length lits) × AreEnds end ends (drop (end - start) lits)

-- where the clause of that number begins
abbrev pub start_at : ℕ → List ℕ → ℕ → ℕ
start_at start ends zero = start
start_at start ends (suc before) = slice_index_or ends before 0
