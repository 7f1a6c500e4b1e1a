-- The lines of a derivation, from the clauses that they count as and what these follow by.
use Rattle.std.specs.Prelude.{List, [], ◌∷◌, map}
use Rattle.cnf_core.specs.declared.formula.Lit.{Lit}
use Rattle.cnf_core.specs.declared.derivation.Derived.{Derived}
use Rattle.cnf_core.specs.declared.derivation.Derived.TheVariants.{Cube, Step}
use Rattle.cnf_core.specs.Literal.{negation}
use Rattle.refutation_checker.specs.declared.evidence.Evidence.{Evidence}
use Rattle.refutation_checker.specs.declared.evidence.Evidence.TheVariants.{Propagation, Hints}

-- a clause that follows by hints is a step, and the negations of one that propagation refuses a cube
abbrev pub line_of : List Lit → Evidence → Derived
line_of clause Propagation = Cube (map negation clause)
line_of clause (Hints hints) = Step (record { clause = clause; hints = hints })

-- each clause with its evidence
abbrev pub lines_of : List (List Lit) → List Evidence → List Derived
lines_of [] evidence = []
lines_of (clause ∷ clauses) [] = []
lines_of (clause ∷ clauses) (e ∷ es) = line_of clause e ∷ lines_of clauses es
