-- Clauses and lines: each line counts as the clause that it was made from, and one line more comes to the end.
use Rattle.std.proofs.Common.{◌≡◌, List, [], ◌∷◌, ◌++◌, length, map, refl, ap, ◌∙◌, arith}
use Rattle.cnf_core.specs.declared.formula.Lit.{Lit}
use Rattle.cnf_core.specs.Literal.{negation}
use Rattle.cnf_core.proofs.Literals.{negation_negation}
use Rattle.refutation_checker.specs.Derivation.{clause_of}
use Rattle.refutation_checker.specs.Lines.{line_of, lines_of}
use Rattle.refutation_checker.specs.declared.evidence.Evidence.{Evidence}
use Rattle.refutation_checker.specs.declared.evidence.Evidence.TheVariants.{Propagation, Hints}

pub negations_twice : (lits : List Lit) → map negation (map negation lits) ≡ lits
negations_twice [] = refl
negations_twice (l ∷ ls) =
    ap (λ (k : Lit). k ∷ map negation (map negation ls)) (negation_negation l) ∙ ap (λ (ks : List Lit). l ∷ ks) (negations_twice ls)

pub clause_of_line : (clause : List Lit) (e : Evidence) → clause_of (line_of clause e) ≡ clause
clause_of_line clause Propagation = negations_twice clause
clause_of_line clause (Hints hints) = refl

pub clauses_of_lines : (clauses : List (List Lit)) (evidence : List Evidence) → length evidence ≡ length clauses → map clause_of (lines_of clauses evidence) ≡ clauses
clauses_of_lines [] evidence same = refl
clauses_of_lines (c ∷ cs) [] same = absurd (omega arith)
clauses_of_lines (c ∷ cs) (e ∷ es) same =
    ap (λ (k : List Lit). k ∷ map clause_of (lines_of cs es)) (clause_of_line c e) ∙ ap (λ (ks : List (List Lit)). c ∷ ks) (clauses_of_lines cs es (omega arith))

pub lines_push : (clauses : List (List Lit)) (evidence : List Evidence) (clause : List Lit) (e : Evidence) → length evidence ≡ length clauses →
    lines_of (clauses ++ clause ∷ []) (evidence ++ e ∷ []) ≡ lines_of clauses evidence ++ line_of clause e ∷ []
lines_push [] [] clause e same = refl
lines_push [] (f ∷ fs) clause e same = absurd (omega arith)
lines_push (c ∷ cs) [] clause e same = absurd (omega arith)
lines_push (c ∷ cs) (f ∷ fs) clause e same = ap (λ (ls : List _). line_of c f ∷ ls) (lines_push cs fs clause e (omega arith))
