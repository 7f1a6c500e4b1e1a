-- One line more.
use Rattle.std.proofs.Common.{◌≡◌, ◌+◌, ◌<◌, ◌∷◌, [], ◌++◌, List, length, get_or, take, drop, ap, sym, ◌∙◌, subst, arith}
use Rattle.std.proofs.lemmas.List.{take_more, length-take-le, length-map, map-append, get_or-drop, length-drop}
use Rattle.cnf_core.specs.declared.formula.Lit.{Lit}
use Rattle.cnf_core.specs.declared.derivation.Derived.{Derived}
use Rattle.refutation_checker.specs.Lines.{line_of, lines_of}
use Rattle.std.proofs.lemmas.List.Elements.{All-get_or}
use Rattle.unit_propagation.specs.Units.{IsWithin}
use Rattle.refutation_checker.specs.Variables.{width, external_clause, external_clauses}
use Rattle.refutation_checker.specs.declared.evidence.Evidence.{Evidence}
use Rattle.refutation_checker.proofs.LinesLemmas.{lines_push}
use Rattle.refutation_checker.proofs.evidence.lines.Goals as goal

pub loop-place-preserved : goal.loop-place-preserved
loop-place-preserved c =
    let n = c.args.variables.now in
    let clauses = drop c.args.given c.args.root.now.clauses in
    let evidence = c.args.evidence.now in
    let i = c.loop-place.place in
    let clause = c.literals.result.now in
    let e = c.index-evidence-place.result in
    let below : i < length evidence = c.loop-place-test.true in
    let inside : i < length clauses = omega (arith, c.requires.count, below, length-drop c.args.given c.args.root.now.clauses) in
    let at : clause ≡ get_or clauses i [] = c.literals.ensures.are ∙ sym (get_or-drop c.args.given c.args.root.now.clauses i []) in
    let more : take (i + 1) clauses ≡ take i clauses ++ clause ∷ [] = take_more clauses i [] inside ∙ ap (λ (x : List Lit). take i clauses ++ x ∷ []) (sym at) in
    let more_evidence : take (i + 1) evidence ≡ take i evidence ++ e ∷ [] = take_more evidence i e below ∙ ap (λ (x : Evidence). take i evidence ++ x ∷ []) (sym c.index-evidence-place.is) in
    let before = external_clauses n (take i clauses) in
    let size : length (take i evidence) ≡ length before =
    length-take-le i evidence (omega arith) ∙ sym (length-map (take i clauses) (external_clause n) ∙ length-take-le i clauses (omega arith)) in
    c.in_ok-push.ensures.items
    ∙ ap (λ (ls : List Derived). ls ++ c.in_ok-line.field-0 ∷ []) c.loop-place.invariant
    ∙ ap (λ (l : Derived). lines_of before (take i evidence) ++ l ∷ []) c.in_ok-line.ensures
    ∙ ap (λ (lits : List Lit). lines_of before (take i evidence) ++ line_of lits e ∷ []) c.in_ok-clause.ensures
    ∙ sym (lines_push before (take i evidence) (external_clause n clause) e size)
    ∙ ap (λ (cs : List (List Lit)). lines_of cs (take i evidence ++ e ∷ [])) (sym (map-append (external_clause n) (take i clauses) (clause ∷ [])))
    ∙ ap (λ (cs : List (List Lit)). lines_of (external_clauses n cs) (take i evidence ++ e ∷ [])) (sym more)
    ∙ ap (lines_of (external_clauses n (take (i + 1) clauses))) (sym more_evidence)

pub external_clause-requires : goal.external_clause-requires
external_clause-requires c =
    let clauses = c.args.root.now.clauses in
    subst (IsWithin (width c.args.variables.now)) (sym c.literals.ensures.are)
    (All-get_or (IsWithin (width c.args.variables.now)) clauses (c.args.given + c.loop-place.place) [] (omega (arith, c.requires.count, c.loop-place-test.true)) c.requires.within)

pub overflow_add-given : goal.overflow_add-given
overflow_add-given c = omega (arith, c.requires.count, c.loop-place-test.true, c.clause_count.ensures, c.clause_count.type_inv)
