-- The clauses after the formula with their evidence are the derivation's lines.
use Rattle.std.proofs.Common.{◌≡◌, ◌∙◌, List, drop, ap, sym, subst}
use Rattle.std.specs.Prelude.{IfOk}
use Rattle.std.proofs.lemmas.List.{drop-map}
use Rattle.cnf_core.specs.declared.formula.Lit.{Lit}
use Rattle.cnf_core.specs.declared.derivation.Derived.{Derived}
use Rattle.refutation_checker.specs.Derivation.{Derivation}
use Rattle.refutation_checker.specs.Lines.{lines_of}
use Rattle.refutation_checker.specs.Variables.{external_clause, external_clauses}
use Rattle.refutation_checker.proofs.checker.Checker.into_derived.Goals as goal

pub returns-clause-lines : goal.returns-clause-lines
returns-clause-lines c =
    let a = c.self.inside in
    let names = external_clauses a.variables in
    let same : lines_of (names (drop a.given a.root.clauses)) c.as_slice.result.now ≡ lines_of (drop a.given (names a.root.clauses)) a.evidence.items =
    ap (λ (cs : List (List Lit)). lines_of cs c.as_slice.result.now) (sym (drop-map (external_clause a.variables) a.given a.root.clauses))
    ∙ ap (lines_of (drop a.given (names a.root.clauses))) c.as_slice.ensures.value in
    subst (λ (d : Derivation). IfOk c.lines.result (λ lines. lines ≡ d.derived)) c.self.view_is
    (subst (λ (ls : List Derived). IfOk c.lines.result (λ lines. lines ≡ ls)) same c.lines.ensures)
