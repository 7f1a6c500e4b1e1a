-- One clause more.
use Rattle.std.proofs.Common.{◌≡◌, ◌++◌, ◌∷◌, [], List, take, ap, sym, ◌∙◌, subst}
use Rattle.std.specs.Prelude.{All}
use Rattle.std.proofs.lemmas.List.{take_more, map-append}
use Rattle.std.proofs.lemmas.List.Elements.{All-push}
use Rattle.cnf_core.specs.declared.formula.Lit.{Lit}
use Rattle.unit_propagation.specs.Units.{IsWithin}
use Rattle.unit_propagation.specs.Propagation.{Propagation}
use Rattle.refutation_checker.specs.Variables.{width, external_clause, external_clauses}
use Rattle.refutation_checker.proofs.root.root_of.Goals as goal

pub loop-clause-preserved : goal.loop-clause-preserved
loop-clause-preserved c =
    let n = c.args.variables.now in
    let clauses = c.args.clauses.now in
    let i = c.loop-clause.clause-index in
    let inv = c.loop-clause.invariant in
    let before = c.loop-clause.root.clauses in
    let internal = c.in_ok-internal_clause.field-0 in
    let added = c.in_ok-add_clause.ensures.added in
    let after : c.add_clause.new.self.clauses ≡ before ++ internal ∷ [] = ap (λ (p : Propagation). p.clauses) added in
    let names = c.in_ok-internal_clause.ensures.is ∙ c.as_slice.ensures ∙ c.clause-item.is in
    record {
      size = ap (λ (p : Propagation). p.width) added ∙ inv.size;
      clauses =
          ap (external_clauses n) after
          ∙ map-append (external_clause n) before (internal ∷ [])
          ∙ ap (λ (front : List (List Lit)). front ++ external_clause n internal ∷ []) inv.clauses
          ∙ ap (λ (x : List Lit). take i clauses ++ x ∷ []) names
          ∙ sym (take_more clauses i c.clause-item.result c.loop-clause-test.true);
      within = subst (All (IsWithin (width n))) (sym after) (All-push (IsWithin (width n)) before internal inv.within c.in_ok-internal_clause.ensures.within);
      trail = ap (λ (p : Propagation). p.trail) added ∙ inv.trail;
    }
