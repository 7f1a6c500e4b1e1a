-- Each clause adds its variables past the inputs.
use Rattle.std.proofs.Common.{List, take, subst}
use Rattle.std.specs.Prelude.{◌↔◌, Any, Contains}
use Rattle.std.proofs.lemmas.List.{take_all, take_more}
use Rattle.cnf_core.specs.declared.formula.Lit.{Lit}
use Rattle.refutation_checker.specs.Variables.{IsOther, AddsOthers}
use Rattle.refutation_checker.proofs.VariablesLemmas.{any-more}
use Rattle.refutation_checker.proofs.variables.others_of.Goals as goal

pub loop-clause-preserved : goal.loop-clause-preserved
loop-clause-preserved c =
    let clauses = c.args.clauses.now in
    let i = c.loop-clause.clause-index in
    let x = c.clause-item.result in
    let before = c.loop-clause.others.items in
    let after = c.add_others.new.others.items in
    let step = subst (λ (lits : List Lit). AddsOthers c.args.inputs before after lits) c.as_slice.ensures c.in_ok-add_others.ensures.adds in
    record {
      range = c.add_others.ensures.range;
      are = λ var. rw (take_more clauses i x c.loop-clause-test.true, ← c.clause-item.is)
          (any-more (Any (IsOther c.args.inputs var)) (Contains before var) (Contains after var) (take i clauses) x (c.loop-clause.invariant.are var) (step var));
    }

pub returns-clause-are : goal.returns-clause-are
returns-clause-are c = λ var.
    subst (λ (front : List (List Lit)). Contains c.loop-clause.others.items var ↔ Any (Any (IsOther c.args.inputs var)) front)
    (take_all c.loop-clause.clause-index c.args.clauses.now c.loop-clause-test.false) (c.loop-clause.invariant.are var)
