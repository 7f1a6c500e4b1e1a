-- Each literal adds its variable, where that is past the inputs.
use Rattle.std.proofs.Common.{take, get_or, subst}
use Rattle.std.specs.Prelude.{Contains}
use Rattle.std.proofs.lemmas.List.{take_all, take_more}
use Rattle.cnf_core.proofs.Literals.{no_lit}
use Rattle.refutation_checker.specs.Variables.{IsOther, AddsOthers}
use Rattle.refutation_checker.proofs.VariablesLemmas.{gains-more}
use Rattle.refutation_checker.proofs.variables.add_others.Goals as goal

pub loop-l-preserved : goal.loop-l-preserved
loop-l-preserved c =
    let lits = c.args.lits.now in
    let i = c.loop-l.l-index in
    let old = c.args.others.now.items in
    let before = c.loop-l.others.items in
    let after = c.add_other.new.others.items in
    record {
      range = c.add_other.ensures.range;
      adds = λ var. rw (take_more lits i no_lit c.loop-l-test.true)
          (gains-more (IsOther c.args.inputs var) (Contains old var) (Contains before var) (Contains after var) (take i lits) (get_or lits i no_lit)
          (c.loop-l.invariant.adds var) (c.in_ok-add_other.ensures.adds var));
    }

pub returns-clause-adds : goal.returns-clause-adds
returns-clause-adds c =
    subst (AddsOthers c.args.inputs c.args.others.now.items c.loop-l.others.items) (take_all c.loop-l.l-index c.args.lits.now c.loop-l-test.false) c.loop-l.invariant.adds
