use Rattle.std.proofs.Common.{◌≡◌, ap, sym, ◌∙◌, subst}
use Rattle.std.specs.Prelude.{IfOk, OnOk, option_map}
use Rattle.p4_rules.specs.Operators.{each, unified}
use Rattle.p4_consts.specs.Noted.{noted, right_of}
use Rattle.p4_consts.specs.Pairs.{pair_of, operands_of, fits_of}
use Rattle.p4_consts.specs.Scopes.{scope_in}
use Rattle.p4_consts.proofs.NotedLaws.{and_then_right, and_then_noted, and_then_wrong}
use Rattle.p4_consts.proofs.unify.unified_each.Goals as goal

pub returns-in-Some-clause-value : goal.returns-in-Some-clause-value
returns-in-Some-clause-value c = λ scope.
    let fitting = sym c.each.ensures.value ∙ ap (option_map pair_of) c.in-Some.is in
    subst (λ q. IfOk c.unified.result (λ v. option_map operands_of v ≡ right_of q))
    (sym (and_then_right (each (fits_of c.args.wanted) (pair_of c.args.pair)) (unified (scope_in c.args.pass scope)) (pair_of c.in-Some.fitting) fitting))
    (c.unified.ensures.value scope)

pub returns-in-Some-clause-faults : goal.returns-in-Some-clause-faults
returns-in-Some-clause-faults c = λ scope.
    let fitting = sym c.each.ensures.value ∙ ap (option_map pair_of) c.in-Some.is in
    subst (λ first. OnOk c.unified.result (c.unified.new.faults.first ≡ first))
    (ap (λ first. noted first (unified (scope_in c.args.pass scope) (pair_of c.in-Some.fitting))) c.each.ensures.faults
    ∙ sym (and_then_noted (each (fits_of c.args.wanted) (pair_of c.args.pair)) (unified (scope_in c.args.pass scope)) (pair_of c.in-Some.fitting) c.args.faults.now.first fitting))
    (c.unified.ensures.faults scope)

pub returns-in-None-clause-value : goal.returns-in-None-clause-value
returns-in-None-clause-value c = λ scope.
    let none = sym c.each.ensures.value ∙ ap (option_map pair_of) c.in-None.is in
    sym (and_then_wrong (each (fits_of c.args.wanted) (pair_of c.args.pair)) (unified (scope_in c.args.pass scope)) c.args.faults.now.first none).0

pub returns-in-None-clause-faults : goal.returns-in-None-clause-faults
returns-in-None-clause-faults c = λ scope.
    let none = sym c.each.ensures.value ∙ ap (option_map pair_of) c.in-None.is in
    c.each.ensures.faults
    ∙ sym (and_then_wrong (each (fits_of c.args.wanted) (pair_of c.args.pair)) (unified (scope_in c.args.pass scope)) c.args.faults.now.first none).1
