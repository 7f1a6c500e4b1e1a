use Rattle.std.proofs.Common.{◌≡◌, sym, ap, ◌∙◌, subst, false}
use Rattle.std.specs.Prelude.{IfOk, OnOk, option_map}
use Rattle.p4_rules.specs.declared.types.SourceType.TheVariants.{Boolean}
use Rattle.p4_rules.specs.Operators.{each, is_boolean, applied_with, core_operator}
use Rattle.p4_consts.specs.Noted.{right_of}
use Rattle.p4_consts.specs.Operands.{operand_of}
use Rattle.p4_consts.specs.Pairs.{pair_of}
use Rattle.p4_consts.specs.Scopes.{scope_in}
use Rattle.p4_consts.proofs.GuardLaws.{guarded, guarded_noted}
use Rattle.p4_consts.proofs.booleans.logic.Goals as goal

pub returns-in-Some-clause-value : goal.returns-in-Some-clause-value
returns-in-Some-clause-value c = λ pass.
    let Γ = scope_in pass c.args.scope.now in
    let right = sym c.each.ensures.value ∙ ap (option_map pair_of) c.in-Some.is in
    subst (λ q. IfOk c.applied_with.result (λ o. option_map operand_of o ≡ right_of q))
    (guarded (each is_boolean (pair_of c.args.pair))
    (λ q. applied_with Γ c.args.goes_on Boolean (core_operator c.args.sign false) q.place q.left.operand q.right.operand) (pair_of c.in-Some.both)
    (applied_with Γ c.args.goes_on Boolean c.core_operator-o.result c.in-Some.both.place (operand_of c.in-Some.both.left.operand) (operand_of c.in-Some.both.right.operand)) right
    (ap (λ o. applied_with Γ c.args.goes_on Boolean o c.in-Some.both.place (operand_of c.in-Some.both.left.operand) (operand_of c.in-Some.both.right.operand)) c.core_operator-o.ensures))
    (c.applied_with.ensures.value pass)

pub returns-in-Some-clause-faults : goal.returns-in-Some-clause-faults
returns-in-Some-clause-faults c = λ pass.
    let Γ = scope_in pass c.args.scope.now in
    let right = sym c.each.ensures.value ∙ ap (option_map pair_of) c.in-Some.is in
    subst (λ first. OnOk c.applied_with.result (c.applied_with.new.faults.first ≡ first))
    (guarded_noted (each is_boolean (pair_of c.args.pair))
    (λ q. applied_with Γ c.args.goes_on Boolean (core_operator c.args.sign false) q.place q.left.operand q.right.operand) (pair_of c.in-Some.both)
    (applied_with Γ c.args.goes_on Boolean c.core_operator-o.result c.in-Some.both.place (operand_of c.in-Some.both.left.operand) (operand_of c.in-Some.both.right.operand))
    c.args.faults.now.first c.each.new.faults.first right
    (ap (λ o. applied_with Γ c.args.goes_on Boolean o c.in-Some.both.place (operand_of c.in-Some.both.left.operand) (operand_of c.in-Some.both.right.operand)) c.core_operator-o.ensures)
    c.each.ensures.faults)
    (c.applied_with.ensures.faults pass)
