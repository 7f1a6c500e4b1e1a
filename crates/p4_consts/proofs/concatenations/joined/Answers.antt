use Rattle.std.proofs.Common.{◌≡◌, sym, ap, ◌∙◌, subst}
use Rattle.std.specs.Prelude.{IfOk, option_map}
use Rattle.p4_rules.specs.Operators.{width_in}
use Rattle.p4_consts.specs.Noted.{right_of}
use Rattle.p4_consts.specs.Operands.{operand_of}
use Rattle.p4_consts.specs.Pairs.{pair_of}
use Rattle.p4_consts.specs.Scopes.{scope_in}
use Rattle.p4_consts.proofs.ConcatenationLaws.{joined_within}
use Rattle.p4_consts.proofs.concatenations.joined.Goals as goal

pub returns-in-Some-clause-value : goal.returns-in-Some-clause-value
returns-in-Some-clause-value c = λ pass.
    subst (λ q. IfOk c.applied_with.result (λ o. option_map operand_of o ≡ right_of q))
    (joined_within (scope_in pass c.args.scope.now) c.args.goes_on c.args.sign (pair_of c.args.pair) c.width_in-w.result c.width_in-v.result c.in-Some.width c.core_operator-o.result
    (c.width_in-w.ensures ∙ ap width_in c.type_of.ensures) (c.width_in-v.ensures ∙ ap width_in c.type_of-2.ensures)
    (sym c.in-Some.is ∙ c.width_together.ensures) c.core_operator-o.ensures)
    (c.applied_with.ensures.value pass)
