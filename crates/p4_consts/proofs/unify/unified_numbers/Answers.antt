use Rattle.std.proofs.Common.{◌≡◌, subst}
use Rattle.std.specs.Prelude.{IfOk, option_map}
use Rattle.p4_rules.specs.Operators.{is_number}
use Rattle.p4_consts.specs.Noted.{right_of}
use Rattle.p4_consts.specs.Pairs.{operands_of, unified_each}
use Rattle.p4_consts.specs.Scopes.{scope_in}
use Rattle.p4_consts.proofs.unify.unified_numbers.Goals as goal

pub returns-clause-value : goal.returns-clause-value
returns-clause-value c = λ scope.
    subst (λ p. IfOk c.unified_each.result (λ v. option_map operands_of v ≡ right_of (unified_each (scope_in c.args.pass scope) is_number p)))
    (c.in_ok-bits.ensures (scope_in c.args.pass scope))
    (c.unified_each.ensures.value scope)
