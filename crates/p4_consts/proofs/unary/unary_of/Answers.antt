use Rattle.p4_consts.specs.Scopes.{scope_in}
use Rattle.p4_consts.proofs.unary.unary_of.Goals as goal

pub returns-in-Not-clause-value : goal.returns-in-Not-clause-value
returns-in-Not-clause-value c = λ pass. rw (c.in-Not.is, ← c.is_boolean-holds.ensures) (c.provided_one.ensures.value pass)

pub returns-in_ok-bits-in-Complement-clause-value : goal.returns-in_ok-bits-in-Complement-clause-value
returns-in_ok-bits-in-Complement-clause-value c = λ pass.
    rw (c.in-Complement.is, ← c.in_ok-bits-in-Complement.ensures (scope_in pass c.args.scope.now), ← c.is_sized_value-holds.ensures)
    (c.provided_one-in-Complement.ensures.value pass)

pub returns-in_ok-bits-in-Minus-clause-value : goal.returns-in_ok-bits-in-Minus-clause-value
returns-in_ok-bits-in-Minus-clause-value c = λ pass.
    rw (c.in-Minus.is, ← c.in_ok-bits-in-Minus.ensures (scope_in pass c.args.scope.now)) (c.minus_of.ensures.value pass)
