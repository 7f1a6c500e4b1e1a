use Rattle.p4_consts.proofs.operators.binary_in.Goals as goal

pub returns-in-Arithmetic-clause-value : goal.returns-in-Arithmetic-clause-value
returns-in-Arithmetic-clause-value c = rw (c.in-Arithmetic.is) (c.arithmetic.ensures.value)

pub returns-in-Arithmetic-clause-faults : goal.returns-in-Arithmetic-clause-faults
returns-in-Arithmetic-clause-faults c = rw (c.in-Arithmetic.is) (c.arithmetic.ensures.faults)

pub returns-in-Division-clause-value : goal.returns-in-Division-clause-value
returns-in-Division-clause-value c = rw (c.in-Division.is) (c.division.ensures.value c.args.scope.now)

pub returns-in-Division-clause-faults : goal.returns-in-Division-clause-faults
returns-in-Division-clause-faults c = rw (c.in-Division.is) (c.division.ensures.faults c.args.scope.now)

pub returns-in-Shift-clause-value : goal.returns-in-Shift-clause-value
returns-in-Shift-clause-value c = rw (c.in-Shift.is) (c.shift.ensures.value)

pub returns-in-Shift-clause-faults : goal.returns-in-Shift-clause-faults
returns-in-Shift-clause-faults c = rw (c.in-Shift.is) (c.shift.ensures.faults)

pub returns-in-Concatenation-clause-value : goal.returns-in-Concatenation-clause-value
returns-in-Concatenation-clause-value c = rw (c.in-Concatenation.is) (c.concatenation.ensures.value c.args.pass)

pub returns-in-Concatenation-clause-faults : goal.returns-in-Concatenation-clause-faults
returns-in-Concatenation-clause-faults c = rw (c.in-Concatenation.is) (c.concatenation.ensures.faults c.args.pass)

pub returns-in-Order-clause-value : goal.returns-in-Order-clause-value
returns-in-Order-clause-value c = rw (c.in-Order.is) (c.order.ensures.value)

pub returns-in-Order-clause-faults : goal.returns-in-Order-clause-faults
returns-in-Order-clause-faults c = rw (c.in-Order.is) (c.order.ensures.faults)

pub returns-in-Equality-clause-value : goal.returns-in-Equality-clause-value
returns-in-Equality-clause-value c = rw (c.in-Equality.is) (c.equality.ensures.value)

pub returns-in-Equality-clause-faults : goal.returns-in-Equality-clause-faults
returns-in-Equality-clause-faults c = rw (c.in-Equality.is) (c.equality.ensures.faults)

pub returns-in-Logic-clause-value : goal.returns-in-Logic-clause-value
returns-in-Logic-clause-value c = rw (c.in-Logic.is) (c.logic.ensures.value c.args.pass)

pub returns-in-Logic-clause-faults : goal.returns-in-Logic-clause-faults
returns-in-Logic-clause-faults c = rw (c.in-Logic.is) (c.logic.ensures.faults c.args.pass)
