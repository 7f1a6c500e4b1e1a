use Rattle.p4_consts.proofs.operators.binary.Goals as goal

pub returns-clause-value : goal.returns-clause-value
returns-clause-value c = rw (← c.row_of.ensures) c.binary_in.ensures.value

pub returns-clause-faults : goal.returns-clause-faults
returns-clause-faults c = rw (← c.row_of.ensures) c.binary_in.ensures.faults
