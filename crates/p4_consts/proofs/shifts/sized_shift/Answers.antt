use Rattle.std.proofs.Common.{sym, ◌∙◌}
use Rattle.p4_consts.proofs.shifts.sized_shift.Goals as goal

pub returns-clause-value : goal.returns-clause-value
returns-clause-value c = λ pass.
    rw (sym c.is_sized_value.ensures ∙ c.if-not-is_sized_value.false, sym c.may_be_amount.ensures ∙ c.if-not-may_be_amount.false)
    (c.value_shift.ensures.value pass)

pub returns-clause-faults : goal.returns-clause-faults
returns-clause-faults c = λ pass.
    rw (sym c.is_sized_value.ensures ∙ c.if-not-is_sized_value.false, sym c.may_be_amount.ensures ∙ c.if-not-may_be_amount.false)
    (c.value_shift.ensures.faults pass)
