use Rattle.p4_consts.proofs.casts.value_as.Goals as goal

pub returns-in-BitEnumeration-clause-value : goal.returns-in-BitEnumeration-clause-value
returns-in-BitEnumeration-clause-value c = λ Γ. rw (c.in-Bit.is, c.in-BitEnumeration.is) (c.provided_retyped.ensures.value Γ)

pub returns-in-BitEnumeration-clause-faults : goal.returns-in-BitEnumeration-clause-faults
returns-in-BitEnumeration-clause-faults c = λ Γ. rw (c.in-Bit.is, c.in-BitEnumeration.is) (c.provided_retyped.ensures.faults Γ)
