use Rattle.p4_lexer.proofs.faults.keep.Goals as goal

pub returns-then-decides_over-clause-over : goal.returns-then-decides_over-clause-over
returns-then-decides_over-clause-over c = c.decides_over.ensures.0 c.if-decides_over.true
