-- One more bit that is as the first.
use Rattle.std.proofs.Common.{arith, sym, ◌∙◌}
use Rattle.term_dag.proofs.RunLemmas.{longer_run, same_bools}
use Rattle.term_dag.proofs.fixed.Fixed.run_end.Goals as goal

pub loop-at-preserved : goal.loop-at-preserved
loop-at-preserved c =
    longer_run c.args.self.now.inputs c.args.from c.loop-at.at c.bit.result c.bit-in-loop-at.result c.bit.ensures.some
    c.bit.ensures.none c.bit-in-loop-at.ensures.some c.bit-in-loop-at.ensures.none (omega arith) c.loop-at.invariant (sym c.is_some.ensures
    ∙ same_bools c.is_some.result c.is_some-is_fixed.result c.if-is_some-is_fixed.false ∙ c.is_some-is_fixed.ensures)

pub returns-clause-free : goal.returns-clause-free
returns-clause-free c = λ h bit l m. c.loop-at.invariant.all_free h bit l (omega arith)
