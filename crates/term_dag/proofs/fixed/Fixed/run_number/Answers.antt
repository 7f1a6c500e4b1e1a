-- Twice the number and one bit more.
use Rattle.std.proofs.Common.{rules, arith}
use Rattle.term_dag.proofs.RunLemmas.{room_for_double, room_for_bit, one_more_fits, one_more_number}
use Rattle.term_dag.proofs.fixed.Fixed.run_number.Goals as goal

pub overflow_mul-number : goal.overflow_mul-number
overflow_mul-number c =
    let h = room_for_double c.loop-at.number c.args.from c.loop-at.at c.args.to c.loop-at.invariant.0 (omega arith) (omega arith) (omega arith) in
    search (h, rules)

pub overflow_add-number : goal.overflow_add-number
overflow_add-number c =
    let h = room_for_bit c.loop-at.number c.args.from c.loop-at.at c.args.to c.unwrap_or-bit.result c.loop-at.invariant.0 (omega arith) (omega arith) (omega arith) in
    search (h, rules)

pub loop-at-preserved : goal.loop-at-preserved
loop-at-preserved c = (
  one_more_fits c.loop-at.number c.args.from c.loop-at.at c.unwrap_or-bit.result c.loop-at.invariant.0 (omega arith),
  rw c.unwrap_or-bit.ensures
      (one_more_number c.args.self.now.inputs c.loop-at.number c.args.from c.loop-at.at c.bit.result (omega arith) c.bit.ensures.some
      c.bit.ensures.none (c.requires.fixed c.loop-at.at (omega arith) (omega arith)) c.loop-at.invariant.1),
)
