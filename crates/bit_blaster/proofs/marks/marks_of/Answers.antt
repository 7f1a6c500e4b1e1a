-- The operands have smaller numbers, and are marked where the term is.
use Rattle.std.proofs.Common.{rules, arith, ◌-◌, Some, refl, ap, ◌∙◌}
use Rattle.std.proofs.lemmas.Option.{slice_get_read}
use Rattle.term_dag.proofs.MarkLemmas.{unmarked, operands_marked}
use Rattle.term_dag.proofs.WidthLemmas.{operands_within}
use Rattle.bit_blaster.proofs.marks.marks_of.Goals as goal
use Rattle.bit_blaster.proofs.marks.marks_of.Goals.{then-index, else-index}

pub mark_operands-requires : goal.mark_operands-requires
mark_operands-requires c =
    operands_within (c.args.t.number - c.loop-done.done) _ (omega (arith, c.loop-done.invariant.long)) c.node.result
    (c.len.ensures.dag.ordered (c.args.t.number - c.loop-done.done) c.node.result c.node.ensures)

pub loop-done-preserved : goal.loop-done-preserved
loop-done-preserved c =
    let number = c.args.t.number - c.loop-done.done in
    let read = slice_get_read c.loop-done.marks.items _ number c.index.result.now refl (omega (arith, c.loop-done.invariant.long)) (search rules) in
    elim c.if-index.branch [
      | then-index w ↦ rw w.marks-is (operands_marked c.args.dag.now c.args.t c.len.ensures.dag c.loop-done.marks.items c.loop-done.done number
          (omega arith) c.loop-done.invariant _ w.node.result w.node.ensures (read ∙ ap Some w.if-index.true) w.mark_operands.ensures)
      | else-index w ↦ rw w.marks-is (unmarked c.args.dag.now c.args.t c.len.ensures.dag c.loop-done.marks.items c.loop-done.done number
          (omega arith) c.loop-done.invariant (read ∙ ap Some w.if-index.false))
    ]
