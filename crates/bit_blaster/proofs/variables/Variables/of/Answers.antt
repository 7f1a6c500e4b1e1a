-- The marked terms add their bits, and sorting keeps them.
use Rattle.std.proofs.Common.{rules, arith, Some, refl, subst, ap, ◌∙◌}
use Rattle.std.proofs.lemmas.Option.{slice_get_read}
use Rattle.bit_blaster.proofs.VariableLemmas.{AreSoFar, vars_marked, vars_unmarked, vars_done}
use Rattle.bit_blaster.proofs.variables.Variables.of.Goals as goal
use Rattle.bit_blaster.proofs.variables.Variables.of.Goals.{then-index+in_ok-add_bits, else-index}

pub loop-number-preserved : goal.loop-number-preserved
loop-number-preserved c =
    let read = slice_get_read c.args.marks.now.items _ c.loop-number.number c.index.result.now refl (omega (arith, c.requires.marks.long)) (search rules) in
    elim c.if-index.branch [
      | then-index+in_ok-add_bits w ↦ rw w.vars-is (vars_marked c.args.dag.now c.args.t c.args.marks.now.items c.requires.marks
          c.loop-number.vars.keys c.loop-number.number c.loop-number.invariant _ w.node.result (read ∙ ap Some w.if-index.true) w.node.ensures
          w.in_ok-add_bits.ensures)
      | else-index w ↦ rw w.vars-is (vars_unmarked c.args.dag.now c.args.t c.args.marks.now.items c.requires.marks
          c.loop-number.vars.keys c.loop-number.number c.loop-number.invariant (read ∙ ap Some w.if-index.false))
    ]

pub returns : goal.returns
returns c =
    vars_done c.args.dag.now c.args.t c.args.marks.now.items c.loop-number.vars.keys c.sort.new.self.keys c.requires.marks
    (subst (AreSoFar c.args.dag.now c.args.t c.args.marks.now.items c.loop-number.vars.keys) (omega arith) c.loop-number.invariant)
    c.in_ok-sort.ensures.reordered.0 c.in_ok-sort.ensures.sorted c.in_ok-sort.ensures.unique
