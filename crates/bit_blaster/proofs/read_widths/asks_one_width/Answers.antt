-- A marked read with a bit past it is asked for wider elsewhere; where there is none each read has one width.
use Rattle.std.proofs.Common.{rules, arith, Some, refl, sym, ap, ◌∙◌, true≢false}
use Rattle.std.proofs.lemmas.Option.{slice_get_read}
use Rattle.bit_blaster.proofs.ReadWidthLemmas.{none_cut_unmarked, none_cut_whole, cut_read_wider, one_width_from_none}
use Rattle.bit_blaster.proofs.read_widths.asks_one_width.Goals as goal
use Rattle.bit_blaster.proofs.read_widths.asks_one_width.Goals.{else-index-via-then-index+else-is_cut_read, else-index-via-else-index}

pub returns-then-is_cut_read : goal.returns-then-is_cut_read
returns-then-is_cut_read c =
    let read = slice_get_read c.args.marks.now.items _ c.loop-number.number c.index.result.now refl (omega (arith, c.requires.marks.long)) (search rules) in (
      (λ e. absurd (true≢false (sym e))),
      (λ one. absurd (cut_read_wider c.args.dag.now c.args.t c.args.marks.now.items c.requires.marks c.args.variables.now c.requires.vars
          c.loop-number.number c.node.result (read ∙ ap Some c.if-index.true) c.node.ensures
          (c.is_cut_read.ensures.0 c.if-is_cut_read.true) one)),
    )

pub loop-number-preserved : goal.loop-number-preserved
loop-number-preserved c =
    let read = slice_get_read c.args.marks.now.items _ c.loop-number.number c.index.result.now refl (omega (arith, c.requires.marks.long)) (search rules) in
    elim c.else-index.branch [
      | else-index-via-then-index+else-is_cut_read w ↦ none_cut_whole c.args.dag.now c.args.marks.now.items c.args.variables.now
          c.loop-number.number c.loop-number.invariant w.node.result w.node.ensures
          (λ cut. true≢false (sym (w.is_cut_read.ensures.1 cut) ∙ w.if-is_cut_read.false))
      | else-index-via-else-index w ↦ none_cut_unmarked c.args.dag.now c.args.marks.now.items c.args.variables.now
          c.loop-number.number c.loop-number.invariant (read ∙ ap Some w.if-index.false)
    ]

pub returns : goal.returns
returns c = (
  (λ e. one_width_from_none c.args.dag.now c.args.t c.args.marks.now.items c.requires.marks c.args.variables.now c.requires.vars
      c.loop-number.number (omega arith) c.loop-number.invariant),
  (λ one. refl),
)
