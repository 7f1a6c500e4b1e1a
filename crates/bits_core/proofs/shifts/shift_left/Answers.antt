use Rattle.std.proofs.Common.{◌∙◌}
use Rattle.bits_core.proofs.WidthLaws.{shl_within, shl_past}
use Rattle.bits_core.proofs.shifts.shift_left.Goals as goal
use Rattle.bits_core.proofs.shifts.shift_left.Goals.{then-b-a, else-b-a}

pub returns-clause-value : goal.returns-clause-value
returns-clause-value c =
    elim c.if-b-a.branch [
      | then-b-a w ↦
          w.value-is ∙ w.cut-value.ensures ∙ shl_within c.args.a.value c.args.a.width c.args.b.value 128 c.args.a.at_most_widest w.if-b-a.true
      | else-b-a w ↦ w.value-is ∙ shl_past c.args.a.value c.args.a.width c.args.b.value w.if-b-a.false
    ]
