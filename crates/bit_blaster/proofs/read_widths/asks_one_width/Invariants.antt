-- No marked node so far is a read with a bit past it.
use Rattle.bit_blaster.proofs.ReadWidthLemmas.{NoneCut}
use Rattle.bit_blaster.proofs.read_widths.asks_one_width.Given as goal

abbrev pub invariant-loop-number : goal.invariant-loop-number
invariant-loop-number l = NoneCut l.dag l.marks.items l.variables l.number
