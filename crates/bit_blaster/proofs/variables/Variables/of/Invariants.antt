-- The variables of the marked terms so far.
use Rattle.bit_blaster.proofs.VariableLemmas.{AreSoFar}
use Rattle.bit_blaster.proofs.variables.Variables.of.Given as goal

abbrev pub invariant-loop-number : goal.invariant-loop-number
invariant-loop-number l = AreSoFar l.dag l.t l.marks.items l.vars.keys l.number
