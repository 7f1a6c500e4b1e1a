-- The bits so far.
use Rattle.term_dag.specs.declared.node.Node.TheVariants.{Read as ReadNode}
use Rattle.bit_blaster.specs.Vars.{Gains, Names}
use Rattle.bit_blaster.proofs.variables.add_read.Given as goal

abbrev pub invariant-loop-place : goal.invariant-loop-place
invariant-loop-place l = Gains l.initial.vars.keys l.vars.keys (Names (ReadNode l.read l.place))
