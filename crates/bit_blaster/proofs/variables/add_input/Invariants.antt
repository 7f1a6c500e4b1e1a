-- The bits so far.
use Rattle.term_dag.specs.declared.node.Node.TheVariants.{Input as InputNode}
use Rattle.bit_blaster.specs.Vars.{Gains, Names}
use Rattle.bit_blaster.proofs.variables.add_input.Given as goal

abbrev pub invariant-loop-place : goal.invariant-loop-place
invariant-loop-place l = Gains l.initial.vars.keys l.vars.keys (Names (InputNode l.first l.place))
