-- The next gate's clauses are added.
use Rattle.bit_blaster.proofs.FormulaLemmas.{next_pushed}
use Rattle.bit_blaster.proofs.circuit.Circuit.gate_clauses.Goals as goal

pub loop-place-preserved : goal.loop-place-preserved
loop-place-preserved c =
    next_pushed c.args.self.now.inputs c.args.self.now.gates c.loop-place.clauses.items c.push_gate.new.clauses.items
    c.inputs.result c.loop-place.place c.gates-gates.result.now _ c.inputs.ensures c.gates-gates.ensures.gates c.loop-place-test.true
    c.loop-place.invariant c.in_ok-push_gate.ensures
