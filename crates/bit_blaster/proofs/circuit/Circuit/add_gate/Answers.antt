-- The gate stands behind the older ones.
use Rattle.bit_blaster.proofs.NetlistLemmas.{extends_by}
use Rattle.bit_blaster.proofs.circuit.Circuit.add_gate.Goals as goal

pub returns-clause-extends : goal.returns-clause-extends
returns-clause-extends c =
    extends_by c.args.self.now c.self.inside.inputs c.self.inside.gates.items c.push.new.self.items c.args.gate c.self.view_is
    c.in_ok-push.ensures.items
