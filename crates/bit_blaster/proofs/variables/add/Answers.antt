-- A set that has the bit already stays as it is.
use Rattle.bit_blaster.proofs.VariableLemmas.{inserted}
use Rattle.bit_blaster.proofs.variables.add.Goals as goal

pub returns-in-Ok : goal.returns-in-Ok
returns-in-Ok c = inserted c.args.vars.now.keys c.args.var c.insert.new.self.keys c.in-Ok.ensures.keys
