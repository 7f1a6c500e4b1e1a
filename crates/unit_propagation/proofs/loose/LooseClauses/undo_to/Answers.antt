-- Where all that is known stays on the trail nothing is forgotten.
use Rattle.std.proofs.Common.{arith}
use Rattle.unit_propagation.proofs.LooseLemmas.{settled_undone}
use Rattle.unit_propagation.proofs.loose.LooseClauses.undo_to.Goals as goal

pub returns-else-place-self-clause-settled : goal.returns-else-place-self-clause-settled
returns-else-place-self-clause-settled c = λ clauses trail s. settled_undone clauses trail c.args.self.now c.args.place (omega (arith, c.if-place-self.false)) s
