-- All bytes are noted at the end.
use Rattle.std.proofs.Common.{rules}
use Rattle.std.proofs.lemmas.Grind.{common_steps}
use Rattle.testgen_program.proofs.TakenLemmas.{taken_more, taken_less}
use Rattle.testgen_program.proofs.taken.Taken.note.Goals as goal

pub returns-clause-taken : goal.returns-clause-taken
returns-clause-taken c = taken_more c.args.out _ _ c.args.piece.now (search (rules, common_steps))

pub returns-clause-others_stay : goal.returns-clause-others_stay
returns-clause-others_stay c = λ other differs. taken_less c.args.out other _ _ c.args.piece.now (search (rules, common_steps)) differs
