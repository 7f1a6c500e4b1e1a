use Rattle.std.proofs.Common.{IsTrue}
use Rattle.base_tests.proofs.desks.read_by_twos.Given as goal

abbrev pub invariant-loop-piece : goal.invariant-loop-piece
invariant-loop-piece g l = IsTrue (g.D.Desk.moment l.desk).readable
