-- The constant that was found is one.
use Rattle.std.proofs.Common.{rules}
use Rattle.term_dag.proofs.dag.Dag.constant.Goals as goal

pub returns-in-Some-Constant-clause-is : goal.returns-in-Some-Constant-clause-is
returns-in-Some-Constant-clause-is c = record { x = c.in-Some-Constant.bits; is = search rules }
