use Rattle.p4_meaning.proofs.ExpressionLaws.{expression_leaves_store}
use Rattle.p4_meaning.proofs.run_laws.expressions_leave_the_store.Goals as goal

pub returns : goal.returns
returns c = expression_leaves_store
