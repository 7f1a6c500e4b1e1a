use Rattle.ll1_engine.proofs.OneTreeLemmas.{one_tree}
use Rattle.ll1_engine.proofs.laws.tokens_have_one_tree.Goals as goal

pub returns : goal.returns
returns c = λ g tokens tree other good a b. one_tree g good tokens tree other a b
