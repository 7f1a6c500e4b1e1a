use Rattle.ll1_engine.proofs.OpenLemmas.{open_determined}
use Rattle.ll1_engine.proofs.laws.open_nodes_are_determined.Goals as goal

pub returns : goal.returns
returns c = λ g before t after more tree other good a b. open_determined g good t after more before tree other a b
