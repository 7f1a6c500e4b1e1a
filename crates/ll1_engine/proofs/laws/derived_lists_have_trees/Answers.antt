use Rattle.ll1_engine.proofs.HasTreeLemmas.{derived_has_tree, tree_derives}
use Rattle.ll1_engine.proofs.laws.derived_lists_have_trees.Goals as goal

pub returns : goal.returns
returns c = λ g tokens good. (derived_has_tree g good tokens, tree_derives g good tokens)
