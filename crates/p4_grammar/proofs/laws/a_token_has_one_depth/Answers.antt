use Rattle.p4_grammar.proofs.DepthLemmas.{depth_determined}
use Rattle.p4_grammar.proofs.laws.a_token_has_one_depth.Goals as goal

pub returns : goal.returns
returns c = λ tokens k d e x y. depth_determined tokens k d e x y
