use Rattle.p4_grammar.proofs.DepthLemmas.{depth_exists, depth_begins}
use Rattle.p4_grammar.proofs.laws.tokens_that_go_on_have_a_depth.Goals as goal

pub returns-clause-has : goal.returns-clause-has
returns-clause-has c = λ tokens k lt on. depth_exists tokens k lt on

pub returns-clause-begins : goal.returns-clause-begins
returns-clause-begins c = λ tokens k d h. depth_begins tokens k d h
