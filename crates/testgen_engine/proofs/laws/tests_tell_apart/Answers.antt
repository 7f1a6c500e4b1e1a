use Rattle.testgen_engine.proofs.TestTextLemmas.{same_test_text}
use Rattle.testgen_engine.proofs.laws.tests_tell_apart.Goals as goal

pub returns : goal.returns
returns c = same_test_text
