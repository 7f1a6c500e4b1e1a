-- By the lemma of two points.
use Rattle.term_dag.proofs.StandingLemmas.{same_value}
use Rattle.term_dag.proofs.laws.terms_go_by_what_they_mention.Goals as goal

pub returns : goal.returns
returns c nodes p q t b dag same v = same_value nodes dag p q t b same v
