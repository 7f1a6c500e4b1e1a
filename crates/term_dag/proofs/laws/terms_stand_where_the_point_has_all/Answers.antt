-- By the lemmas of where terms stand.
use Rattle.term_dag.proofs.StandingLemmas.{term_stands, has_mentioned}
use Rattle.term_dag.proofs.laws.terms_stand_where_the_point_has_all.Goals as goal

pub returns-clause-stands : goal.returns-clause-stands
returns-clause-stands c nodes p t dag within has = term_stands nodes dag p t within has

pub returns-clause-nowhere_else : goal.returns-clause-nowhere_else
returns-clause-nowhere_else c nodes p t b dag v = has_mentioned nodes dag p t b v
