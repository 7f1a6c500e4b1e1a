-- By the lemmas of values.
use Rattle.term_dag.proofs.ValueLemmas.{one_value, width_of_value}
use Rattle.term_dag.proofs.laws.terms_stand_for_one_number.Goals as goal

pub returns-clause-one : goal.returns-clause-one
returns-clause-one c nodes p t b n dag h k = one_value nodes dag p t b n h k

pub returns-clause-width : goal.returns-clause-width
returns-clause-width c nodes p t b dag h = width_of_value nodes dag p t b h
