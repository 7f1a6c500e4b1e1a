-- By the lemmas of widths and values.
use Rattle.term_dag.proofs.ValueLemmas.{values_kept, values_were}
use Rattle.term_dag.proofs.WidthLemmas.{width_of_kept}
use Rattle.term_dag.proofs.laws.terms_are_kept.Goals as goal

pub returns-clause-width : goal.returns-clause-width
returns-clause-width c nodes more t dag l = width_of_kept nodes dag more t l

pub returns-clause-kept : goal.returns-clause-kept
returns-clause-kept c nodes more p t b dag h = values_kept nodes dag p more t b h

pub returns-clause-nothing_new : goal.returns-clause-nothing_new
returns-clause-nothing_new c nodes more p t b dag l h = values_were nodes dag p more t b l h
