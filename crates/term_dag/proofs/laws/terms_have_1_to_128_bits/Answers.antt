-- By the lemma of bounds.
use Rattle.term_dag.proofs.BoundLemmas.{term_is_width}
use Rattle.term_dag.proofs.laws.terms_have_1_to_128_bits.Goals as goal

pub returns : goal.returns
returns c nodes t dag within =
    let w = term_is_width nodes dag t within in (w.some_bit, w.at_most_widest)
