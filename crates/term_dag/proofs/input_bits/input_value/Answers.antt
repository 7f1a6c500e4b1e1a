-- The bits fit the width.
use Rattle.std.proofs.Common.{◌+◌, ◌≤◌, Bool, List, length, reverse, ap, subst, ◌∙◌}
use Rattle.std.specs.Prelude.{slice_range}
use Rattle.bits_core.specs.BitList.{number_of}
use Rattle.term_dag.proofs.InputBitsLemmas.{fits_width}
use Rattle.term_dag.proofs.input_bits.input_value.Goals as goal

pub returns-clause-some : goal.returns-clause-some
returns-clause-some c =
    let found = c.in_ok-bits.ensures.lookup.0 in
    record {
      there = subst (λ (l : List Bool). c.args.first + c.args.width ≤ length l) c.as_slice.ensures found.1;
      width = c.wrapping.ensures.width;
      value = c.wrapping.ensures.same (fits_width c.in_ok-bits.bits.now _ c.args.width c.args.first c.number_of_bits.ensures found.3)
          ∙ c.number_of_bits.ensures
          ∙ ap (λ (l : List Bool). number_of (reverse l)) (found.2
          ∙ ap (λ (l : List Bool). slice_range l c.args.first (c.args.first + c.args.width)) c.as_slice.ensures);
    }
