use Rattle.std.proofs.Common.{List, Bool, None, sym, ap, subst, get_or, ◌∙◌, length}
use Rattle.ll1_engine.specs.Analysis.{MarksFirst, PredictsMarked}
use Rattle.ll1_engine.proofs.AnalysisLemmas.{AreTokenSets_same, first_rows_told, first_predicted}
use Rattle.ll1_engine.proofs.analysis.sets_of_token.Goals as goal

pub returns : goal.returns
returns c =
    let g = c.args.rows.now in
    let t = c.args.token in
    let first = c.in_ok-first.ensures.exact in
    let first_rows = first_rows_told g t c.as_slice-3.result.now c.args.nullable.now c.in_ok-first_rows.first_rows.items (subst (MarksFirst g t) (sym c.as_slice-3.ensures.value) first) c.requires.nullable c.in_ok-first_rows.ensures.exact in
    AreTokenSets_same (length c.args.tokens.now) g t c.in_ok-first_rows.first_rows.items c.from_vec.result c.in_ok-follow.follow.items c.from_vec-2.result c.in_ok-predictions.predictions.items c.from_vec-3.result
    c.from_vec.ensures c.from_vec-2.ensures c.from_vec-3.ensures
    (record {
      first_row_size = c.in_ok-first_rows.ensures.size;
      first_row_marks = first_rows;
      follow_size = c.in_ok-follow.ensures.size ∙ (ap (length {A = Bool}) c.as_slice-2.ensures.value ∙ c.in_ok-first.ensures.size);
      follow_marks = c.in_ok-follow.ensures.exact t (subst (MarksFirst g t) (sym c.as_slice-2.ensures.value) first);
      prediction_size = c.in_ok-predictions.ensures.size;
      first_predicted = λ x lt. first_predicted g t c.in_ok-first_rows.first_rows.items x (get_or c.in_ok-predictions.predictions.items x None) first_rows
          (subst (λ (m : List Bool). PredictsMarked g m x (get_or c.in_ok-predictions.predictions.items x None)) c.as_slice-4.ensures.value (c.in_ok-predictions.ensures.exact x lt));
    })
