use Rattle.std.proofs.Common.{◌≡◌, List, Bool, Option, ℕ, None, sym, ap, subst, get_or, ◌∙◌, length}
use Rattle.ll1_engine.specs.Prediction.{PredictsNullable}
use Rattle.ll1_engine.specs.Analysis.{MarksProductive, MarksNullable, PredictsMarked, AreSetsBelow}
use Rattle.ll1_engine.proofs.AnalysisLemmas.{nullable_rows_told, nullable_predicted}
use Rattle.ll1_engine.proofs.analysis.analyze.Goals as goal

pub returns : goal.returns
returns c =
    let g = c.args.rows.now in
    let size : length c.as_slice.result.now ≡ c.args.size = ap (length {A = Bool}) c.as_slice.ensures.value ∙ c.in_ok-tokens.ensures.size in
    let size-4 : length c.as_slice-4.result.now ≡ c.args.size = ap (length {A = Bool}) c.as_slice-4.ensures.value ∙ c.in_ok-tokens.ensures.size in
    let nullable_rows = nullable_rows_told g c.as_slice-2.result.now c.in_ok-nullable_rows.nullable_rows.items (subst (MarksNullable g) (sym c.as_slice-2.ensures.value) c.in_ok-nullable.ensures.exact) c.in_ok-nullable_rows.ensures.exact in
    record {
      token_count = c.in_ok-tokens.ensures.size;
      token_marks = c.in_ok-tokens.ensures.exact;
      productive_count = c.in_ok-productive.ensures.size ∙ size;
      productive_marks = subst (λ (n : ℕ). MarksProductive n g c.in_ok-productive.productive.items) size c.in_ok-productive.ensures.exact;
      nullable_row_count = c.in_ok-nullable_rows.ensures.size;
      nullable_row_marks = nullable_rows;
      nullable_count = ap (length {A = Option ℕ}) c.from_vec.ensures ∙ c.in_ok-predictions.ensures.size;
      nullable_predicted = λ x lt. subst (λ (zs : List (Option ℕ)). PredictsNullable g x (get_or zs x None)) (sym c.from_vec.ensures)
          (nullable_predicted g c.in_ok-nullable_rows.nullable_rows.items x (get_or c.in_ok-predictions.predictions.items x None) nullable_rows
          (subst (λ (m : List Bool). PredictsMarked g m x (get_or c.in_ok-predictions.predictions.items x None)) c.as_slice-3.ensures.value (c.in_ok-predictions.ensures.exact x lt)));
      token_sets = subst (λ (n : ℕ). AreSetsBelow n n g c.in_ok-token_sets.token_sets.first_rows.items c.in_ok-token_sets.token_sets.follows.items c.in_ok-token_sets.token_sets.first_predictions.items) size-4 c.in_ok-token_sets.ensures;
    }
