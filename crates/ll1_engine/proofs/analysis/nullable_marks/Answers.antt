use Rattle.std.proofs.Common.{◌≡◌, sym, subst, replicate, false, Bool, List, [], ◌∷◌, ◌∙◌}
use Rattle.std.specs.Prelude.{◌↔◌}
use Rattle.ll1_engine.specs.Marks.{Has, DerivesWithin}
use Rattle.ll1_engine.specs.Analysis.{MarksNullable}
use Rattle.ll1_engine.proofs.LeastSetLemmas.{written, nullable_exact}
use Rattle.ll1_engine.proofs.analysis.nullable_marks.Goals as goal

pub returns-clause-exact : goal.returns-clause-exact
returns-clause-exact c =
    let lent : ◌≡◌ {A = List Bool} c.as_mut_slice.result.now (replicate c.args.size false) = c.as_mut_slice.ensures.value ∙ c.in_ok-marks.ensures.items_if_clones_equal (λ y h. h) in
    subst (MarksNullable c.args.rows.now) (sym (written c.in_ok-marks.marks.len c.close_under.new.marks c.in_ok-marks.marks.items (c.close_under.ensures.size ∙ c.as_mut_slice.ensures.len)))
    (nullable_exact c.args.rows.now c.args.size c.close_under.new.marks (λ x. subst (λ (s : List Bool). Has c.close_under.new.marks x ↔ DerivesWithin c.args.rows.now s (x ∷ [])) lent (c.close_under.ensures.exact x)))
