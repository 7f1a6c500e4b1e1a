use Rattle.std.proofs.Common.{◌≡◌, sym, subst, ap, length, get_or, set, replicate, false, Bool, List, [], ◌∷◌, ◌∙◌}
use Rattle.std.specs.Prelude.{◌↔◌}
use Rattle.ll1_engine.specs.Marks.{Has, DerivesWithin}
use Rattle.ll1_engine.specs.Analysis.{MarksFirst}
use Rattle.ll1_engine.proofs.LeastSetLemmas.{written, first_exact, first_seed, first_start}
use Rattle.ll1_engine.proofs.analysis.first_marks.Goals as goal

pub returns-clause-exact : goal.returns-clause-exact
returns-clause-exact c =
    let g = c.args.rows.now in
    let t = c.args.token in
    let n = length c.args.tokens.now in
    let b = get_or c.args.tokens.now t false in
    let old = set (replicate n false) t b in
    let lent : ◌≡◌ {A = List Bool} c.as_mut_slice.result.now old = c.as_mut_slice.ensures.value ∙ ap (λ (zs : List Bool). set zs t b) (c.in_ok-marks.ensures.items_if_clones_equal (λ y h. h)) in
    let new = c.close_under.new.marks in
    subst (MarksFirst g t) (sym (written c.in_ok-marks.marks.len new _ (c.close_under.ensures.size ∙ c.as_mut_slice.ensures.len)))
    (first_exact g t c.args.begins.now old new c.requires.begins (first_seed g n t b (c.requires.tokens t c.requires.token)) (first_start g n t b c.requires.token (c.requires.tokens t c.requires.token))
    (λ x. subst (λ (s : List Bool). Has new x ↔ DerivesWithin c.args.begins.now s (x ∷ [])) lent (c.close_under.ensures.exact x)))
