use Rattle.std.proofs.Common.{◌≡◌, sym, subst, Bool, List, [], ◌∷◌, ◌∙◌}
use Rattle.std.specs.Prelude.{◌↔◌}
use Rattle.ll1_engine.specs.declared.grammar.Row.{Row}
use Rattle.ll1_engine.specs.Marks.{Has, DerivesWithin}
use Rattle.ll1_engine.specs.Relations.{StandsBefore, EndsDirectly, Represents}
use Rattle.ll1_engine.specs.Analysis.{MarksFollow}
use Rattle.ll1_engine.proofs.LeastSetLemmas.{written, follow_exact}
use Rattle.ll1_engine.proofs.analysis.follow_marks.Goals as goal

pub returns-clause-exact : goal.returns-clause-exact
returns-clause-exact c = λ t first.
    let g = c.args.rows.now in
    let s = c.args.relations.now in
    let set = c.args.first.now in
    let new = c.close_under.new.marks in
    let next : ◌≡◌ {A = List Row} c.as_slice.result.now s.next.items = c.as_slice.ensures.value in
    let ends : ◌≡◌ {A = List Row} c.as_slice-2.result.now s.ends.items = c.as_slice-2.ensures.value in
    let old : ◌≡◌ {A = List Bool} c.as_mut_slice.result.now c.in_ok-marks.marks.items = c.as_mut_slice.ensures.value in
    subst (MarksFollow g t) (sym (written c.in_ok-marks.marks.len new c.in_ok-marks.marks.items (c.close_under.ensures.size ∙ c.as_mut_slice.ensures.len)))
    (follow_exact g t c.as_slice.result.now c.as_slice-2.result.now set c.in_ok-marks.marks.items new first
    (subst (λ (zs : List Row). Represents zs (StandsBefore g)) (sym next) c.requires.next) (subst (λ (zs : List Row). Represents zs (EndsDirectly g)) (sym ends) c.requires.ends)
    c.in_ok-marks.ensures.exact
    (λ x. subst (λ (z : List Bool). Has new x ↔ DerivesWithin c.as_slice-2.result.now z (x ∷ [])) old (c.close_under.ensures.exact x)))
