use Rattle.std.proofs.Common.{◌≡◌, List, Bool, sym, subst, ◌∙◌}
use Rattle.std.specs.Prelude.{IsTrue, ◌↔◌}
use Rattle.ll1_engine.specs.declared.grammar.Row.{Row}
use Rattle.ll1_engine.specs.Analysis.{OtherMarked}
use Rattle.ll1_engine.proofs.ConditionsLemmas.{row_read, follow_unmarked, follow_match}
use Rattle.ll1_engine.proofs.check.breaks_follow.Goals as goal

pub returns-then-not-other_marked : goal.returns-then-not-other_marked
returns-then-not-other_marked c = λ r h.
    follow_unmarked c.args.rows.now c.args.k r c.args.analysis.now.nullable_rows.items c.other_marked.result c.requires.analysis.nullable_row_marks c.if-not-other_marked.true
    (subst (λ (m : List Bool). IsTrue c.other_marked.result ↔ OtherMarked c.args.rows.now c.args.k r m) c.as_slice.ensures.value (c.other_marked.ensures r h))

pub returns : goal.returns
returns c = λ r h.
    let one : c.index-rows-k.result ≡ r = row_read c.args.rows.now c.args.k r c.index-rows-k.result h c.index-rows-k.is in
    follow_match c.args.rows.now c.args.k r c.args.analysis.now.nullable_rows.items c.begins_and_follows.result c.requires.analysis.nullable_row_marks
    (subst (λ (z : Row). z.rank ≡ 0) (sym c.index-rows-k.is ∙ one) c.if-rows-k-ne0.false)
    ((subst (λ (m : List Bool). IsTrue c.other_marked.result ↔ OtherMarked c.args.rows.now c.args.k r m) c.as_slice.ensures.value (c.other_marked.ensures r h)).0 c.if-not-other_marked.false)
    (c.begins_and_follows.ensures r h)
