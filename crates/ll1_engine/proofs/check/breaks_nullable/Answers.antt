use Rattle.std.proofs.Common.{List, Bool, false, sym, subst, ◌∙◌, arith}
use Rattle.std.proofs.lemmas.List.{get_or_read}
use Rattle.std.specs.Prelude.{IsTrue, ◌↔◌}
use Rattle.ll1_engine.specs.Analysis.{OtherMarked}
use Rattle.ll1_engine.proofs.ConditionsLemmas.{nullable_unmarked, nullable_match}
use Rattle.ll1_engine.proofs.check.breaks_nullable.Goals as goal

pub returns-then-not-index : goal.returns-then-not-index
returns-then-not-index c = λ r h.
    nullable_unmarked c.args.rows.now c.args.k r c.args.analysis.now.nullable_rows.items c.requires.analysis.nullable_row_marks h (sym (rw c.if-not-index.true at c.index.ensures))

pub returns : goal.returns
returns c = λ r h.
    nullable_match c.args.rows.now c.args.k r c.args.analysis.now.nullable_rows.items c.other_marked.result c.requires.analysis.nullable_row_marks h (sym (get_or_read c.args.analysis.now.nullable_rows.items c.args.k c.index.result.now (let e = c.requires.analysis.nullable_row_count in omega arith) c.index.ensures false) ∙ c.if-not-index.false)
    (subst (λ (m : List Bool). IsTrue c.other_marked.result ↔ OtherMarked c.args.rows.now c.args.k r m) c.as_slice.ensures.value (c.other_marked.ensures r h))
