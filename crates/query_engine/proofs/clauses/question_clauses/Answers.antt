-- By the lemmas of what is left.
use Rattle.std.proofs.Common.{sym, ◌∙◌, true≢false}
use Rattle.query_engine.proofs.AboutLemmas.{fixes_still, ok_about, ok_left, ok_never, one_width_still, two_widths_still, vars_still}
use Rattle.query_engine.proofs.clauses.question_clauses.Goals as goal

pub returns-then-one_width-clause-about : goal.returns-then-one_width-clause-about
returns-then-one_width-clause-about c =
    let old = c.args.base.now.domain.dag in
    let new = c.left_of.new.dag in
    let t = c.args.question.now.term in
    let s = c.in_ok-left.ensures in
    ok_about new s.dag c.args.question.now c.in_ok-left.left s.left c.clauses_of.result c.clauses_of.ensures.vars
    (fixes_still old new c.len.ensures.dag s.keeps t c.requires.within c.args.question.now.at c.requires.inputs)
    (one_width_still old new c.len.ensures.dag s.keeps t c.requires.within (c.in_ok-one_width.ensures.0 c.if-one_width.true))
    s.within c.args.all.now
    (vars_still old new c.len.ensures.dag s.keeps t c.requires.within c.args.all.now c.requires.all)
    c.clauses_of.ensures.formula c.clauses_of.ensures.determined

pub returns-else-one_width-clause-left : goal.returns-else-one_width-clause-left
returns-else-one_width-clause-left c =
    let s = c.in_ok-left.ensures in
    ok_left c.left_of.new.dag s.dag c.args.question.now c.in_ok-left.left s.left c.never.result c.never.ensures.vars

pub returns-else-one_width-clause-about : goal.returns-else-one_width-clause-about
returns-else-one_width-clause-about c =
    let old = c.args.base.now.domain.dag in
    let new = c.left_of.new.dag in
    let t = c.args.question.now.term in
    let s = c.in_ok-left.ensures in
    ok_never new s.dag c.args.question.now c.in_ok-left.left s.left c.never.result c.never.ensures.vars
    (fixes_still old new c.len.ensures.dag s.keeps t c.requires.within c.args.question.now.at c.requires.inputs)
    (two_widths_still old new c.len.ensures.dag s.keeps t c.requires.within
    (λ one. true≢false (sym (c.in_ok-one_width.ensures.1 one) ∙ c.if-one_width.false)))
    c.never.ensures.clauses
