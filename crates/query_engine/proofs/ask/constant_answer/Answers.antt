-- The term stands for the same at every point that is asked about.
use Rattle.std.proofs.Common.{sym, ◌∙◌, true≢false}
use Rattle.query_engine.proofs.AnswerLemmas.{constant_no}
use Rattle.query_engine.proofs.ask.constant_answer.Goals as goal

pub returns-else-branch-clause-no : goal.returns-else-branch-clause-no
returns-else-branch-clause-no c =
    constant_no c.args.dag.now c.len.ensures.dag c.args.question.now c.requires.within c.requires.constant c.in_ok-point.point
    c.in_ok-point.ensures.at c.in_ok-point.ensures.has
    (λ one. true≢false (sym (c.in_ok-is_one.ensures.1 one) ∙ c.if-branch.false))
