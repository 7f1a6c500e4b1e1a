-- What the term mentions stays as the dag grows.
use Rattle.std.proofs.Common.{List, subst, sym, ◌∙◌, true≢false}
use Rattle.cnf_core.specs.declared.derivation.Var.{Var}
use Rattle.bit_blaster.specs.Vars.{AreVarsOf}
use Rattle.query_engine.specs.About.{GoesBy}
use Rattle.query_engine.proofs.AboutLemmas.{fixes_still, vars_still}
use Rattle.query_engine.proofs.AnswerLemmas.{not_constant, ok_asked}
use Rattle.query_engine.proofs.deciding.decide.Goals as goal

pub constant_answer-requires-clause-inputs : goal.constant_answer-requires-clause-inputs
constant_answer-requires-clause-inputs c =
    fixes_still c.args.base.now.domain.dag c.question_clauses.new.base.domain.dag c.len.ensures.dag c.question_clauses.ensures.keeps
    c.args.question.now.term c.requires.within c.args.question.now.at c.requires.inputs

pub constant_answer-requires-clause-all : goal.constant_answer-requires-clause-all
constant_answer-requires-clause-all c =
    subst (λ (l : List Var). AreVarsOf c.question_clauses.new.base.domain.dag c.args.question.now.term l) (sym c.as_slice-then-is_empty.ensures)
    (vars_still c.args.base.now.domain.dag c.question_clauses.new.base.domain.dag c.len.ensures.dag c.question_clauses.ensures.keeps
    c.args.question.now.term c.requires.within c.in_ok-all.all c.in_ok-all.ensures.vars)

pub constant_answer-requires-clause-constant : goal.constant_answer-requires-clause-constant
constant_answer-requires-clause-constant c =
    subst (λ (vs : List Var). GoesBy c.question_clauses.new.base.domain.dag c.args.question.now vs)
    (c.is_empty.ensures.0 c.if-is_empty.true) c.in_ok-blasted.ensures.about.goes_by

pub ask-requires-clause-inputs : goal.ask-requires-clause-inputs
ask-requires-clause-inputs c =
    fixes_still c.args.base.now.domain.dag c.question_clauses.new.base.domain.dag c.len.ensures.dag c.question_clauses.ensures.keeps
    c.args.question.now.term c.requires.within c.args.question.now.at c.requires.inputs

pub ask-requires-clause-all : goal.ask-requires-clause-all
ask-requires-clause-all c =
    subst (λ (l : List Var). AreVarsOf c.question_clauses.new.base.domain.dag c.args.question.now.term l) (sym c.as_slice-else-is_empty.ensures)
    (vars_still c.args.base.now.domain.dag c.question_clauses.new.base.domain.dag c.len.ensures.dag c.question_clauses.ensures.keeps
    c.args.question.now.term c.requires.within c.in_ok-all.all c.in_ok-all.ensures.vars)

pub returns-clause-log : goal.returns-clause-log
returns-clause-log c =
    let left = c.in_ok-blasted.ensures.left in
    ok_asked c.question_clauses.new.base.domain.dag c.args.question.now c.args.allowance left.0 left.1 c.ask.result c.args.log.now c.ask.new.log
    (not_constant c.question_clauses.new.base.domain.dag left.0 c.in_ok-blasted.blasted.vars left.2
    (λ e. true≢false (sym (c.is_empty.ensures.1 e) ∙ c.if-is_empty.false)))
    c.ask.ensures.record
