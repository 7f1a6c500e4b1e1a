-- The record that was added, by its parts.
use Rattle.query_engine.proofs.AnswerLemmas.{adds_record}
use Rattle.query_engine.proofs.TextLemmas.{has_text}
use Rattle.query_engine.proofs.ask.ask.Goals as goal

pub returns-clause-record : goal.returns-clause-record
returns-clause-record c =
    let s = c.in_ok-decided.field-0 in
    adds_record c.args.dag.now c.args.question.now c.args.allowance s.decided c.args.log.now c.add.new.self
    c.in_ok-copy.field-0 c.args.blasted.vars c.args.blasted.clauses s.derived s.end
    c.in_ok-copy.ensures c.in_ok-add.ensures.last c.requires.some_var c.requires.about c.in_ok-decided.ensures.accepted c.in_ok-decided.ensures.says
    (λ bits. has_text c.args.question.now c.args.blasted.vars c.args.blasted.clauses s.derived c.args.allowance s.decided s.end
    c.requires.at c.requires.some_var bits c.requires.numbered c.requires.apart c.in_ok-decided.ensures.accepted
    c.in_ok-decided.ensures.numbers c.in_ok-decided.ensures.says)
