use Rattle.std.proofs.Common.{◌++◌, map, take_all, ap, sym, ◌∙◌}
use Rattle.std.proofs.lemmas.Result.{on_ok_weaker}
use Rattle.p4_program.specs.Syntax.Numbering.{place_of, numbered_in, numbered_in_all, numbered_in_cases}
use Rattle.p4_program.specs.Trees.Statements.{statement_of, statements_of, switch_cases_of}
use Rattle.p4_program.proofs.Bodies.{numbered_each, numbered_each_case}
use Rattle.p4_program.proofs.Numbers.{places_in, two_lists}
use Rattle.p4_program.proofs.Rows.{if_is, switch_is}
use Rattle.p4_program.proofs.typed.numbered_places.+places.Goals as goal

pub push_statements-returns : goal.push_statements-returns
push_statements-returns t c =
    let xs = c.args.statements.now in
    let first = c.args.places.now in
    let whole = take_all c.loop-statement.statement-index xs c.loop-statement-test.false in
    c.loop-statement.invariant
    ∙ ap (λ ys. first ++ places_in (λ s. numbered_in (statement_of s)) ys) whole
    ∙ ap (λ ns. first ++ map place_of ns) (sym (numbered_each xs))

pub push_cases-returns : goal.push_cases-returns
push_cases-returns t c =
    let cs = c.args.cases.now in
    let first = c.args.places.now in
    let whole = take_all c.loop-case.case-index cs c.loop-case-test.false in
    c.loop-case.invariant
    ∙ ap (λ ys. first ++ places_in (λ k. numbered_in_all (statements_of k.body.items)) ys) whole
    ∙ ap (λ ns. first ++ map place_of ns) (sym (numbered_each_case cs))

pub push_statement-returns-in_ok-push_statements-in-If : goal.push_statement-returns-in_ok-push_statements-in-If
push_statement-returns-in_ok-push_statements-in-If t c =
    let whole = ap statement_of c.in-If.is ∙ if_is c.in-If.field-0 c.in-If.field-1 c.in-If.yes c.in-If.no in
    let one = c.as_slice.ensures.value in
    let other = c.as_slice-in-If.ensures.value in
    let both =
    ap (λ xs. numbered_in_all (statements_of xs) ++ numbered_in_all (statements_of c.as_slice-in-If.result.now)) one
    ∙ ap (λ xs. numbered_in_all (statements_of c.in-If.yes.items) ++ numbered_in_all (statements_of xs)) other
    ∙ sym (ap numbered_in whole) in
    on_ok_weaker c.push_statements-in-If.result
    (λ last.
    two_lists c.args.places.now c.push_statements.new.places c.push_statements-in-If.new.places
    (numbered_in_all (statements_of c.as_slice.result.now)) (numbered_in_all (statements_of c.as_slice-in-If.result.now))
    c.in_ok-push_statements-in-If.ensures last
    ∙ ap (λ ns. c.args.places.now ++ map place_of ns) both)
    c.push_statements-in-If.ensures

pub push_statement-returns-in-Switch : goal.push_statement-returns-in-Switch
push_statement-returns-in-Switch t c =
    let whole = ap statement_of c.in-Switch.is ∙ switch_is c.in-Switch.field-0 c.in-Switch.cases in
    let cases = ap (λ cs. numbered_in_cases (switch_cases_of cs)) c.as_slice-in-Switch.ensures.value in
    on_ok_weaker c.push_cases.result
    (λ last. last ∙ ap (λ ns. c.args.places.now ++ map place_of ns) (cases ∙ sym (ap numbered_in whole)))
    c.push_cases.ensures
