use Rattle.std.proofs.Common.{◌++◌, sym, ap, ◌∙◌}
use Rattle.p4_program.specs.declared.program.StatementKind.TheVariants.{MarkToDrop, AssignEgressSpec}
use Rattle.testgen_engine.proofs.StatementLemmas.{shorter_statement, no_statement-no_number, no_statement-no_end, assignment_at}
use Rattle.testgen_engine.proofs.skeleton.first_statement.Goals as goal

pub returns-in-Some-clause-shorter : goal.returns-in-Some-clause-shorter
returns-in-Some-clause-shorter c =
    shorter_statement c.args.text.now MarkToDrop c.in-Some.rest.now
    (record { fits = tt; whole = c.in-Some.ensures ∙ ap (λ xs. xs ++ c.in-Some.rest.now) c.drop_call.ensures })

pub returns-in_default-leading_number-clause-statement : goal.returns-in_default-leading_number-clause-statement
returns-in_default-leading_number-clause-statement c =
    no_statement-no_number c.args.text.now c.in-Some-after.number.now
    (λ rest e. c.in_default.ensures rest (e ∙ ap (λ xs. xs ++ rest) (sym c.drop_call.ensures)))
    (c.in-Some-after.ensures ∙ ap (λ xs. xs ++ c.in-Some-after.number.now) c.assignment.ensures)
    c.in_default-leading_number.ensures

pub returns-in_default-after-2-clause-statement : goal.returns-in_default-after-2-clause-statement
returns-in_default-after-2-clause-statement c =
    no_statement-no_end c.args.text.now c.in-Some-after.number.now c.in-Some-leading_number.end.now c.in-Some-leading_number.value
    (λ rest e. c.in_default.ensures rest (e ∙ ap (λ xs. xs ++ rest) (sym c.drop_call.ensures)))
    (c.in-Some-after.ensures ∙ ap (λ xs. xs ++ c.in-Some-after.number.now) c.assignment.ensures)
    c.in-Some-leading_number.ensures
    (λ rest e. c.in_default-after-2.ensures rest (e ∙ ap (λ xs. xs ++ rest) (sym c.end_of_assignment.ensures)))

pub returns-clause-shorter : goal.returns-clause-shorter
returns-clause-shorter c =
    shorter_statement c.args.text.now (AssignEgressSpec c.in-Some-leading_number.value) c.in-Some-after-2.rest.now
    (assignment_at c.args.text.now c.in-Some-after.number.now c.in-Some-leading_number.end.now c.in-Some-after-2.rest.now c.in-Some-leading_number.value
    (c.in-Some-after.ensures ∙ ap (λ xs. xs ++ c.in-Some-after.number.now) c.assignment.ensures)
    c.in-Some-leading_number.ensures
    (c.in-Some-after-2.ensures ∙ ap (λ xs. xs ++ c.in-Some-after-2.rest.now) c.end_of_assignment.ensures))
