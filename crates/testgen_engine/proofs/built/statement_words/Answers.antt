use Rattle.std.proofs.Common.{◌≡◌, ap, subst, arith}
use Rattle.p4_program.specs.declared.program.StatementKind.TheVariants.{AssignEgressSpec}
use Rattle.testgen_engine.specs.Skeleton.{statement_text, words_in, FitsNineBits}
use Rattle.testgen_engine.proofs.PlacedLemmas.{assignment_words, parts_few}
use Rattle.testgen_engine.proofs.built.statement_words.Goals as goal

pub overflow_add-result : goal.overflow_add-result
overflow_add-result c =
    omega (arith, c.words_in.ensures, c.words_in-in-AssignEgressSpec.ensures, ap words_in c.assignment.ensures, ap words_in c.end_of_assignment.ensures, parts_few)

pub returns-in-AssignEgressSpec : goal.returns-in-AssignEgressSpec
returns-in-AssignEgressSpec c =
    let value = c.in-AssignEgressSpec.field-0 in
    let fits = subst FitsNineBits c.in-AssignEgressSpec.is c.requires in
    let words = assignment_words value fits in
    let here : words_in (statement_text c.args.kind.now) ≡ words_in (statement_text (AssignEgressSpec value)) = ap (λ kind. words_in (statement_text kind)) c.in-AssignEgressSpec.is in
    omega (arith, c.words_in.ensures, c.words_in-in-AssignEgressSpec.ensures, ap words_in c.assignment.ensures, ap words_in c.end_of_assignment.ensures, words, here)
