use Rattle.std.proofs.Common.{List, [], ◌∷◌, ◌++◌, ap, sym, ◌∙◌}
use Rattle.std.proofs.lemmas.Bool.{false≢true}
use Rattle.p4_meaning.specs.declared.test.Test.{Test}
use Rattle.testgen_engine.proofs.ChosenLemmas.{decided_right, decided_decided}
use Rattle.testgen_engine.proofs.Lists.{some_item}
use Rattle.testgen_engine.proofs.decide.decide.Goals as goal

pub returns-clause-right : goal.returns-clause-right
returns-clause-right c =
    let t : Test = c.in_ok-opening_test.field-0 in
    let some = some_item c.args.program.now.statements (λ e. false≢true (sym c.if-is_empty.false ∙ c.is_empty.ensures.1 e)) in
    decided_right c.args.program.now c.args.bounds t c.len.result c.in_ok-verdicts.verdicts c.push.new.self c.len.ensures c.in_ok-verdicts.ensures
    (c.in_ok-push.ensures.ok ∙ ap (λ (ts : List Test). ts ++ t ∷ []) c.new-tests.ensures) c.in_ok-opening_test.ensures some

pub returns-clause-decided : goal.returns-clause-decided
returns-clause-decided c =
    let t : Test = c.in_ok-opening_test.field-0 in
    decided_decided c.args.program.now c.args.bounds t c.len.result c.in_ok-verdicts.verdicts c.push.new.self c.len.ensures c.in_ok-verdicts.ensures
    (c.in_ok-push.ensures.ok ∙ ap (λ (ts : List Test). ts ++ t ∷ []) c.new-tests.ensures) c.in_ok-opening_test.ensures
