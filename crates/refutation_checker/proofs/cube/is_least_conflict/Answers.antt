-- A least conflict over inputs.
use Rattle.refutation_checker.proofs.CubesLemmas.{least_conflict}
use Rattle.refutation_checker.proofs.cube.is_least_conflict.Goals as goal

pub returns-clause-answer : goal.returns-clause-answer
returns-clause-answer c =
    let rule = least_conflict c.args.inputs c.args.root.now.clauses c.args.cube.now (c.are_inputs.ensures.0 c.if-not-are_inputs.false) in
    ((λ yes. rule.0 (c.is_least-answer.ensures.answer.0 yes)), (λ least. c.is_least-answer.ensures.answer.1 (rule.1 least)))
