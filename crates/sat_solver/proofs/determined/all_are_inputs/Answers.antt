-- One clause more is over inputs, and then all are.
use Rattle.std.proofs.Common.{List, refl, subst}
use Rattle.std.specs.Prelude.{All}
use Rattle.std.proofs.lemmas.List.Elements.{All-more}
use Rattle.cnf_core.specs.declared.formula.Lit.{Lit}
use Rattle.refutation_checker.specs.Derivation.{IsInput}
use Rattle.sat_solver.proofs.DeterminedLemmas.{all_inputs, determined_inputs, numbered_inputs}
use Rattle.sat_solver.proofs.determined.all_are_inputs.Goals as goal

pub loop-clause-preserved : goal.loop-clause-preserved
loop-clause-preserved c =
    let are = λ (lits : List Lit). All (λ (l : Lit). IsInput c.args.inputs l.var) lits in
    All-more are c.as_slice-clause-items.result.now c.loop-clause.clause-index c.clause-item.result c.loop-clause-test.true c.loop-clause.invariant
    (subst are c.clause-item.is (subst are c.as_slice.ensures (c.are_inputs.ensures.0 c.if-not-are_inputs.false)))

pub returns-clause-answer : goal.returns-clause-answer
returns-clause-answer c = (
  (λ _. all_inputs c.args.inputs c.loop-clause.clause-index c.as_slice-clause-items.result.now c.args.clauses.now c.loop-clause-test.false c.as_slice-clause-items.ensures c.loop-clause.invariant),
  (λ _. refl),
)

pub returns-clause-numbered : goal.returns-clause-numbered
returns-clause-numbered c = λ _. numbered_inputs c.args.inputs c.args.clauses.now
    (all_inputs c.args.inputs c.loop-clause.clause-index c.as_slice-clause-items.result.now c.args.clauses.now c.loop-clause-test.false c.as_slice-clause-items.ensures c.loop-clause.invariant)

pub returns-clause-determined : goal.returns-clause-determined
returns-clause-determined c = λ _. determined_inputs c.args.inputs c.args.clauses.now
    (all_inputs c.args.inputs c.loop-clause.clause-index c.as_slice-clause-items.result.now c.args.clauses.now c.loop-clause-test.false c.as_slice-clause-items.ensures c.loop-clause.invariant)
