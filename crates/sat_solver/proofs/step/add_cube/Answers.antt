-- The cube's clause is over inputs, and is added to both.
use Rattle.std.proofs.Common.{◌<◌, List, sym, subst}
use Rattle.std.specs.Prelude.{All}
use Rattle.std.proofs.lemmas.List.Elements.{All-map}
use Rattle.cnf_core.specs.declared.formula.Lit.{Lit}
use Rattle.cnf_core.specs.Literal.{negation}
use Rattle.refutation_checker.specs.Acceptance.{IsLeastConflict}
use Rattle.sat_solver.proofs.ReducingLemmas.{inputs_within}
use Rattle.sat_solver.proofs.SolvingLemmas.{ready_cube}
use Rattle.sat_solver.proofs.step.add_cube.Goals as goal

pub accept-requires : goal.accept-requires
accept-requires c = subst (λ (cs : List (List Lit)). IsLeastConflict c.args.checker.now.inputs cs c.args.cube.now) c.requires.ready.clauses c.requires.least

pub add_clause-requires : goal.add_clause-requires
add_clause-requires c =
    let width = c.args.solver.now.width in
    subst (All (λ (l : Lit). l.var < width)) (sym c.in_ok-negations.ensures)
    (All-map (λ (l : Lit). l.var < width) negation c.args.cube.now (inputs_within c.args.checker.now.inputs width c.args.cube.now c.requires.ready.inputs c.requires.least.decides_inputs))

pub returns-clause-ready : goal.returns-clause-ready
returns-clause-ready c = ready_cube c.args.solver.now c.add_clause.new.self c.args.checker.now c.accept.new.checker c.args.cube.now c.in_ok-negations.field-0 c.requires.ready
    c.in_ok-accept.ensures c.in_ok-negations.ensures c.in_ok-add_clause.ensures.added
