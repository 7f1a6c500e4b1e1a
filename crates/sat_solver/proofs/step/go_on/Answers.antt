-- All inputs are set and the formula is satisfied, or the decided literals are taken back.
use Rattle.std.proofs.Common.{◌<◌, ℕ, [], refl, sym, ◌∙◌, subst, arith}
use Rattle.std.specs.Prelude.{All}
use Rattle.unit_propagation.specs.Units.{IsWithin}
use Rattle.unit_propagation.specs.Propagation.{Propagation}
use Rattle.sat_solver.specs.Deciding.{IsReached}
use Rattle.unit_propagation.proofs.ExtendsLaws.{extends_undone}
use Rattle.sat_solver.proofs.DecidingLemmas.{comes_reached}
use Rattle.sat_solver.proofs.ModelLemmas.{is_model}
use Rattle.sat_solver.proofs.step.go_on.Goals as goal

pub returns-then-not-branch-clause-comes_to : goal.returns-then-not-branch-clause-comes_to
returns-then-not-branch-clause-comes_to c =
    let inputs = c.args.inputs in
    let d = c.args.checker.now in
    let p = c.decide_inputs.new.solver in
    let decided = c.decide_inputs.new.decided.items in
    let extends = c.in_ok-decide_inputs.ensures.extends in
    let reached = comes_reached inputs p decided c.in_ok-decide_inputs.field-0 c.if-not-branch.true c.in_ok-decide_inputs.ensures.comes in
    let below : inputs < p.width = omega (arith, c.requires.ready.inputs, c.requires.inputs, extends.width) in
    let within = subst (λ (n : ℕ). All (IsWithin n) d.clauses) (sym extends.width) c.requires.ready.within in (
      refl,
      is_model inputs c.in_ok-valuation_of.field-0 p d decided c.requires.inputs below (extends.clauses ∙ c.requires.ready.clauses) within reached c.requires.determined c.requires.numbered
          (c.in_ok-decide_inputs.ensures.all_set c.if-not-branch.true) c.in_ok-valuation_of.ensures.gives c.in_ok-valuation_of.ensures.variables,
    )

pub least_cube-requires-clause-reached : goal.least_cube-requires-clause-reached
least_cube-requires-clause-reached c =
    let taken_back = extends_undone c.args.solver.now c.decide_inputs.new.solver c.undo_to.new.self c.count-level.result c.in_ok-decide_inputs.ensures.extends c.count-level.ensures.trail
    c.count-level.ensures.reasons c.undo_to.ensures in
    subst (λ (p : Propagation). IsReached c.args.inputs p []) (sym taken_back) c.requires.reached
