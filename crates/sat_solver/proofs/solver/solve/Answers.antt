-- Each answer tells the accepted lines.
use Rattle.std.proofs.Common.{sym, ap, ◌∙◌, ◌≤◌, ◌^◌, List, subst, arith}
use Rattle.cnf_core.specs.declared.formula.Lit.{Lit}
use Rattle.std.specs.Prelude.{All}
use Rattle.unit_propagation.specs.Units.{IsWithin}
use Rattle.unit_propagation.specs.Trail.{decided}
use Rattle.cnf_core.specs.Determined.{IsDetermined, AreNumbered}
use Rattle.sat_solver.proofs.SolvingLemmas.{has_none, has_more, ready_none, tells_cubes, tells_refutation, never, comes_refuted, comes_cube}
use Rattle.sat_solver.proofs.solver.solve.Goals as goal

pub loop-count-init : goal.loop-count-init
loop-count-init c =
    let p = c.in_ok-solver.solver in
    let d = c.in_ok-checker.checker in
    let none = has_none c.args.inputs c.args.clauses.now d c.in_ok-checker.ensures.inputs c.in_ok-checker.ensures.clauses c.in_ok-checker.ensures.derived in
    let made = c.in_ok-solver.ensures in
    record {
      ready = ready_none p d c.args.inputs c.args.clauses.now none c.in_ok-checker.ensures.derived (made.clauses ∙ c.as_slice.ensures) (ap (λ (t : List Lit). decided t p.reasons) made.trail) made.inputs
          (subst (λ (cs : List (List Lit)). All (IsWithin p.width) cs) c.as_slice.ensures made.within) made.bound;
      cubes = none;
    }

pub step-requires-clause-determined : goal.step-requires-clause-determined
step-requires-clause-determined c = subst (IsDetermined c.args.inputs) (sym c.loop-count.invariant.cubes.same_clauses) c.requires.determined

pub step-requires-clause-numbered : goal.step-requires-clause-numbered
step-requires-clause-numbered c = subst AreNumbered (sym c.loop-count.invariant.cubes.same_clauses) c.requires.numbered

pub returns-in-Refuted-clause-unsatisfiable : goal.returns-in-Refuted-clause-unsatisfiable
returns-in-Refuted-clause-unsatisfiable c =
    let d = c.loop-count.checker in
    let e = c.step.new.checker in
    let adds = comes_refuted d e c.in_ok-valuation.field-0 c.in-Refuted.is c.in_ok-valuation.ensures.comes_to in
    let lines = c.in_ok-into_derived-in-Refuted.ensures in
    (tells_refutation c.args.inputs c.args.clauses.now d e c.in_ok-into_derived-in-Refuted.field-0 c.loop-count.count c.loop-count.invariant.cubes adds lines.accepted lines.lines).unsatisfiable

pub returns-in-Refuted-clause-few : goal.returns-in-Refuted-clause-few
returns-in-Refuted-clause-few c =
    let d = c.loop-count.checker in
    let e = c.step.new.checker in
    let adds = comes_refuted d e c.in_ok-valuation.field-0 c.in-Refuted.is c.in_ok-valuation.ensures.comes_to in
    let lines = c.in_ok-into_derived-in-Refuted.ensures in
    let told = tells_refutation c.args.inputs c.args.clauses.now d e c.in_ok-into_derived-in-Refuted.field-0 c.loop-count.count c.loop-count.invariant.cubes adds lines.accepted lines.lines in
    omega (arith, told.counted, c.loop-count-test.true)

pub loop-count-preserved : goal.loop-count-preserved
loop-count-preserved c =
    let d = c.loop-count.checker in
    let e = c.step.new.checker in
    record {
      ready = c.in_ok-valuation.ensures.ready c.in-Cube.is;
      cubes = has_more c.args.inputs c.args.clauses.now d e c.loop-count.count c.loop-count.invariant.cubes (comes_cube d e c.in_ok-valuation.field-0 c.in-Cube.is c.in_ok-valuation.ensures.comes_to);
    }

pub returns-clause-never_spent : goal.returns-clause-never_spent
returns-clause-never_spent c = λ many.
    let lines = c.in_ok-into_derived.ensures in
    let told = tells_cubes c.args.inputs c.args.clauses.now c.loop-count.checker c.in_ok-into_derived.field-0 c.loop-count.count c.loop-count.invariant.cubes lines.accepted lines.lines in
    let enough : 3 ^ c.args.inputs ≤ c.loop-count.count = omega (arith, many, c.loop-count-test.false) in
    never c.args.inputs c.args.clauses.now c.in_ok-into_derived.field-0 c.loop-count.count told enough
