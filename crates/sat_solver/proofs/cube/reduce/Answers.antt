-- The literals before the last are tried in order, and the last one stays.
use Rattle.std.proofs.Common.{◌≡◌, List, ◌∷◌, [], ◌++◌, length, sym, ◌∙◌, subst, arith}
use Rattle.cnf_core.specs.declared.formula.Lit.{Lit}
use Rattle.refutation_checker.specs.Acceptance.{IsLeastConflict}
use Rattle.sat_solver.specs.Deciding.{EndsInConflict}
use Rattle.sat_solver.specs.Reducing.{IsReduced}
use Rattle.unit_propagation.proofs.ExtendsLaws.{extends_itself, extends_then}
use Rattle.sat_solver.proofs.DecidingLemmas.{width_extends}
use Rattle.sat_solver.proofs.ReducingLemmas.{reduced_none, least_left, conflict_has_last}
use Rattle.sat_solver.proofs.cube.reduce.Goals as goal

pub unreachable-requires : goal.unreachable-requires
unreachable-requires c = conflict_has_last c.args.inputs c.args.solver.now.clauses c.args.decided.now c.requires.conflict c.in_default.ensures.cases

pub loop-place-init : goal.loop-place-init
loop-place-init c = record {
  extends = extends_itself c.args.solver.now;
  reduced = subst (λ (ks : List Lit). IsReduced c.args.solver.now c.args.decided.now ks 0) (sym c.new-kept.ensures.items)
      (reduced_none c.args.inputs c.args.solver.now c.args.decided.now c.requires.reached c.requires.conflict);
}

pub keep_if_needed-requires : goal.keep_if_needed-requires
keep_if_needed-requires c = record {
  inputs = width_extends c.args.inputs c.args.solver.now c.loop-place.solver c.loop-place.invariant.extends c.requires.inputs;
  conflict = subst (λ (cs : List (List Lit)). EndsInConflict c.args.inputs cs c.args.decided.now) (sym c.loop-place.invariant.extends.clauses) c.requires.conflict;
  place = omega (arith, c.in-Some.ensures.cases.1, c.loop-place-test.true);
  reduced = c.loop-place.invariant.reduced;
}

pub loop-place-preserved : goal.loop-place-preserved
loop-place-preserved c = record {
  extends = extends_then c.args.solver.now c.loop-place.solver c.keep_if_needed.new.solver c.loop-place.invariant.extends c.in_ok-keep_if_needed.ensures.extends;
  reduced = c.in_ok-keep_if_needed.ensures.reduced;
}

pub returns-clause-least : goal.returns-clause-least
returns-clause-least c =
    let inputs = c.args.inputs in
    let decided = c.args.decided.now in
    let now = c.loop-place.solver in
    let kept = c.loop-place.kept.items in
    let rest = c.in-Some.rest.now in
    let last = c.in-Some.last.now in
    let same = c.loop-place.invariant.extends.clauses in
    let at : c.loop-place.place ≡ length rest = omega (arith, c.loop-place-test.false, c.loop-place.auto.place-end) in
    let ends = subst (λ (cs : List (List Lit)). EndsInConflict inputs cs decided) (sym same) c.requires.conflict in
    let least = least_left inputs now.clauses decided kept rest last c.loop-place.place ends c.loop-place.invariant.reduced.keeps c.in-Some.ensures.cases.0 at in
    subst (IsLeastConflict inputs c.args.solver.now.clauses) (sym (c.from_vec.ensures ∙ c.in_ok-push.ensures.items))
    (subst (λ (cs : List (List Lit)). IsLeastConflict inputs cs (kept ++ last ∷ [])) same least)
