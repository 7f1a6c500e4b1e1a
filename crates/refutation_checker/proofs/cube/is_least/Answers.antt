-- Each literal but the last goes on, and the last one ends in a conflict.
use Rattle.std.proofs.Common.{◌≡◌, ◌<◌, ◌∷◌, [], length-append, ℕ, List, length, get_or, sym, ◌∙◌, ap, refl, subst, arith}
use Rattle.std.proofs.Math.Seq.{get_or-append_seam}
use Rattle.cnf_core.specs.declared.formula.Lit.{Lit}
use Rattle.refutation_checker.specs.Cubes.{IsLeast}
use Rattle.unit_propagation.proofs.ExtendsLaws.{extends_itself, extends_then}
use Rattle.refutation_checker.proofs.DecidingLemmas.{not_conflict}
use Rattle.refutation_checker.proofs.CubesLemmas.{reached_none, least_ends, last_refuses}
use Rattle.refutation_checker.proofs.cube.is_least.Goals as goal

pub returns-in_default-clause-extends : goal.returns-in_default-clause-extends
returns-in_default-clause-extends c = extends_itself c.args.root.now

pub loop-place-init : goal.loop-place-init
loop-place-init c = record { extends = extends_itself c.args.root.now; reached = reached_none c.args.root.now c.args.cube.now c.requires.root }

pub decide_next-requires-clause-within : goal.decide_next-requires-clause-within
decide_next-requires-clause-within c =
    let rest = c.in-Some.rest.now in
    let l = c.in-Some.last.now in
    let inside = c.requires.within (length rest) l (omega (arith, ap length c.in-Some.ensures.cases.0, length-append rest (l ∷ []))) in
    let read : get_or c.args.cube.now (length rest) l ≡ l = ap (λ (c' : List Lit). get_or c' (length rest) l) c.in-Some.ensures.cases.0 ∙ get_or-append_seam rest l [] l in
    subst (λ (n : ℕ). l.var < n) (sym c.loop-place.invariant.extends.width) (subst (λ (x : Lit). x.var < c.args.root.now.width) read inside)

pub returns-in-Conflict-clause-answer : goal.returns-in-Conflict-clause-answer
returns-in-Conflict-clause-answer c =
    let root = c.loop-place.root in
    let cube = c.args.cube.now in
    let rest = c.in-Some.rest.now in
    let l = c.in-Some.last.now in
    let inv = c.loop-place.invariant in
    let at : c.loop-place.place ≡ length rest = omega (arith, c.loop-place-test.false, c.loop-place.auto.place-end) in
    let came = c.in-Conflict.ensures.decides in
    let least = least_ends root cube rest l c.loop-place.place inv.reached at c.in-Some.ensures.cases.0 came.0 came.1 in
    ((λ _. subst (λ (cs : List (List Lit)). IsLeast cs cube) inv.extends.clauses least), (λ _. refl))

pub returns-in_default-matches : goal.returns-in_default-matches
returns-in_default-matches c =
    let root = c.loop-place.root in
    let cube = c.args.cube.now in
    let rest = c.in-Some.rest.now in
    let l = c.in-Some.last.now in
    let inv = c.loop-place.invariant in
    let at : c.loop-place.place ≡ length rest = omega (arith, c.loop-place-test.false, c.loop-place.auto.place-end) in
    let refused = last_refuses root cube rest l c.loop-place.place inv.reached at c.in-Some.ensures.cases.0
    (not_conflict root c.decide_next.new.root l c.decide_next.result c.decide_next.ensures.decides c.in_default-matches.not-Conflict) in
    record {
      extends = extends_then c.args.root.now root c.decide_next.new.root inv.extends c.decide_next.ensures.extends;
      answer = ((λ yes. cc), (λ least. absurd (refused (subst (λ (cs : List (List Lit)). IsLeast cs cube) (sym inv.extends.clauses) least))));
    }
