-- The other literals are tried and taken back, and then the literal is decided.
use Rattle.std.proofs.Common.{◌≡◌, ◌+◌, ◌-◌, ◌<◌, ℕ, List, refl, length, get_or, take, drop, sym, subst, arith}
use Rattle.std.proofs.lemmas.List.{take_all, length-drop, get_or_default}
use Rattle.cnf_core.specs.declared.formula.Lit.{Lit}
use Rattle.cnf_core.specs.Propagation.{Conflicts}
use Rattle.cnf_core.proofs.Literals.{no_lit}
use Rattle.unit_propagation.specs.Propagation.{Propagation, IsFull, decisions, Extends}
use Rattle.refutation_checker.specs.Deciding.{Decides}
use Rattle.refutation_checker.specs.declared.decide.Decision.TheVariants.{Full}
use Rattle.unit_propagation.proofs.ExtendsLaws.{extends_itself, extends_undone}
use Rattle.refutation_checker.proofs.DecidingLemmas.{not_full}
use Rattle.refutation_checker.proofs.CubesLemmas.{without_refuses, without, next_refuses, reached_next}
use Rattle.refutation_checker.proofs.cube.goes_on.Goals as goal

behind : (cube : List Lit) (n : ℕ) → take (length cube - n) (drop n cube) ≡ drop n cube
behind cube n = take_all (length cube - n) (drop n cube) (omega (arith, length-drop n cube))

pub returns-then-conflicts-clause-extends : goal.returns-then-conflicts-clause-extends
returns-then-conflicts-clause-extends c = subst (Extends c.args.root.now) (sym (extends_undone c.args.root.now c.conflicts_with-conflicts.new.root c.undo_to.new.self c.count-start.result c.conflicts_with-conflicts.ensures.extends c.count-start.ensures.trail c.count-start.ensures.reasons c.undo_to.ensures)) (extends_itself c.args.root.now)

pub returns-then-conflicts-clause-refused : goal.returns-then-conflicts-clause-refused
returns-then-conflicts-clause-refused c =
    let root = c.args.root.now in
    let cube = c.args.cube.now in
    let place = c.args.place in
    let inside : place < length cube = let short = c.requires.place in omega arith in
    without_refuses root.clauses cube (decisions root) (take (length cube - (place + 1)) (drop (place + 1) cube)) place inside c.requires.reached.decides (behind cube (place + 1))
    (c.if-conflicts.ensures.conflicts refl)

pub decide_next-requires-clause-full : goal.decide_next-requires-clause-full
decide_next-requires-clause-full c = subst (λ (p : Propagation). IsFull p p) (sym (extends_undone c.args.root.now c.conflicts_with-conflicts.new.root c.undo_to.new.self c.count-start.result c.conflicts_with-conflicts.ensures.extends c.count-start.ensures.trail c.count-start.ensures.reasons c.undo_to.ensures)) c.requires.reached.full

pub returns-in-Full-clause-reached : goal.returns-in-Full-clause-reached
returns-in-Full-clause-reached c =
    let root = c.args.root.now in
    let new = c.decide_next.new.root in
    let cube = c.args.cube.now in
    let place = c.args.place in
    let l = get_or cube place no_lit in
    let inside : place < length cube = let short = c.requires.place in omega arith in
    let full = subst (λ (p : Propagation). Decides p new l Full) (extends_undone c.args.root.now c.conflicts_with-conflicts.new.root c.undo_to.new.self c.count-start.result c.conflicts_with-conflicts.ensures.extends c.count-start.ensures.trail c.count-start.ensures.reasons c.undo_to.ensures) c.in-Full.ensures.decides in
    let extends = subst (λ (p : Propagation). Extends p new) (extends_undone c.args.root.now c.conflicts_with-conflicts.new.root c.undo_to.new.self c.count-start.result c.conflicts_with-conflicts.ensures.extends c.count-start.ensures.trail c.count-start.ensures.reasons c.undo_to.ensures) c.in-Full.ensures.extends in
    let needed : Conflicts root.clauses _ → ⊥ = c.if-conflicts.ensures.none in
    reached_next root new cube place l c.requires.reached inside (get_or_default cube place l no_lit inside) extends.clauses full.2 full.3 full.0 full.1
    (λ conflicts. needed (subst (Conflicts root.clauses) (sym (without cube (decisions root) (take (length cube - (place + 1)) (drop (place + 1) cube)) place c.requires.reached.decides (behind cube (place + 1)))) conflicts))

pub returns-in_default : goal.returns-in_default
returns-in_default c =
    let root = c.args.root.now in
    let new = c.decide_next.new.root in
    let cube = c.args.cube.now in
    let place = c.args.place in
    let l = get_or cube place no_lit in
    let inside : place < length cube = let short = c.requires.place in omega arith in
    let came = subst (λ (p : Propagation). Decides p new l c.decide_next.result) (extends_undone c.args.root.now c.conflicts_with-conflicts.new.root c.undo_to.new.self c.count-start.result c.conflicts_with-conflicts.ensures.extends c.count-start.ensures.trail c.count-start.ensures.reasons c.undo_to.ensures) c.decide_next.ensures.decides in
    record {
      extends = subst (λ (p : Propagation). Extends p new) (extends_undone c.args.root.now c.conflicts_with-conflicts.new.root c.undo_to.new.self c.count-start.result c.conflicts_with-conflicts.ensures.extends c.count-start.ensures.trail c.count-start.ensures.reasons c.undo_to.ensures) c.decide_next.ensures.extends;
      reached = tt;
      refused = next_refuses root.clauses cube (decisions root) place l c.requires.place (get_or_default cube place l no_lit inside) c.requires.reached.decides
          (not_full root new l c.decide_next.result came c.in_default.not-Full);
    }
