-- The literal is dropped where the others conflict, and decided where they do not.
use Rattle.std.proofs.Common.{◌≡◌, ◌+◌, ◌-◌, ◌<◌, ℕ, List, [], ◌∷◌, ◌++◌, length, get_or, take, drop, sym, subst, arith}
use Rattle.std.specs.Prelude.{All}
use Rattle.std.proofs.lemmas.Bool.{both_ways}
use Rattle.std.proofs.lemmas.List.{take_rest, get_or_default}
use Rattle.std.proofs.lemmas.List.Elements.{All-drop}
use Rattle.cnf_core.specs.declared.formula.Lit.{Lit}
use Rattle.cnf_core.specs.Propagation.{Conflicts}
use Rattle.cnf_core.proofs.Literals.{no_lit}
use Rattle.refutation_checker.specs.Acceptance.{LeavesOpen}
use Rattle.unit_propagation.specs.Propagation.{Propagation, IsFull, decisions, Extends}
use Rattle.sat_solver.specs.Reducing.{IsReduced}
use Rattle.unit_propagation.proofs.ExtendsLaws.{extends_itself}
use Rattle.sat_solver.proofs.ReducingLemmas.{reduced_dropped, reduced_kept, reduced_leaves, reduced_free, reduced_consistent, inputs_within}
use Rattle.sat_solver.proofs.cube.keep_if_needed.Goals as goal

abbrev behind : List Lit → ℕ → List Lit
behind decided n = take (length decided - n) (drop n decided)

pub conflicts_with-requires-clause-within : goal.conflicts_with-requires-clause-within
conflicts_with-requires-clause-within c =
    let width = c.args.solver.now.width in
    let decided = c.args.decided.now in
    subst (All (λ l. l.var < width)) (sym (take_rest decided (c.args.place + 1)))
    (All-drop (λ l. l.var < width) (c.args.place + 1) decided (inputs_within c.args.inputs width decided c.requires.inputs c.requires.conflict.open_inputs.are_inputs))

pub conflicts_with-requires-clause-consistent : goal.conflicts_with-requires-clause-consistent
conflicts_with-requires-clause-consistent c =
    let decided = c.args.decided.now in
    reduced_consistent c.args.inputs c.args.solver.now decided c.args.kept.now.items (behind decided (c.args.place + 1)) c.args.place c.requires.conflict (take_rest decided (c.args.place + 1)) c.requires.reduced

pub returns-then-conflicts_with : goal.returns-then-conflicts_with
returns-then-conflicts_with c =
    let decided = c.args.decided.now in
    record {
      extends = subst (Extends c.args.solver.now) (sym c.conflicts_with.ensures.stays) (extends_itself c.args.solver.now);
      reduced = reduced_dropped c.args.solver.now c.conflicts_with.new.solver decided c.args.kept.now.items (behind decided (c.args.place + 1)) c.args.place c.conflicts_with.ensures.stays
          (take_rest decided (c.args.place + 1)) c.requires.reduced (c.conflicts_with.ensures.answer.0 c.if-conflicts_with.true);
    }

pub keep-requires : goal.keep-requires
keep-requires c =
    let old = c.args.solver.now in
    let decided = c.args.decided.now in
    let place = c.args.place in
    let d = get_or decided place no_lit in
    let inside : place < length decided = let short = c.requires.place in omega arith in
    let at : get_or decided place d ≡ d = get_or_default decided place d no_lit inside in
    let input = c.requires.conflict.open_inputs.are_inputs place no_lit inside in
    let within : d.var < old.width = omega (arith, input.1, c.requires.inputs) in
    let stays : old ≡ c.conflicts_with.new.solver = sym c.conflicts_with.ensures.stays in
    record {
      within = subst (λ (p : Propagation). d.var < p.width) stays within;
      full = subst (λ (p : Propagation). IsFull p p) stays c.requires.reduced.full;
      leaves_open = subst (λ (p : Propagation). LeavesOpen p.clauses (decisions p) d) stays (reduced_leaves c.args.inputs old decided c.args.kept.now.items place d c.requires.conflict inside at c.requires.reduced);
      no_conflict = subst (λ (p : Propagation). Conflicts p.clauses (decisions p ++ d ∷ []) → ⊥) stays
          (reduced_free c.args.inputs old decided c.args.kept.now.items place d c.requires.conflict c.requires.place at c.requires.reduced);
    }

pub returns : goal.returns
returns c =
    let old = c.args.solver.now in
    let new = c.keep.new.solver in
    let decided = c.args.decided.now in
    let place = c.args.place in
    let d = get_or decided place no_lit in
    let inside : place < length decided = let short = c.requires.place in omega arith in
    let at : get_or decided place d ≡ d = get_or_default decided place d no_lit inside in
    let extends = subst (λ (p : Propagation). Extends p new) c.conflicts_with.ensures.stays c.keep.ensures.extends in
    let decides = subst (λ (p : Propagation). decisions new ≡ decisions p ++ d ∷ []) c.conflicts_with.ensures.stays c.keep.ensures.decides in
    record {
      extends = extends;
      reduced = subst (λ (ks : List Lit). IsReduced new decided ks (place + 1)) (sym c.in_ok-push.ensures.items)
          (reduced_kept c.args.inputs old new decided c.args.kept.now.items (behind decided (place + 1)) place d extends decides c.keep.ensures.full (take_rest decided (place + 1)) c.requires.conflict inside at
          c.requires.reduced (λ conflicts. both_ways c.conflicts_with.result c.if-conflicts_with.false (c.conflicts_with.ensures.answer.1 conflicts)));
    }
