-- A reason is a hint for its literal, and the false clause is the last.
use Rattle.std.proofs.Common.{◌<◌, ◌≤◌, ℕ, List, [], ◌∷◌, ◌++◌, length, take, sym, ◌∙◌, subst, arith, append_assoc}
use Rattle.std.specs.Prelude.{All}
use Rattle.std.proofs.lemmas.List.{take_all}
use Rattle.std.proofs.lemmas.List.Elements.{All-push}
use Rattle.cnf_core.specs.declared.formula.Lit.{Lit}
use Rattle.cnf_core.proofs.Literals.{no_lit}
use Rattle.refutation_checker.specs.Hints.{HintsConflict}
use Rattle.sat_solver.proofs.HintsLemmas.{has_reason, hint_sets, hint_conflicts}
use Rattle.sat_solver.proofs.refutation.hints.Goals as goal

pub unreachable-requires : goal.unreachable-requires
unreachable-requires c =
    let trail = c.args.solver.now.trail in
    let inside : c.loop-place.place < length trail = omega (arith, c.loop-place-test.true, c.count-count.ensures.trail) in
    has_reason trail c.args.solver.now.reasons c.loop-place.place c.requires.decides (sym c.count-count.ensures.reasons ∙ c.count-count.ensures.trail) inside c.in_default.ensures.is

pub loop-place-init : goal.loop-place-init
loop-place-init c = (
  λ rest h. subst (λ (hs : List ℕ). HintsConflict c.args.solver.now.clauses [] (hs ++ rest)) (sym c.new-hints.ensures.items) h,
  subst (All (λ (hint : ℕ). 0 < hint)) (sym c.new-hints.ensures.items) (λ k d l. absurd (omega arith)),
)

pub loop-place-preserved : goal.loop-place-preserved
loop-place-preserved c = (
  λ rest h.
      let clauses = c.args.solver.now.clauses in
      let trail = c.args.solver.now.trail in
      let place = c.loop-place.place in
      let hints = c.loop-place.hints.items in
      let inside : place < length trail = omega (arith, c.loop-place-test.true, c.count-count.ensures.trail) in
      let longer = hint_sets clauses trail place c.in-Some.reason rest no_lit inside (c.in-Some.ensures.explains no_lit) h in
      let hinted = subst (λ (n : ℕ). HintsConflict clauses (take place trail) (n ∷ rest)) (sym c.in_ok-number_of.ensures) longer in
      subst (λ (hs : List ℕ). HintsConflict clauses [] (hs ++ rest)) (sym c.in_ok-push.ensures.items)
      (subst (HintsConflict clauses []) (sym (append_assoc hints (c.in_ok-number_of.field-0 ∷ []) rest)) (c.loop-place.invariant.0 (c.in_ok-number_of.field-0 ∷ rest) hinted)),
  subst (All (λ (hint : ℕ). 0 < hint)) (sym c.in_ok-push.ensures.items)
      (All-push (λ (hint : ℕ). 0 < hint) c.loop-place.hints.items c.in_ok-number_of.field-0 c.loop-place.invariant.1
      (omega (arith, c.in_ok-number_of.ensures))),
)

pub returns : goal.returns
returns c =
    let clauses = c.args.solver.now.clauses in
    let trail = c.args.solver.now.trail in
    let place = c.loop-place.place in
    let past : length trail ≤ place = omega (arith, c.loop-place-test.false, c.count-count.ensures.trail) in
    let last = subst (λ (n : ℕ). HintsConflict clauses trail (n ∷ [])) (sym c.in_ok-number_of-2.ensures) (hint_conflicts clauses trail c.args.falsified c.requires.falsified) in
    let all = subst (λ (ls : List Lit). HintsConflict clauses ls (c.in_ok-number_of-2.field-0 ∷ [])) (sym (take_all place trail past)) last in
    record {
      conflict = subst (HintsConflict clauses []) (sym (c.from_vec.ensures ∙ c.in_ok-push-2.ensures.items))
          (c.loop-place.invariant.0 (c.in_ok-number_of-2.field-0 ∷ []) all);
      numbered = subst (All (λ (hint : ℕ). 0 < hint)) (sym (c.from_vec.ensures ∙ c.in_ok-push-2.ensures.items))
          (All-push (λ (hint : ℕ). 0 < hint) c.loop-place.hints.items c.in_ok-number_of-2.field-0 c.loop-place.invariant.1
          (omega (arith, c.in_ok-number_of-2.ensures)));
    }
