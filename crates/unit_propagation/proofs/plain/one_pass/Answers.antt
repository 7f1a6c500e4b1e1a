-- A clause that is falsified ends the pass, a unit makes the trail grow, and another clause goes to those that say nothing.
use Rattle.std.proofs.Common.{◌≡◌, ◌≤◌, ◌<◌, ◌+◌, ◌++◌, ◌∷◌, [], false, List, length, length-append, get_or, take, sym, ap, subst, ◌∙◌, arith}
use Rattle.std.specs.Prelude.{All, Contains}
use Rattle.std.proofs.lemmas.List.{take_more, take_all, get_or_default}
use Rattle.cnf_core.specs.declared.formula.Lit.{Lit}
use Rattle.unit_propagation.specs.Units.{IsFalse, IsUnit}
use Rattle.unit_propagation.specs.Assigned.{Assigned}
use Rattle.unit_propagation.specs.Propagated.{SaysNothing}
use Rattle.unit_propagation.specs.ClauseStates.{IsState}
use Rattle.unit_propagation.specs.declared.clause_state.ClauseState.TheVariants.{Other}
use Rattle.unit_propagation.specs.Plain.{Grew}
use Rattle.unit_propagation.proofs.PlainLemmas.{SoFar, so_far_other}
use Rattle.unit_propagation.proofs.PlainLemmas.{grew_unit}
use Rattle.unit_propagation.proofs.plain.one_pass.Goals as goal
use Rattle.unit_propagation.proofs.plain.one_pass.Goals.{in-Unit, in-Other}

pub returns-in-Falsified-clause-end : goal.returns-in-Falsified-clause-end
returns-in-Falsified-clause-end c =
    let clauses = c.args.clauses.now in
    let i = c.loop-number.number in
    let inside : i < length clauses = omega (arith, c.loop-number-test.true, c.len-number-end.ensures) in (
      i,
      get_or clauses i [],
      inside,
      get_or_default clauses i (get_or clauses i []) [] inside,
      subst (All (IsFalse c.loop-number.assignment.trail)) c.literals.ensures c.in-Falsified.ensures,
    )

pub loop-number-preserved : goal.loop-number-preserved
loop-number-preserved c =
    let clauses = c.args.clauses.now in
    let i = c.loop-number.number in
    let clause = get_or clauses i [] in
    let inside : i < length clauses = omega (arith, c.loop-number-test.true, c.len-number-end.ensures) in
    let old = c.args.assignment.now.trail in
    let trail = c.loop-number.assignment.trail in
    let inv = c.loop-number.invariant in
    let stands : Contains clauses clause = (i, inside, get_or_default clauses i clause [] inside) in
    let more : take (i + 1) clauses ≡ take i clauses ++ clause ∷ [] = take_more clauses i [] inside in
    elim c.match-of.branch [
      | in-Unit w ↦
          let l = w.in-Unit.l in
          let unit : IsUnit trail clause l = subst (λ (lits : List Lit). IsUnit trail lits l) c.literals.ensures w.in-Unit.ensures in
          let longer : length (trail ++ l ∷ []) ≡ length trail + 1 = omega (arith, length-append trail (l ∷ [])) in
          let grew : Grew clauses old (trail ++ l ∷ []) = grew_unit clauses old trail clause l inv.grew stands unit in
          let trail_is : c.match-of.assignment.trail ≡ trail ++ l ∷ [] = ap (λ (a : Assigned). a.trail) w.assignment-is ∙ w.set.ensures.trail in
          let width_is = ap (λ (a : Assigned). a.width) w.assignment-is in
          record {
            width = width_is ∙ w.set.ensures.width ∙ inv.width;
            fits = subst (λ (a : Assigned). length a.trail ≤ a.width) (sym w.assignment-is) w.set.ensures.fits;
            grows = rw trail_is (omega (arith, longer, inv.grows));
            grew = rw trail_is grew;
            so_far = rw (w.changed-is, trail_is) (omega (arith, longer, inv.grows));
          }
      | in-Other w ↦
          let says : IsState trail clause Other = subst (λ (lits : List Lit). IsState trail lits Other) c.literals.ensures w.in-Other.ensures in
          let so_far : SoFar (take (i + 1) clauses) old trail c.loop-number.changed =
          rw more (so_far_other (take i clauses) clause old trail c.loop-number.changed inv.so_far says) in
          subst (λ (a : Assigned). record {
            width : a.width ≡ c.args.assignment.now.width;
            fits : length a.trail ≤ a.width;
            grows : length old ≤ length a.trail;
            grew : Grew clauses old a.trail;
            so_far : SoFar (take (i + 1) clauses) old a.trail c.match-of.changed;
          }) (sym w.assignment-is) (record {
            width = inv.width;
            fits = inv.fits;
            grows = inv.grows;
            grew = inv.grew;
            so_far = rw w.changed-is so_far;
          })
    ]

pub returns-else-changed-clause-end : goal.returns-else-changed-clause-end
returns-else-changed-clause-end c =
    let clauses = c.args.clauses.now in
    let i = c.loop-number.number in
    let fixed : SoFar (take i clauses) c.args.assignment.now.trail c.loop-number.assignment.trail false =
    subst (SoFar (take i clauses) c.args.assignment.now.trail c.loop-number.assignment.trail) c.if-changed.false c.loop-number.invariant.so_far in
    subst (All (SaysNothing c.loop-number.assignment.trail)) (take_all i clauses (omega (arith, c.loop-number-test.false, c.len-number-end.ensures))) fixed
