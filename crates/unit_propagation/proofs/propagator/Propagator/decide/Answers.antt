-- Where the head is at the end of the trail propagation had ended there.
use Rattle.std.proofs.Common.{◌≡◌, ◌++◌, ◌∷◌, [], List, refl, ap, sym, ◌∙◌, subst, arith}
use Rattle.std.proofs.lemmas.Bool.{eqb-true}
use Rattle.std.proofs.lemmas.List.{length-map, map-append}
use Rattle.cnf_core.specs.declared.formula.Lit.{Lit}
use Rattle.unit_propagation.specs.declared.assignment.Cause.{Cause}
use Rattle.unit_propagation.specs.Trail.{decided, reasons_of}
use Rattle.unit_propagation.specs.Propagation.{Propagation, decisions}
use Rattle.unit_propagation.proofs.StateLemmas.{state_decides, state_is}
use Rattle.unit_propagation.specs.Loose.{IsSettled}
use Rattle.unit_propagation.proofs.LooseLemmas.{settled_grows}
use Rattle.unit_propagation.proofs.TrailLemmas.{decided_push}
use Rattle.unit_propagation.proofs.propagator.Propagator.decide.Goals as goal

pub invariant_of-self : goal.invariant_of-self
invariant_of-self c =
    let inside = c.self.inside in
    record {
      width = omega (arith, c.self.invariant.width, c.set.ensures.width);
      state = state_is inside.watched.clauses inside.watched.pairs (inside.assignment.trail ++ c.args.l ∷ []) c.set.new.self.trail (inside.assignment.causes ++ _ ∷ []) c.set.new.self.causes inside.head inside.loose.numbers.items
          (sym c.set.ensures.trail) (sym c.set.ensures.causes)
          (state_decides inside.watched.clauses inside.watched.pairs inside.assignment.trail inside.assignment.causes inside.head inside.loose.numbers.items c.args.l _ c.self.invariant.state refl
          (λ e. eqb-true inside.head c.count.result e ∙ c.count.ensures.count));
      settled = subst (λ (t : List Lit). IsSettled inside.watched.clauses t inside.loose) (sym c.set.ensures.trail) (settled_grows inside.watched.clauses inside.assignment.trail (c.args.l ∷ []) inside.loose c.self.invariant.settled);
    }

pub returns-clause-decisions : goal.returns-clause-decisions
returns-clause-decisions c =
    let old = c.self.inside.assignment in
    let new = c.set.new.self in
    let reason = λ (k : Cause). k.reason in
    subst (λ (p : Propagation). decided new.trail (reasons_of new.causes) ≡ decisions p ++ c.args.l ∷ []) c.self.view_is
    (ap (λ (t : List Lit). decided t (reasons_of new.causes)) c.set.ensures.trail
    ∙ ap (λ (cs : List Cause). decided (old.trail ++ c.args.l ∷ []) (reasons_of cs)) c.set.ensures.causes
    ∙ ap (decided (old.trail ++ c.args.l ∷ [])) (map-append reason old.causes (_ ∷ []))
    ∙ decided_push old.trail (reasons_of old.causes) c.args.l (length-map old.causes reason ∙ c.self.invariant.state.sized))
