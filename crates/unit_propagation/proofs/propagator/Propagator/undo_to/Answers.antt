-- The head goes back to where propagation had ended.
use Rattle.std.proofs.Common.{ℕ, List, Vec, Global, take, subst, ap, sym, ◌∙◌, arith}
use Rattle.std.proofs.lemmas.List.{take-map}
use Rattle.unit_propagation.specs.declared.assignment.Cause.{Cause}
use Rattle.cnf_core.specs.declared.formula.Lit.{Lit}
use Rattle.unit_propagation.specs.Loose.{IsSettled}
use Rattle.unit_propagation.specs.PropagatorFields.{IsState}
use Rattle.unit_propagation.specs.Trail.{reasons_of}
use Rattle.unit_propagation.specs.Propagation.{Propagation, undone}
use Rattle.unit_propagation.proofs.StateLemmas.{state_is, state_undone, same_seen}
use Rattle.unit_propagation.proofs.propagator.Propagator.undo_to.Goals as goal

pub invariant_of-self : goal.invariant_of-self
invariant_of-self c =
    let inside = c.self.inside in
    record {
      width = omega (arith, c.self.invariant.width, c.undo_to-then-place-count.ensures.width);
      state = subst (λ (v : Vec ℕ Global). IsState inside.watched.clauses inside.watched.pairs c.undo_to-then-place-count.new.self.trail c.undo_to-then-place-count.new.self.causes c.last_end-self-inside.result v.items) (sym c.undo_to.ensures.numbers) (state_is inside.watched.clauses inside.watched.pairs (take c.args.place inside.assignment.trail) c.undo_to-then-place-count.new.self.trail (take c.args.place inside.assignment.causes) c.undo_to-then-place-count.new.self.causes
          c.last_end-self-inside.result inside.loose.numbers.items (sym c.undo_to-then-place-count.ensures.trail) (sym c.undo_to-then-place-count.ensures.causes)
          (state_undone inside.watched.clauses inside.watched.pairs inside.assignment.trail inside.assignment.causes inside.head c.args.place c.last_end-self-inside.result inside.loose.numbers.items c.self.invariant.state
          (omega (arith, c.if-place-count.true, c.count.ensures.count)) c.last_end-self-inside.ensures));
      settled = subst (λ (t : List Lit). IsSettled inside.watched.clauses t c.undo_to.new.self) (sym c.undo_to-then-place-count.ensures.trail) (c.undo_to.ensures.settled inside.watched.clauses inside.assignment.trail c.self.invariant.settled);
    }

pub returns-then-place-count : goal.returns-then-place-count
returns-then-place-count c =
    let inside = c.self.inside in
    let place = c.args.place in
    same_seen inside.watched.width inside.watched.clauses c.undo_to-then-place-count.new.self.trail (take place inside.assignment.trail) (reasons_of c.undo_to-then-place-count.new.self.causes) (take place (reasons_of inside.assignment.causes))
    c.undo_to-then-place-count.ensures.trail (ap reasons_of c.undo_to-then-place-count.ensures.causes ∙ sym (take-map (λ (k : Cause). k.reason) place inside.assignment.causes))
    ∙ ap (λ (p : Propagation). undone p place) c.self.view_is
