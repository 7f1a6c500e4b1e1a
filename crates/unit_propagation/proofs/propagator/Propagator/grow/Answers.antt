-- More variables change nothing else.
use Rattle.std.proofs.Common.{List, sym, subst, arith}
use Rattle.cnf_core.specs.declared.formula.Lit.{Lit}
use Rattle.unit_propagation.specs.Loose.{IsSettled}
use Rattle.unit_propagation.proofs.StateLemmas.{state_is, state_grows}
use Rattle.unit_propagation.proofs.propagator.Propagator.grow.Goals as goal

pub invariant_of-self : goal.invariant_of-self
invariant_of-self c =
    let inside = c.self.inside in
    record {
      width = omega (arith, c.self.invariant.width, c.in_err-grow.ensures.keeps);
      state = state_is inside.watched.clauses inside.watched.pairs inside.assignment.trail c.grow.new.self.trail inside.assignment.causes c.grow.new.self.causes inside.head inside.loose.numbers.items
          (sym c.in_err-grow.ensures.trail) (sym c.in_err-grow.ensures.causes) c.self.invariant.state;
      settled = subst (λ (t : List Lit). IsSettled inside.watched.clauses t inside.loose) (sym c.in_err-grow.ensures.trail) c.self.invariant.settled;
    }

pub invariant_of-self-2 : goal.invariant_of-self-2
invariant_of-self-2 c =
    let inside = c.self.inside in
    let most = c.grow-2.ensures.most c.grow.new.self.width (omega (arith, c.self.invariant.width, c.in_ok-grow.ensures.keeps)) c.in_ok-grow.ensures.grown in
    record {
      width = most;
      state = state_grows inside.watched.clauses c.grow-2.new.self.clauses inside.watched.pairs c.grow-2.new.self.pairs c.grow.new.self.trail c.grow.new.self.causes inside.head inside.loose.numbers.items
          (sym c.grow-2.ensures.clauses) (sym c.grow-2.ensures.pairs)
          (state_is inside.watched.clauses inside.watched.pairs inside.assignment.trail c.grow.new.self.trail inside.assignment.causes c.grow.new.self.causes inside.head inside.loose.numbers.items
          (sym c.in_ok-grow.ensures.trail) (sym c.in_ok-grow.ensures.causes) c.self.invariant.state);
      settled = subst (λ (cs : List (List Lit)). IsSettled cs c.grow.new.self.trail inside.loose) (sym c.grow-2.ensures.clauses)
          (subst (λ (t : List Lit). IsSettled inside.watched.clauses t inside.loose) (sym c.in_ok-grow.ensures.trail) c.self.invariant.settled);
    }
