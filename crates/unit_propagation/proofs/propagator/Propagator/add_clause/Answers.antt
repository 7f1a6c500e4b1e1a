-- The new clause is watched at literals that are not falsified before a place, and propagation goes on from there.
use Rattle.std.proofs.Common.{◌≡◌, ◌∙◌, ◌++◌, ◌∷◌, [], ℕ, List, length, min, refl, ap, sym, subst, arith}
use Rattle.cnf_core.specs.declared.formula.Lit.{Lit}
use Rattle.unit_propagation.specs.declared.loose.LooseClauses.{LooseClauses}
use Rattle.unit_propagation.specs.Loose.{IsOne, NotesLoose, IsSettled}
use Rattle.unit_propagation.specs.PropagatorFields.{IsState}
use Rattle.unit_propagation.proofs.LooseLemmas.{settled_more, settled_same}
use Rattle.unit_propagation.proofs.StateLemmas.{state_is, state_grows, state_more_chosen}
use Rattle.unit_propagation.proofs.propagator.Propagator.add_clause.Goals as goal

pub invariant_of-self : goal.invariant_of-self
invariant_of-self c =
    let inside = c.self.inside in
    let items = c.in_err-reserve.ensures.items in
    record {
      width = c.self.invariant.width;
      state = subst (IsState inside.watched.clauses inside.watched.pairs inside.assignment.trail inside.assignment.causes inside.head) (sym items) c.self.invariant.state;
      settled = settled_same inside.watched.clauses inside.watched.clauses inside.assignment.trail inside.loose _ c.self.invariant.settled items refl refl refl;
    }

pub invariant_of-self-in_err-add : goal.invariant_of-self-in_err-add
invariant_of-self-in_err-add c =
    let inside = c.self.inside in
    let w = inside.watched in
    let items = c.in_ok-reserve.ensures.items in
    record {
      width = omega (arith, c.self.invariant.width, c.in_err-add.ensures.width);
      state = subst (IsState c.add.new.self.clauses c.add.new.self.pairs inside.assignment.trail inside.assignment.causes inside.head) (sym items)
          (state_grows w.clauses c.add.new.self.clauses w.pairs c.add.new.self.pairs inside.assignment.trail inside.assignment.causes inside.head inside.loose.numbers.items
          (sym c.in_err-add.ensures.kept) (sym c.in_err-add.ensures.pairs_kept) c.self.invariant.state);
      settled = settled_same w.clauses c.add.new.self.clauses inside.assignment.trail inside.loose _ c.self.invariant.settled items refl refl c.in_err-add.ensures.kept;
    }

pub invariant_of-self-2 : goal.invariant_of-self-2
invariant_of-self-2 c =
    let inside = c.self.inside in
    let w = inside.watched in
    let p = c.of-choice.result.pair in
    let loose = inside.loose.numbers.items in
    let new_loose = c.note_loose.new.loose.items in
    let new : LooseClauses = record { numbers = c.note_loose.new.loose; settled = inside.loose.settled; reach = inside.loose.reach } in
    let causes = c.forget_ends.new.self.causes in
    let one : p.first ≡ p.second → IsOne c.args.clause = λ same. subst IsOne (c.as_slice-2.ensures.value ∙ c.in_ok-clause.ensures ∙ c.as_slice.ensures) (c.of-choice.ensures.one same) in
    let number : c.clause_count-number.result ≡ length w.clauses = c.clause_count-number.ensures.is in
    let notes : NotesLoose p (length w.clauses) loose new_loose =
    subst (λ (ls : List ℕ). NotesLoose p (length w.clauses) ls new_loose) c.in_ok-reserve.ensures.items
    (subst (λ (n : ℕ). NotesLoose p n c.reserve.new.self.items new_loose) number c.note_loose.ensures) in
    let added : c.add.new.self.clauses ≡ w.clauses ++ c.args.clause ∷ [] =
    c.in_ok-add.ensures.clauses ∙ ap (λ (k : List Lit). w.clauses ++ k ∷ []) (c.as_slice-3.ensures.value ∙ c.in_ok-clause.ensures ∙ c.as_slice.ensures) in
    let head : min inside.head c.of-choice.result.place ≡ c.min-self-inside.result = sym c.min-self-inside.ensures in
    let state = subst (λ (h : ℕ). IsState (w.clauses ++ c.args.clause ∷ []) (w.pairs ++ p ∷ []) inside.assignment.trail causes h new_loose) head
    (state_more_chosen w.clauses c.args.clause w.pairs p inside.assignment.trail inside.assignment.causes causes inside.head c.of-choice.result.place loose new_loose c.self.invariant.state one notes
    c.forget_ends.ensures.reasons c.forget_ends.ensures.ends c.of-choice.ensures.free) in
    record {
      width = omega (arith, c.self.invariant.width, c.in_ok-add.ensures.width, c.forget_ends.ensures.width);
      state = state_grows (w.clauses ++ c.args.clause ∷ []) c.add.new.self.clauses (w.pairs ++ p ∷ []) c.add.new.self.pairs c.forget_ends.new.self.trail causes c.min-self-inside.result new_loose
          (sym added) (sym c.in_ok-add.ensures.pairs)
          (state_is (w.clauses ++ c.args.clause ∷ []) (w.pairs ++ p ∷ []) inside.assignment.trail c.forget_ends.new.self.trail causes causes c.min-self-inside.result new_loose
          (sym c.forget_ends.ensures.trail) refl state);
      settled = subst (λ (cs : List (List Lit)). IsSettled cs c.forget_ends.new.self.trail new) (sym added)
          (subst (λ (t : List Lit). IsSettled (w.clauses ++ c.args.clause ∷ []) t new) (sym c.forget_ends.ensures.trail)
          (settled_more w.clauses c.args.clause inside.assignment.trail p inside.loose new c.self.invariant.settled c.self.invariant.state.are_loose notes refl refl));
    }
