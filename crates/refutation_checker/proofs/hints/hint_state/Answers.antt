-- The clause of the number, where there is one, says what it says.
use Rattle.std.proofs.Common.{◌≡◌, ◌-◌, ℕ, List, [], get_or, arith, sym, subst}
use Rattle.std.specs.Prelude.{Some, slice_get}
use Rattle.std.proofs.lemmas.Option.{slice_get-get_or}
use Rattle.std.proofs.lemmas.List.Elements.{All-get_or}
use Rattle.cnf_core.specs.declared.formula.Lit.{Lit}
use Rattle.unit_propagation.specs.Units.{IsWithin}
use Rattle.refutation_checker.specs.Hints.{IsNumbered}
use Rattle.unit_propagation.specs.ClauseStates.{IsState}
use Rattle.refutation_checker.proofs.HintsLemmas.{hint-there, no_number}
use Rattle.refutation_checker.proofs.hints.hint_state.Goals as goal

pub of-requires : goal.of-requires
of-requires c =
    let clauses = c.args.root.now.clauses in
    subst (IsWithin c.args.assignment.now.width) (sym c.literals.ensures.are)
    (All-get_or (IsWithin c.args.assignment.now.width) clauses c.in-Some.index [] (omega (arith, c.if-index-clause_count.true, c.clause_count.ensures)) c.requires)

pub returns-then-index-clause_count : goal.returns-then-index-clause_count
returns-then-index-clause_count c =
    let clauses = c.args.root.now.clauses in
    let clause = get_or clauses c.in-Some.index [] in
    let place = c.in-Some.ensures.1 in
    let at : slice_get clauses c.in-Some.index ≡ Some clause = slice_get-get_or clauses c.in-Some.index [] (omega (arith, c.if-index-clause_count.true, c.clause_count.ensures)) in
    let there : IsNumbered clauses c.args.number clause =
    (c.in-Some.ensures.0, subst (λ (i : ℕ). slice_get clauses i ≡ Some clause) place at) in
    let says = subst (λ (lits : List Lit). IsState c.args.assignment.now.trail lits c.of.result) c.literals.ensures.are c.of.ensures in
    hint-there clauses c.args.assignment.now.trail c.args.number clause c.of.result there says

pub returns-else-index-clause_count : goal.returns-else-index-clause_count
returns-else-index-clause_count c =
    let clauses = c.args.root.now.clauses in
    let place = c.in-Some.ensures.1 in
    λ clause there. absurd (no_number clauses (c.args.number - 1) clause (omega (arith, c.if-index-clause_count.false, c.clause_count.ensures)) there.1)
