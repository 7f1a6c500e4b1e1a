-- A literal that is false, true, open for the first time, open again, or another open one.
use Rattle.std.proofs.Common.{[], ◌∷◌, sym, ◌∙◌}
use Rattle.cnf_core.proofs.Literals.{lit_eq-true, lit_eq-false}
use Rattle.unit_propagation.proofs.ClauseStateLemmas.{says_false, says_true, says_first, says_again, says_two, nothing_more}
use Rattle.unit_propagation.proofs.clause_state.ClauseState.with.Goals as goal

pub returns-in-False : goal.returns-in-False
returns-in-False c = says_false c.args.assignment.now.trail c.args.l c.args.self c.in-False.ensures.0

pub returns-in-True : goal.returns-in-True
returns-in-True c = says_true c.args.assignment.now.trail c.args.l c.args.self c.in-True.ensures

pub returns-in-Falsified : goal.returns-in-Falsified
returns-in-Falsified c = rw c.in-Falsified.is (says_first c.args.assignment.now.trail c.args.l c.in-Open.ensures)

pub returns-then-eq : goal.returns-then-eq
returns-then-eq c =
    let same = lit_eq-true c.in-Unit.k c.args.l (sym c.eq.ensures ∙ c.if-eq.true) in
    rw (c.in-Unit.is, same) (says_again c.args.assignment.now.trail c.args.l)

pub returns-else-eq : goal.returns-else-eq
returns-else-eq c =
    let differs = lit_eq-false c.in-Unit.k c.args.l (sym c.eq.ensures ∙ c.if-eq.false) in
    rw c.in-Unit.is (says_two c.args.assignment.now.trail c.in-Unit.k c.args.l c.in-Open.ensures differs)

pub returns-in-Other : goal.returns-in-Other
returns-in-Other c = rw c.in-Other.is (λ lits. nothing_more c.args.assignment.now.trail lits (c.args.l ∷ []))
