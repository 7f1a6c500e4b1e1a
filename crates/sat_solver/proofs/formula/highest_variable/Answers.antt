-- The maximum so far is at least each variable of the clauses before.
use Rattle.std.proofs.Common.{◌≤◌, ℕ, take, arith, subst}
use Rattle.std.specs.Prelude.{All}
use Rattle.std.proofs.lemmas.List.{take_all}
use Rattle.std.proofs.lemmas.List.Elements.{All-more, All-weaker}
use Rattle.cnf_core.specs.declared.formula.Lit.{Lit}
use Rattle.sat_solver.proofs.formula.highest_variable.Goals as goal

pub loop-clause-preserved : goal.loop-clause-preserved
loop-clause-preserved c =
    let clauses = c.args.clauses.now in
    let i = c.loop-clause.clause-index in
    let inv = c.loop-clause.invariant in
    let higher = c.highest_in-highest.result in
    let below = λ (n : ℕ) (m : Lit). m.var ≤ n in
    record {
      inputs = omega arith;
      clauses = All-more (All (below higher)) clauses i c.clause-item.result c.loop-clause-test.true
          (All-weaker (All (below c.loop-clause.highest)) (All (below higher))
          (λ lits h. All-weaker (below c.loop-clause.highest) (below higher) (λ m k. omega arith) lits h) (take i clauses) inv.clauses)
          (subst (All (below higher)) c.clause-item.is (subst (All (below higher)) c.as_slice.ensures c.highest_in-highest.ensures.lits));
    }

pub returns-clause-clauses : goal.returns-clause-clauses
returns-clause-clauses c =
    subst (All (All (λ (m : Lit). m.var ≤ c.loop-clause.highest))) (take_all c.loop-clause.clause-index c.args.clauses.now c.loop-clause-test.false) c.loop-clause.invariant.clauses
