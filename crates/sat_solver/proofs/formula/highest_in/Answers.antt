-- The maximum so far is at least each variable before.
use Rattle.std.proofs.Common.{◌≤◌, take, arith, subst}
use Rattle.std.specs.Prelude.{All}
use Rattle.std.proofs.lemmas.List.{take_all}
use Rattle.std.proofs.lemmas.List.Elements.{All-more, All-weaker}
use Rattle.cnf_core.specs.declared.formula.Lit.{Lit}
use Rattle.cnf_core.proofs.Literals.{no_lit}
use Rattle.sat_solver.proofs.formula.highest_in.Goals as goal

pub loop-l-preserved : goal.loop-l-preserved
loop-l-preserved c =
    let lits = c.args.lits.now in
    let i = c.loop-l.l-index in
    let inv = c.loop-l.invariant in
    record {
      above = omega arith;
      lits = All-more (λ (m : Lit). m.var ≤ c.max-highest.result) lits i no_lit c.loop-l-test.true
          (All-weaker (λ (m : Lit). m.var ≤ c.loop-l.highest) (λ (m : Lit). m.var ≤ c.max-highest.result) (λ m h. omega arith) (take i lits) inv.lits)
          (omega arith);
    }

pub returns-clause-lits : goal.returns-clause-lits
returns-clause-lits c =
    subst (All (λ (m : Lit). m.var ≤ c.loop-l.highest)) (take_all c.loop-l.l-index c.args.lits.now c.loop-l-test.false) c.loop-l.invariant.lits
