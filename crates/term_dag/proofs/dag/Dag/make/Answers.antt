-- A node on constants is made as the constant that it gives.
use Rattle.std.proofs.Common.{subst}
use Rattle.term_dag.specs.Width.{IsDag}
use Rattle.term_dag.proofs.InsertLemmas.{kept_older}
use Rattle.term_dag.proofs.FoldingLemmas.{ok_along}
use Rattle.term_dag.proofs.dag.Dag.make.Goals as goal

pub returns-in-Some-constant_result-clause-constant :
    goal.returns-in-Some-constant_result-clause-constant
returns-in-Some-constant_result-clause-constant c =
    ok_along c.number.result _ _ (λ t at operands. record { x = c.in-Some-constant_result.bits; is = at }) c.number.ensures.at

pub returns-in-Some-constant_result-clause-node : goal.returns-in-Some-constant_result-clause-node
returns-in-Some-constant_result-clause-node c =
    ok_along c.number.result _ _ (λ t at condition operands. absurd (operands c.in-Some-constant_result.ensures.some)) c.number.ensures.at

pub returns-in-Some-constant_result-clause-older : goal.returns-in-Some-constant_result-clause-older
returns-in-Some-constant_result-clause-older c =
    kept_older c.args.self.now c.number.new.self (subst IsDag c.self.view_is c.self.invariant) c.number.ensures.keeps

pub returns-in-None-clause-older : goal.returns-in-None-clause-older
returns-in-None-clause-older c =
    kept_older c.args.self.now c.number-in-None.new.self (subst IsDag c.self.view_is c.self.invariant) c.number-in-None.ensures.keeps
