-- Of three of which one is true two are, where one of the others is; of three of which one is false, where both are.
use Rattle.std.proofs.Common.{Bool, true, false, subst, sym}
use Rattle.bits_core.specs.Circuit.{carry_bit}
use Rattle.std.specs.Prelude.{IfOk}
use Rattle.bit_blaster.specs.Netlist.{GivesTwo}
use Rattle.bit_blaster.proofs.ChoiceLemmas.{majority_true, majority_false}
use Rattle.bit_blaster.proofs.GateLemmas.{ok_along}
use Rattle.bit_blaster.proofs.circuit.Circuit.majority_known.Goals as goal

pub returns-then-truth-clause-gives : goal.returns-then-truth-clause-gives
returns-then-truth-clause-gives c =
    subst (λ (t : Bool). IfOk c.or.result (GivesTwo (carry_bit t) c.args.self.now c.or.new.self c.args.a c.args.b)) (sym c.if-truth.true)
    (ok_along c.or.result _ (GivesTwo (carry_bit true) c.args.self.now c.or.new.self c.args.a c.args.b)
    (λ r. majority_true c.args.self.now c.or.new.self c.args.a c.args.b r) c.or.ensures.gives)

pub returns-else-truth-clause-gives : goal.returns-else-truth-clause-gives
returns-else-truth-clause-gives c =
    subst (λ (t : Bool). IfOk c.and.result (GivesTwo (carry_bit t) c.args.self.now c.and.new.self c.args.a c.args.b)) (sym c.if-truth.false)
    (ok_along c.and.result _ (GivesTwo (carry_bit false) c.args.self.now c.and.new.self c.args.a c.args.b)
    (λ r. majority_false c.args.self.now c.and.new.self c.args.a c.args.b r) c.and.ensures.gives)
