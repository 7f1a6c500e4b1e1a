use Rattle.std.proofs.Common.{◌≡◌, subst}
use Rattle.std.specs.Prelude.{IfOk, OnOk, option_map}
use Rattle.p4_consts.specs.Noted.{noted, right_of}
use Rattle.p4_consts.specs.Operands.{operand_of}
use Rattle.p4_consts.specs.Pairs.{pair_of}
use Rattle.p4_consts.specs.Scopes.{scope_in}
use Rattle.p4_consts.proofs.ShiftLaws.{value_shifted}
use Rattle.p4_consts.proofs.shifts.shift_of.Goals as goal

pub returns-in_default : goal.returns-in_default
returns-in_default c =
    let value = value_shifted (scope_in c.args.pass c.args.scope.now) c.args.goes_on c.args.sign c.args.pair.left.operand
    (operand_of c.args.pair.right.operand) (pair_of c.args.pair) c.in_default.not-Whole in
    record {
      value = subst (λ q. IfOk c.sized_shift.result (λ o. option_map operand_of o ≡ right_of q)) value (c.sized_shift.ensures.value c.args.pass);
      faults = subst (λ q. OnOk c.sized_shift.result (c.sized_shift.new.faults.first ≡ noted c.args.faults.now.first q)) value
          (c.sized_shift.ensures.faults c.args.pass);
    }
