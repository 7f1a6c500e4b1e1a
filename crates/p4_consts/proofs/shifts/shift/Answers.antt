use Rattle.std.proofs.Common.{◌≡◌, subst}
use Rattle.std.specs.Prelude.{IfOk, OnOk, option_map}
use Rattle.p4_consts.specs.Noted.{noted, right_of}
use Rattle.p4_consts.specs.Operands.{operand_of}
use Rattle.p4_consts.specs.Pairs.{pair_of}
use Rattle.p4_consts.specs.Scopes.{scope_in}
use Rattle.p4_consts.proofs.ShiftLaws.{bits_shifted}
use Rattle.p4_consts.proofs.shifts.shift.Goals as goal

pub returns-clause-value : goal.returns-clause-value
returns-clause-value c =
    subst (λ q. IfOk c.shift_of.result (λ o. option_map operand_of o ≡ right_of q))
    (bits_shifted (scope_in c.args.pass c.args.scope.now) c.args.goes_on c.args.sign (pair_of c.args.pair) (pair_of c.in_ok-bits.bits)
    (c.in_ok-bits.ensures (scope_in c.args.pass c.args.scope.now)))
    c.shift_of.ensures.value

pub returns-clause-faults : goal.returns-clause-faults
returns-clause-faults c =
    subst (λ q. OnOk c.shift_of.result (c.shift_of.new.faults.first ≡ noted c.args.faults.now.first q))
    (bits_shifted (scope_in c.args.pass c.args.scope.now) c.args.goes_on c.args.sign (pair_of c.args.pair) (pair_of c.in_ok-bits.bits)
    (c.in_ok-bits.ensures (scope_in c.args.pass c.args.scope.now)))
    c.shift_of.ensures.faults
