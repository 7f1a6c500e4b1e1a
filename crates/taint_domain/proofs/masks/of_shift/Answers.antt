use Rattle.std.proofs.Common.{arith}
use Rattle.taint_domain.specs.Tainted.{IsClear}
use Rattle.taint_domain.proofs.MaskLemmas.{known_shift_mask, open_shift_mask}
use Rattle.taint_domain.proofs.masks.of_shift.Goals as goal

pub returns-then-is_clear-clause-mask : goal.returns-then-is_clear-clause-mask
returns-then-is_clear-clause-mask c =
    let clear : IsClear c.args.b.now = grind arith in
    known_shift_mask c.args.op c.args.a.now c.args.b.now c.apply.result.value c.requires clear (cc)

pub returns-else-is_clear-clause-mask : goal.returns-else-is_clear-clause-mask
returns-else-is_clear-clause-mask c =
    open_shift_mask c.args.op c.args.a.now c.args.b.now c.every_bit.result.value c.requires (λ clear. grind arith) c.every_bit.ensures.value
