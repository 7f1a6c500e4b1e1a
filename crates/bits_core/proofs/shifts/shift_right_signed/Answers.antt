use Rattle.std.proofs.Common.{◌∙◌, ◌≡◌, ◌-◌, ◌/◌, ◌^◌, min, rules}
use Rattle.bits_core.proofs.SignLaws.{shr_low, shr_high}
use Rattle.bits_core.proofs.shifts.shift_right_signed.Goals as goal
use Rattle.bits_core.proofs.shifts.shift_right_signed.Goals.{then-is_negative, else-is_negative}

pub returns-clause-value : goal.returns-clause-value
returns-clause-value c =
    elim c.if-is_negative.branch [
      | then-is_negative w ↦
          let e : c.if-is_negative.value ≡ 2 ^ c.args.a.width - 1 - (2 ^ c.args.a.width - 1 - c.args.a.value) / 2 ^ min c.args.b.value c.args.a.width = cc in
          e ∙ shr_high c.args.a.width c.args.a.value (2 ^ min c.args.b.value c.args.a.width) (search rules) c.args.a.fits
      | else-is_negative w ↦
          let e : c.if-is_negative.value ≡ c.args.a.value / 2 ^ min c.args.b.value c.args.a.width = cc in
          e ∙ shr_low c.args.a.width c.args.a.value (2 ^ min c.args.b.value c.args.a.width) (search rules) c.args.a.fits
    ]
