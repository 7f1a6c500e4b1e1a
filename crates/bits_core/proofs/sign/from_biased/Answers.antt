use Rattle.std.proofs.Common.{◌∙◌, ◌≡◌, ◌+◌, ◌-◌, ◌^◌, arith}
use Rattle.bits_core.proofs.SignLaws.{low_fits, wrapped_biased_low, wrapped_biased_high}
use Rattle.bits_core.proofs.sign.from_biased.Goals as goal
use Rattle.bits_core.proofs.sign.from_biased.Goals.{then-biased-half, else-biased-half}

pub overflow_add-value : goal.overflow_add-value
overflow_add-value c = record { fits = low_fits c.args.width c.args.biased c.half-half.result c.requires.some_bit c.requires.at_most_widest c.half-half.ensures c.if-biased-half.true }

pub returns-clause-value : goal.returns-clause-value
returns-clause-value c =
    elim c.if-biased-half.branch [
      | then-biased-half w ↦
          let e : c.if-biased-half.value ≡ c.args.biased + 2 ^ (c.args.width - 1) = cc in
          e ∙ wrapped_biased_low c.args.width c.args.biased c.requires.some_bit (omega arith)
      | else-biased-half w ↦
          let e : c.if-biased-half.value ≡ c.args.biased - 2 ^ (c.args.width - 1) = cc in
          e ∙ wrapped_biased_high c.args.width c.args.biased (omega arith) c.requires.fits
    ]
