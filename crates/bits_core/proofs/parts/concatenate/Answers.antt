use Rattle.std.proofs.Common.{ℕ, ◌+◌, ◌<◌, ◌^◌, subst, sym}
use Rattle.bits_core.proofs.WidthLaws.{cat_below, or_of_shifted}
use Rattle.bits_core.proofs.parts.concatenate.Goals as goal

pub invariant_of-result-clause-fits : goal.invariant_of-result-clause-fits
invariant_of-result-clause-fits c =
    subst (λ (n : ℕ). n < 2 ^ (c.args.a.width + c.args.b.width))
    (sym (or_of_shifted c.args.a.value c.args.a.width c.args.b.value c.args.b.width 128 c.args.a.fits c.args.b.fits c.requires))
    (cat_below c.args.a.value c.args.a.width c.args.b.value c.args.b.width c.args.a.fits c.args.b.fits)

pub returns-clause-value : goal.returns-clause-value
returns-clause-value c =
    or_of_shifted c.args.a.value c.args.a.width c.args.b.value c.args.b.width 128 c.args.a.fits c.args.b.fits c.requires
