use Rattle.std.proofs.Common.{ℕ, ◌<◌, ◌^◌, subst, sym}
use Rattle.std.proofs.lemmas.Nat.{or_lt}
use Rattle.bits_core.proofs.bitwise.or.Goals as goal

pub invariant_of-result-clause-fits : goal.invariant_of-result-clause-fits
invariant_of-result-clause-fits c =
    let fits : c.args.b.value < 2 ^ c.args.a.width = subst (λ (w : ℕ). c.args.b.value < 2 ^ w) (sym c.requires) c.args.b.fits in
    or_lt c.args.a.width c.args.a.value c.args.b.value c.args.a.fits fits
