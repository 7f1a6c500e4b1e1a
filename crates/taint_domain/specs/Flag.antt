-- What a flag may be, and what it stands for at a point.
use Rattle.std.specs.Prelude.{◌≡◌, Bool, false}
use Rattle.bits_core.specs.declared.points.Point.{Point}
use Rattle.taint_domain.specs.declared.flag.TaintFlag.{TaintFlag}
use Rattle.taint_domain.specs.Tainted.{ReadsAreZero}

-- either truth value, but where the flag is known its own alone
pub record FlagMayBe (f : TaintFlag) (t : Bool) : Type 0 where
  pub known : f.may_differ ≡ false → t ≡ f.truth

-- a truth value that the flag may be, and where all reads give 0 its own
pub record FlagStandsFor (f : TaintFlag) (p : Point) (t : Bool) : Type 0 where
  pub may : FlagMayBe f t
  pub zeros : ReadsAreZero p → t ≡ f.truth
