-- What one state of a domain speaks of and offers, and what its values and flags stand for.
use Rattle.std.specs.Prelude.{ℕ, Bool}
use Rattle.bits_core.specs.declared.points.Point.{Point}

pub record Meaning (Val Flag : Type 0) : Type 1 where
  -- the numbered reads that may be asked for, each with its width
  pub offers : ℕ → ℕ → Type 0
  -- the points of which the laws speak
  pub speaks_of : Point → Type 0
  -- the values of this domain, how many bits each has, and the numbers that it stands for at a point
  pub has : Val → Type 0
  pub width_of : Val → ℕ
  pub stands : Val → Point → ℕ → Type 0
  -- the flags of this domain, and the truth values that each stands for at a point
  pub has_flag : Flag → Type 0
  pub flag_stands : Flag → Point → Bool → Type 0
