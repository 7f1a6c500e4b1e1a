-- Lists of a domain's values, as generic code keeps them: cells, flags, and the reads that it will ask for.
use Rattle.std.specs.Prelude.{◌≡◌, ℕ, Bool, List, Some, slice_get}
use Rattle.std.specs.List.{All, AllZip}
use Rattle.bits_core.specs.declared.points.Point.{Point}
use Rattle.value_domain.specs.Meaning.{Meaning}

-- a value of the domain that has this many bits
pub record HasWidth {Val Flag : Type 0} (m : Meaning Val Flag) (v : Val) (width : ℕ) : Type 0 where
  pub has : m.has v
  pub is_wide : m.width_of v ≡ width

-- each is a value of the domain
pub record AreCells {Val Flag : Type 0} (m : Meaning Val Flag) (cells : List Val) : Type 0 where
  pub each : All m.has cells

-- each is a value of the domain and has this width
pub record HaveWidth {Val Flag : Type 0} (m : Meaning Val Flag) (cells : List Val) (width : ℕ) : Type 0 where
  pub each : All (λ v. HasWidth m v width) cells

-- each is a value of the domain and has the width at its place
pub record HaveWidths {Val Flag : Type 0} (m : Meaning Val Flag) (cells : List Val) (widths : List ℕ) : Type 0 where
  pub each : AllZip (HasWidth m) cells widths

-- each cell stands at the point for the number at its place
pub record StandForAll {Val Flag : Type 0} (m : Meaning Val Flag) (cells : List Val) (p : Point) (numbers : List ℕ) : Type 0 where
  pub each : AllZip (λ v x. m.stands v p x) cells numbers

-- each is a flag of the domain
pub record AreFlags {Val Flag : Type 0} (m : Meaning Val Flag) (flags : List Flag) : Type 0 where
  pub each : All m.has_flag flags

-- each flag stands at the point for the truth value at its place
pub record FlagsStandForAll {Val Flag : Type 0} (m : Meaning Val Flag) (flags : List Flag) (p : Point) (truths : List Bool) : Type 0 where
  pub each : AllZip (λ f t. m.flag_stands f p t) flags truths

-- the domain offers the reads numbered from 0 on, each in the width at its place
pub record OffersAll {Val Flag : Type 0} (m : Meaning Val Flag) (widths : List ℕ) : Type 0 where
  pub each : (read width : ℕ) → slice_get widths read ≡ Some width → m.offers read width
