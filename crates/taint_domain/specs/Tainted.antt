-- What a value with masked bits may be, and what it stands for at a point.
use Rattle.std.specs.Prelude.{◌≡◌, ℕ, ◌%◌, ◌^◌, ◌<◌}
use Rattle.std.specs.Int.{bit_at}
use Rattle.std.specs.List.{All}
use Rattle.bits_core.specs.declared.number.Bits.{Bits}
use Rattle.bits_core.specs.declared.points.Point.{Point}
use Rattle.taint_domain.specs.declared.tainted.Tainted.{Tainted}

-- where the mask has no bit, the two numbers have the same
pub record IsSameOutside (mask n x : ℕ) : Type 0 where
  pub bits : (place : ℕ) → bit_at mask place ≡ 0 → bit_at x place ≡ bit_at n place

-- a number of the value's width, and the value's own outside its masked bits
pub record MayBe (v : Tainted) (x : ℕ) : Type 0 where
  pub fits : x < 2 ^ v.number.width
  pub outside : IsSameOutside v.mask.value v.number.value x

-- each unspecified read gives 0
abbrev pub ReadsAreZero : Point → Type 0
ReadsAreZero p = All (λ (b : Bits). b.value ≡ 0) p.reads

-- a number that the value may be, and where all reads give 0 its own number
pub record StandsFor (v : Tainted) (p : Point) (x : ℕ) : Type 0 where
  pub may : MayBe v x
  pub zeros : ReadsAreZero p → x ≡ v.number.value

-- no bit is masked
abbrev pub IsClear : Tainted → Type 0
IsClear v = v.mask.value ≡ 0

-- all numbers that the value may be have the same bits below the place
abbrev pub IsSettledBelow : Tainted → ℕ → Type 0
IsSettledBelow v place = (x : ℕ) → MayBe v x → x % 2 ^ place ≡ v.number.value % 2 ^ place

-- none of the numbers that the value may be has a bit below the place
abbrev pub IsZeroBelow : Tainted → ℕ → Type 0
IsZeroBelow v place = (x : ℕ) → MayBe v x → x % 2 ^ place ≡ 0
