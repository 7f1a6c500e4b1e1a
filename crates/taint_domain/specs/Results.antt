-- What the results of operations may be, as sets, and the bits in which the members of a set can differ from a number.
use Rattle.std.specs.Prelude.{◌≡◌, ◌≢◌, ℕ, Bool, if◌then◌else◌}
use Rattle.std.specs.Int.{bit_at}
use Rattle.bits_core.specs.declared.operator.Op.{Op}
use Rattle.bits_core.specs.Operator.{operator_value, test_value}
use Rattle.taint_domain.specs.declared.flag.TaintFlag.{TaintFlag}
use Rattle.taint_domain.specs.declared.tainted.Tainted.{Tainted}
use Rattle.taint_domain.specs.Flag.{FlagMayBe}
use Rattle.taint_domain.specs.Tainted.{MayBe}

-- what the operator gives of numbers that its operands may be
pub record ResultOf (op : Op) (a b : Tainted) (z : ℕ) : Type 0 where
  pub x : ℕ
  pub y : ℕ
  pub first : MayBe a x
  pub second : MayBe b y
  pub is : z ≡ operator_value op a.number.width x b.number.width y

-- what a function gives of a number that the value may be
pub record ImageOf (f : ℕ → ℕ) (v : Tainted) (z : ℕ) : Type 0 where
  pub x : ℕ
  pub may : MayBe v x
  pub is : z ≡ f x

-- a number that the side may be which the flag may name
pub record ChoiceOf (f : TaintFlag) (a b : Tainted) (z : ℕ) : Type 0 where
  pub t : Bool
  pub x : ℕ
  pub y : ℕ
  pub flag : FlagMayBe f t
  pub first : MayBe a x
  pub second : MayBe b y
  pub is : z ≡ (if t then x else y)

-- how the test may come out
pub record TestOf (op : Op) (a b : Tainted) (u : Bool) : Type 0 where
  pub x : ℕ
  pub y : ℕ
  pub first : MayBe a x
  pub second : MayBe b y
  pub is : u ≡ test_value op a.number.width x y

-- how a combination of two flags may come out
pub record CombinationOf (combine : Bool → Bool → Bool) (f g : TaintFlag) (u : Bool) : Type 0 where
  pub s : Bool
  pub t : Bool
  pub first : FlagMayBe f s
  pub second : FlagMayBe g t
  pub is : u ≡ combine s t

-- some member of the set has another bit at the place than the number n
pub record CanDiffer (set : ℕ → Type 0) (n place : ℕ) : Type 0 where
  pub z : ℕ
  pub of : set z
  pub differs : bit_at z place ≢ bit_at n place

-- the mask has each bit that can differ
pub record MasksAll (set : ℕ → Type 0) (n mask : ℕ) : Type 0 where
  pub bits : (place : ℕ) → CanDiffer set n place → bit_at mask place ≡ 1

-- and it has no other
pub record MasksOnly (set : ℕ → Type 0) (n mask : ℕ) : Type 0 where
  pub bits : (place : ℕ) → bit_at mask place ≡ 1 → CanDiffer set n place
