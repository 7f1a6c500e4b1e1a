-- Points that are made a bit at a time.
use Rattle.std.specs.Prelude.{◌≡◌, ◌≢◌, ◌+◌, ◌-◌, ◌<◌, ◌⊎◌, ⊤, ℕ, Bool, false, List, Some, max, slice_get, slice_set}
use Rattle.bits_core.specs.declared.number.Bits.{Bits}
use Rattle.bits_core.specs.declared.number.TheConstants.{MAX_WIDTH}
use Rattle.bits_core.specs.declared.points.Point.{Point}
use Rattle.cnf_core.specs.declared.derivation.Var.{Var}
use Rattle.cnf_core.specs.declared.derivation.Var.TheVariants.{Input, Read}
use Rattle.bit_blaster.specs.Vars.{HasBit}

-- a read may have the bit
abbrev pub IsPlace : Var → Type 0
IsPlace (Input bit) = ⊤
IsPlace (Read read bit) = bit < MAX_WIDTH

-- a read of the width is there
abbrev pub HasWidth : Point → ℕ → ℕ → Type 0
HasWidth p read width = (x : Bits) × (slice_get p.reads read ≡ Some x) × (x.width ≡ width)

-- each input bit is 0
abbrev pub AreZeros : Point → Type 0
AreZeros p = (k : ℕ) (b : Bool) → slice_get p.inputs k ≡ Some b → b ≡ false

-- the point has these bits, all 0; each of its reads has one bit, or these have its highest
pub record IsBlank (IsSo : Var → Type 0) (p : Point) : Type 0 where
  pub zeros : (v : Var) → IsSo v → HasBit p v false
  pub inputs : AreZeros p
  pub tight : (read width : ℕ) → HasWidth p read width → (width ≡ 1) ⊎ IsSo (Read read (width - 1))

-- the bit is there and 0, bits that were 0 are so still, and no read is wider than the bit needs
pub record Adds (v : Var) (old new : Point) : Type 0 where
  pub there : HasBit new v false
  pub zeros : (u : Var) → HasBit old u false → HasBit new u false
  pub inputs : AreZeros new
  pub tight : (read width : ℕ) → HasWidth new read width → (width ≡ 1) ⊎ ((v ≡ Read read (width - 1)) ⊎ HasWidth old read width)

-- the old list, and behind it what is so
pub record Pads {X : Type 0} (IsSo : X → Type 0) (old new : List X) : Type 0 where
  pub kept : (k : ℕ) (y : X) → slice_get old k ≡ Some y → slice_get new k ≡ Some y
  pub added : (k : ℕ) (y : X) → slice_get new k ≡ Some y → (slice_get old k ≡ Some y) ⊎ IsSo y

-- the read is 0, and has the bit
pub record Widens (read bit : ℕ) (old new : List Bits) : Type 0 where
  pub was : Bits
  pub now : Bits
  pub there : slice_get old read ≡ Some was
  pub set : new ≡ slice_set old read now
  pub width : now.width ≡ max was.width (bit + 1)
  pub zero : now.value ≡ 0

-- the same bits are there, and reads have the same widths
pub record KeepsBits (old new : Point) : Type 0 where
  pub bits : (u : Var) (b : Bool) → HasBit old u b → (c : Bool) × HasBit new u c
  pub widths : (read width : ℕ) → HasWidth new read width → HasWidth old read width

-- the bit has this value, and every other stays
pub record Sets (v : Var) (truth : Bool) (old new : Point) : Type 0 where
  pub there : HasBit new v truth
  pub others : (u : Var) (b : Bool) → u ≢ v → HasBit old u b → HasBit new u b
  pub keeps : KeepsBits old new
