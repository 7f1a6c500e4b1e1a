-- What every operation of a domain keeps.
use Rattle.std.specs.Prelude.{◌≡◌, ℕ, ◌↔◌, Bool}
use Rattle.bits_core.specs.declared.points.Point.{Point}
use Rattle.value_domain.specs.Meaning.{Meaning}

-- The new state offers the reads and speaks of the points that the old one did. A value or a flag of the old one is one of
-- the new, has the width that it had, and stands for what it stood for and nothing else.
pub record Extends {Val Flag : Type 0} (old new : Meaning Val Flag) : Type 0 where
  pub reads : (read width : ℕ) → new.offers read width ↔ old.offers read width
  pub points : (p : Point) → new.speaks_of p ↔ old.speaks_of p
  pub values : (v : Val) → old.has v → new.has v
  pub widths : (v : Val) → old.has v → new.width_of v ≡ old.width_of v
  pub numbers : (v : Val) (p : Point) (x : ℕ) → old.has v → new.stands v p x ↔ old.stands v p x
  pub flags : (f : Flag) → old.has_flag f → new.has_flag f
  pub truths : (f : Flag) (p : Point) (b : Bool) → old.has_flag f → new.flag_stands f p b ↔ old.flag_stands f p b
