-- The bounds of a job.
use Rattle.std.specs.Prelude.{◌≡◌}
use Rattle.p4_program.specs.declared.bounds.Bounds.{Bounds}

-- the bounds where no option stands
pub record IsDefault (b : Bounds) : Type 0 where
  pub bytes : b.bytes ≡ 128
  pub steps : b.steps ≡ 12
  pub entries : b.entries ≡ 1
  pub budget : b.budget ≡ 2000
