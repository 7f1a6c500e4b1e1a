-- Counts of faults, kept in 64 bits.
use Rattle.std.specs.Prelude.{◌≡◌, ◌≢◌, ℕ, ◌+◌, ◌-◌, ◌^◌, ◌≤◌, min, Result, Err, IsErrOf}
use Rattle.tg_base.specs.declared.desk.DeskFault.{DeskFault}
use Rattle.tg_base.specs.declared.desk.DeskFault.TheVariants.{Failed}

-- A count rose between two moments. One that stands at its end cannot rise further, and counts as one that rose.
abbrev pub Rose : ℕ → ℕ → Type 0
Rose before now = min (before + 1) (2 ^ 64 - 1) ≤ now

-- A count of faults over one call: it never falls, it rose where the call answered that it failed, and it stays
-- where the call answered anything else.
pub record HasCause {T : Type 0} (before now : ℕ) (result : Result T DeskFault) : Type 0 where
  pub later : before ≤ now
  pub failed : IsErrOf result Failed → Rose before now
  pub else_stays : result ≢ Err Failed → now ≡ before
