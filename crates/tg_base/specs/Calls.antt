-- How calls and faults are counted in 64 bits, and which calls are to fail.
use Rattle.std.specs.Prelude.{ℕ, ◌+◌, ◌-◌, ◌^◌, ◌<◌, ◌⊎◌, List, Contains, Result, Ok, Err, min}
use Rattle.tg_base.specs.declared.desk.DeskFault.{DeskFault}
use Rattle.tg_base.specs.declared.desk.DeskFault.TheVariants.{Failed, Memory}

-- one more, up to the end of the count
abbrev pub counted : ℕ → ℕ
counted count = min (count + 1) (2 ^ 64 - 1)

-- The call of this number, the first being 1, is to fail: it is listed, or past what can be counted.
abbrev pub IsToFail : List ℕ → ℕ → Type 0
IsToFail failing number = Contains failing number ⊎ (2 ^ 64 - 1 < number)

-- the count of faults after a call: one more where it failed
abbrev pub faults_after : {T : Type 0} → Result T DeskFault → ℕ → ℕ
faults_after (Ok _) faults = faults
faults_after (Err Failed) faults = counted faults
faults_after (Err Memory) faults = faults
