-- What a call of a desk answered.
use Rattle.std.specs.Prelude.{Bool, true, false, Result, Ok, Err}
use Rattle.tg_base.specs.declared.desk.DeskFault.{DeskFault}
use Rattle.tg_base.specs.declared.desk.DeskFault.TheVariants.{Failed, Memory}

-- the call answered want of memory
abbrev pub wants_memory : {T : Type 0} → Result T DeskFault → Bool
wants_memory (Ok _) = false
wants_memory (Err Failed) = false
wants_memory (Err Memory) = true
