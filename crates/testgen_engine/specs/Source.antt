-- Reading a source: which name was asked for, and what was moved out of its file.
use Rattle.std.specs.Prelude.{◌≡◌, ℕ, ◌≤◌, ◌⊎◌, Bool, true, false, IsTrue, List, [], ◌∷◌, ◌++◌, length}
use Rattle.tg_base.specs.declared.desk.DeskFault.{DeskFault}
use Rattle.tg_base.specs.declared.desk.DeskFault.TheVariants.{Failed, Memory}
use Rattle.tg_base.specs.Moment.{Moment}
use Rattle.testgen_engine.specs.declared.source.TheConstants.{MOST_BYTES}

-- The name was asked for and its file opened, no other, and these bytes were moved out of it. Where its end was met,
-- the desk is no longer readable.
pub record HasRead (before after : Moment) (name moved : List ℕ) (ended : Bool) : Type 0 where
  pub asked : after.asked ≡ before.asked ++ name ∷ []
  pub opened : after.opened ≡ before.opened ++ record { name = name; moved = moved; ended = ended } ∷ []
  pub few : length moved ≤ MOST_BYTES
  pub met : IsTrue ended → after.readable ≡ false

-- the file of this name was read to its end, or as far as bytes are taken of a source
pub record ReadsSource (before after : Moment) (name bytes : List ℕ) : Type 0 where
  pub ended : Bool
  pub read : HasRead before after name bytes ended
  pub whole : (ended ≡ true) ⊎ (length bytes ≡ MOST_BYTES)

-- the name was asked for, no other, and nothing was opened
pub record OpensNothing (before after : Moment) (name : List ℕ) : Type 0 where
  pub asked : after.asked ≡ before.asked ++ name ∷ []
  pub opened : after.opened ≡ before.opened

-- the name was asked for, no other, and its file did not open or its end was not met
abbrev pub FailsReading : Moment → Moment → List ℕ → Type 0
FailsReading before after name = OpensNothing before after name ⊎ ((moved : List ℕ) × HasRead before after name moved false)

-- nothing was asked for and nothing opened
pub record AsksNoName (before after : Moment) : Type 0 where
  pub asked : after.asked ≡ before.asked
  pub opened : after.opened ≡ before.opened

-- no name but this one was asked for, at most once, and no other file opened
abbrev pub ReadsOnly : Moment → Moment → List ℕ → Type 0
ReadsOnly before after name = AsksNoName before after
    ⊎ (OpensNothing before after name ⊎ ((moved : List ℕ) × (ended : Bool) × HasRead before after name moved ended))

-- what a reading that stopped at a fault has done
abbrev pub StopsReading : Moment → Moment → List ℕ → DeskFault → Type 0
StopsReading before after name Failed = FailsReading before after name
StopsReading before after name Memory = ReadsOnly before after name
