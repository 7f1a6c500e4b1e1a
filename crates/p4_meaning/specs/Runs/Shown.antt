-- How the small programs run, in the words that their examples share.
use Rattle.std.specs.Prelude.{ℕ, List, []}
use Rattle.p4_program.specs.declared.typed.input.Input.{Input}
use Rattle.p4_program.specs.BoundedInput.{opening}
use Rattle.p4_program.specs.declared.outcome.Outcome.{Outcome}
use Rattle.p4_program.specs.declared.outcome.Outcome.TheVariants.{Sent}
use Rattle.p4_meaning.specs.Runs.Courses.{Read}
use Rattle.p4_meaning.specs.Runs.Examples.{Parts, program}
use Rattle.p4_meaning.specs.Runs.Run.{RunOf}
use Rattle.p4_meaning.specs.Runs.StatementExamples.{bounds, zero_bytes}
use Rattle.p4_meaning.specs.Runs.SwitchExamples.{bytes}

-- under the usual bounds, on this input: what was read, the outcome, and the statements that were begun
abbrev pub Shows : Parts → Input → List Read → Outcome → List ℕ → Type 0
Shows parts x reads outcome marks = RunOf (program parts) bounds x reads outcome marks

-- the opening input leaves at this port as it came
abbrev pub SendsAt : Parts → List Read → (port : ℕ) → List ℕ → Type 0
SendsAt parts reads port marks = Shows parts (opening bounds) reads (Sent port zero_bytes) marks

-- a packet of these bytes leaves at this port with those, without an unspecified read
abbrev pub Passes : Parts → (packet : List ℕ) → (port : ℕ) → (sent : List ℕ) → List ℕ → Type 0
Passes parts packet port sent marks = Shows parts (bytes packet) [] (Sent port sent) marks
