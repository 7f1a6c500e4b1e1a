-- Runs of a program under its bounds on an input.
use Rattle.std.specs.Prelude.{ℕ, ◌≡◌, List, [], Option, option_map}
use Rattle.p4_program.specs.declared.bounds.Bounds.{Bounds}
use Rattle.p4_program.specs.declared.typed.input.Input.{Input}
use Rattle.p4_program.specs.Syntax.Programs.{CoreProgram}
use Rattle.p4_program.specs.declared.outcome.Outcome.{Outcome}
use Rattle.p4_program.specs.declared.outcome.Outcome.TheVariants.{Sent, Dropped, Overrun}
use Rattle.p4_meaning.specs.Runs.Acts.{Environment}
use Rattle.p4_meaning.specs.Runs.Contents.{Content}
use Rattle.p4_meaning.specs.Runs.Courses.{Read, Makes, Made, made}
use Rattle.p4_meaning.specs.Runs.Fills.{IsFilled}
use Rattle.p4_meaning.specs.Runs.Switch.{Finished, runs_switch, unspecified_metadata}

abbrev pub environment : CoreProgram → Bounds → Input → Environment
environment p b x = record { program = p; bounds = b; input = x }

-- a run that overruns counts as having begun nothing
abbrev pub marks_of : Outcome → List ℕ → List ℕ
marks_of (Sent port bytes) begun = begun
marks_of Dropped begun = begun
marks_of Overrun begun = []

-- The run from the user's metadata `start`, whose unspecified reads are these, in their order: it ends so, with the user's
-- metadata `end`, and begins these statements, in their order.
pub record RunFrom (p : CoreProgram) (b : Bounds) (x : Input) (start : Content)
    (reads : List Read) (outcome : Outcome) (marks : List ℕ) (end : Content) : Type 0 where
  pub begun : List ℕ
  pub makes : Makes (runs_switch (environment p b x) start) reads begun (record { outcome = outcome; metadata = end })
  pub marked : marks ≡ marks_of outcome begun

-- the run that makes these reads, where the user's metadata is unspecified at its start
pub record RunOf (p : CoreProgram) (b : Bounds) (x : Input) (reads : List Read) (outcome : Outcome) (marks : List ℕ) : Type 0 where
  pub end : Content
  pub run : RunFrom p b x (unspecified_metadata (environment p b x)) reads outcome marks end

-- the same as a function of the reads: the outcome and the marks, where the reads are just those
abbrev pub seen_in : Made Finished → Outcome × List ℕ
seen_in made = (made.end.outcome, marks_of made.end.outcome made.marks)

abbrev pub seen : CoreProgram → Bounds → Input → List Read → Option (Outcome × List ℕ)
seen p b x reads =
    option_map seen_in (made (runs_switch (environment p b x) (unspecified_metadata (environment p b x))) reads)

-- The program, under these bounds, may run so on this input: each unspecified read gives any of its values each time.
pub record Run (p : CoreProgram) (b : Bounds) (x : Input) (outcome : Outcome) (marks : List ℕ) : Type 0 where
  pub reads : List Read
  pub run : RunOf p b x reads outcome marks

-- the run under a fill: its reads have the values that the words of the fill give one after another
pub record RunUnder (p : CoreProgram) (b : Bounds) (x : Input) (words : ℕ → ℕ) (outcome : Outcome) (marks : List ℕ) : Type 0 where
  pub reads : List Read
  pub filled : IsFilled words 0 reads
  pub run : RunOf p b x reads outcome marks
