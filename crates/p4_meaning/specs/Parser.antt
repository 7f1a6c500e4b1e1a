-- Runs of the parser (P4-16, "Packet parsing").
use Rattle.std.specs.Prelude.{◌≡◌, ◌⊎◌, ℕ, List, []}
use Prim.Native.Nat.{zero, suc}
use Rattle.p4_program.specs.Blocks.{statements_of_start}
use Rattle.p4_meaning.specs.Execution.{Part, Next, Raised}
use Rattle.p4_meaning.specs.Reads.{Read}
use Rattle.p4_meaning.specs.Statements.{ExecAll}
use Rattle.p4_meaning.specs.Store.{Environment, Store}
use Rattle.p4_meaning.specs.V1modelMetadata.{no_error}

-- how the parser ends: with this error, which is `NoError` where none was raised, or as it would enter one state more than
-- the bounds allow
pub data ParserEnd : Type 0 where
  Ended : (error : ℕ) → ParserEnd
  Overran : ParserEnd

-- a state whose statements run to their end, and which then accepts ("Transition statements")
pub record Accepts (Body : Part) (old new : Store) (reads : List Read) (marks : List ℕ) (end : ParserEnd) : Type 0 where
  pub body : Body old new reads marks Next
  pub ended : end ≡ Ended no_error

-- a state one of whose statements raises an error ("The Parser abstract machine")
pub record Fails (Body : Part) (old new : Store) (reads : List Read) (marks : List ℕ) (end : ParserEnd) : Type 0 where
  pub error : ℕ
  pub body : Body old new reads marks (Raised error)
  pub ended : end ≡ Ended error

-- no more states may be entered
pub record Overruns (old new : Store) (reads : List Read) (marks : List ℕ) (end : ParserEnd) : Type 0 where
  pub store : new ≡ old
  pub no_read : reads ≡ []
  pub no_mark : marks ≡ []
  pub ended : end ≡ Overran

-- The parser from its state `start`, where this many states may be entered. So far it has no other state.
abbrev pub ParsesWithin : ℕ → Environment → Store → Store → List Read → List ℕ → ParserEnd → Type 0
ParsesWithin zero env old new reads marks end = Overruns old new reads marks end
ParsesWithin (suc steps) env old new reads marks end =
    Accepts (ExecAll env (statements_of_start env.program)) old new reads marks end
    ⊎ Fails (ExecAll env (statements_of_start env.program)) old new reads marks end

-- the parser, within the bounds
abbrev pub Parses : Environment → Store → Store → List Read → List ℕ → ParserEnd → Type 0
Parses env = ParsesWithin env.bounds.steps env
