-- What the parser does (P4-16, "Packet parsing").
use Rattle.std.specs.Prelude.{ℕ, zero, suc, map, find, Option, Some, None, slice_get}
use Rattle.p4_program.specs.declared.typed.callables.SelectCase.{SelectCase}
use Rattle.p4_program.specs.declared.typed.callables.Target.{Target}
use Rattle.p4_program.specs.declared.typed.callables.Target.TheVariants.{Accept, Reject, State}
use Rattle.p4_program.specs.Syntax.Callables.{CoreParser, CoreState, CoreTransition, To, Select}
use Rattle.p4_program.specs.Syntax.Statements.{NoStatements}
use Rattle.p4_meaning.specs.Runs.Acts.{Act, Result, Gives, Stops, Returned, Exited, Raised, gives, stops, with_lasts, no_error, no_match, ◌>>=◌, ◌>>◌}
use Rattle.p4_meaning.specs.Runs.Contents.{number_in}
use Rattle.p4_meaning.specs.Runs.Expressions.{Reach, evaluate_all, paths_in_all}
use Rattle.p4_meaning.specs.Runs.Statements.{runs_all}
use Rattle.p4_program.specs.Winners.{all_match}

-- how the parser ends: with this error, which is `NoError` where none was raised, or as it would enter one state more than
-- the bounds allow
pub data ParserEnd : Type 0 where
  Ended : (error : ℕ) → ParserEnd
  Overran : ParserEnd

-- ---- "Select expressions"

-- the first case that matches
abbrev pub leads_to : Option SelectCase → Act Target
leads_to (Some c) = gives c.target
leads_to None = stops (Raised no_match)

-- all values are evaluated before a case is tried
abbrev pub next_target : Reach → CoreTransition → Act Target
next_target Γ (To target) = gives target
next_target Γ (Select es cases) = with_lasts (paths_in_all es)
    (evaluate_all Γ es >>= λ values. leads_to (find (λ c. all_match c.keys (map number_in values)) cases))

-- ---- states

abbrev pub found_state : Option CoreState → CoreState
found_state (Some state) = state
found_state None = record { statements = NoStatements; transition = To Reject }

abbrev pub state_of : CoreParser → ℕ → CoreState
state_of q n = found_state (slice_get q.states n)

-- "Transition statements": the states `accept` and `reject` end the parser without an error, and are not entered
abbrev pub follows : (ℕ → Act ParserEnd) → Target → Act ParserEnd
follows enters Accept = gives (Ended no_error)
follows enters Reject = gives (Ended no_error)
follows enters (State n) = enters n

-- the state of this number is entered, where this many more may be
abbrev pub enters : ℕ → Reach → CoreParser → ℕ → Act ParserEnd
enters zero Γ q n = gives Overran
enters (suc steps) Γ q n =
    runs_all Γ (state_of q n).statements >> next_target Γ (state_of q n).transition
    >>= λ target. follows (λ next. enters steps Γ q next) target

-- ---- "The Parser abstract machine"

-- an error ends the parser
abbrev pub parser_end : Result ParserEnd → ParserEnd
parser_end (Gives end) = end
parser_end (Stops (Raised error)) = Ended error
parser_end (Stops Returned) = Ended no_error
parser_end (Stops Exited) = Ended no_error

-- the declarations of its variables, and then its states from `start` on, of which so many may be entered
abbrev pub parses : ℕ → Reach → CoreParser → Act ParserEnd
parses steps Γ q = runs_all Γ q.beginning >> enters steps Γ q q.start
