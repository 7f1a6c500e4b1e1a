-- What the runs of a built program come to: a plain function of the statements of its ingress.
use Rattle.std.specs.Prelude.{◌≡◌, ◌≢◌, ℕ, ◌==◌, List, map, Some, slice_get, All, ⊤, if◌then◌else◌}
use Rattle.std.specs.Option.{option_map_or}
use Rattle.p4_program.specs.declared.outcome.Outcome.{Outcome}
use Rattle.p4_program.specs.declared.outcome.Outcome.TheVariants.{Sent, Dropped}
use Rattle.p4_program.specs.declared.typed.input.Input.{Input}
use Rattle.p4_program.specs.declared.v1model.TheConstants.{DROP_PORT}
use Rattle.p4_program.specs.Syntax.Expressions.{Constant}
use Rattle.p4_program.specs.Syntax.Numbering.{statements_numbered}
use Rattle.p4_program.specs.Syntax.Programs.{CoreProgram}
use Rattle.p4_program.specs.Syntax.Statements.{CoreWork, CoreStatement, CoreStatements, Assign, MarkToDrop, Numbered, NoStatements, Then}
use Rattle.p4_program.specs.WellFormed.Programs.{control_here}
use Rattle.p4_meaning.specs.declared.test.Expected.{Expected}
use Rattle.p4_meaning.specs.declared.test.Expected.TheVariants as expected
use Rattle.p4_meaning.specs.declared.test.Nibble.{Nibble}
use Rattle.p4_meaning.specs.declared.test.Nibble.TheVariants.{Fixed, Masked, Undecided}
use Rattle.p4_meaning.specs.Expected.{digits_of}

-- ---- the port

-- what `egress_spec` holds after a statement, by what it held before
abbrev pub egress_by : ℕ → CoreWork → ℕ
egress_by old (Assign path (Constant scalar value)) = value
egress_by old (MarkToDrop path) = DROP_PORT
egress_by old _ = old

abbrev pub egress_behind : ℕ → CoreStatement → ℕ
egress_behind old (Numbered number place work) = egress_by old work
egress_behind old _ = old

-- what it holds after statements
abbrev pub egress_after : ℕ → CoreStatements → ℕ
egress_after old NoStatements = old
egress_after old (Then statement rest) = egress_after (egress_behind old statement) rest

abbrev pub ingress_statements : CoreProgram → CoreStatements
ingress_statements p = option_map_or (λ c. c.body) (control_here p p.blocks.ingress) NoStatements

-- what ingress leaves in `egress_spec`, which begins at 0
abbrev pub port_of : CoreProgram → ℕ
port_of p = egress_after 0 (ingress_statements p)

-- ---- the run

-- the packet leaves at the port as it came in, or is dropped at the drop port
abbrev pub outcome_at : ℕ → List ℕ → Outcome
outcome_at port packet = if port == DROP_PORT then Dropped else Sent port packet

abbrev pub numbers_of : CoreProgram → List ℕ
numbers_of p = map (λ s. s.number) (statements_numbered p)

-- the one run of an input: its outcome, and each statement begun, in order
pub record ComesTo (p : CoreProgram) (x : Input) (outcome : Outcome) (marks : List ℕ) : Type 0 where
  pub ends : outcome ≡ outcome_at (port_of p) x.packet
  pub all_begun : marks ≡ numbers_of p

-- ---- tests

-- what is expected where ingress leaves this port: the packet as it came in, or none
abbrev pub expected_at : ℕ → List ℕ → Expected
expected_at port packet = if port == DROP_PORT then expected.Drop else expected.Packet port (map Fixed (digits_of packet))

abbrev pub IsFixed : Nibble → Type 0
IsFixed (Fixed digit) = ⊤
IsFixed Masked = ⊥
IsFixed Undecided = ⊥

-- each nibble has a digit
abbrev pub FixesAll : Expected → Type 0
FixesAll expected.Drop = ⊤
FixesAll (expected.Packet port nibbles) = All IsFixed nibbles

-- no nibble may have any digit
abbrev pub MasksNothing : Expected → Type 0
MasksNothing expected.Drop = ⊤
MasksNothing (expected.Packet port nibbles) = (nibble : ℕ) → slice_get nibbles nibble ≢ Some Masked
