-- What a run of a program so far depends on: the last value that its statements give to egress_spec.
use Rattle.std.specs.Prelude.{◌≡◌, ℕ, ◌==◌, List, [], ◌∷◌, map, if◌then◌else◌}
use Rattle.p4_program.specs.Input.{opening_input}
use Rattle.p4_program.specs.declared.bounds.Bounds.{Bounds}
use Rattle.p4_program.specs.declared.program.Program.{Program}
use Rattle.p4_meaning.specs.declared.test.Test.{Test}
use Rattle.testgen_engine.specs.Findings.{Findings}
use Rattle.testgen_engine.specs.declared.decide.Decided.{Decided}
use Rattle.p4_program.specs.declared.program.Statement.{Statement}
use Rattle.p4_program.specs.declared.program.StatementKind.{StatementKind}
use Rattle.p4_program.specs.declared.program.StatementKind.TheVariants.{AssignEgressSpec, MarkToDrop}
use Rattle.p4_program.specs.declared.v1model.TheConstants.{DROP_PORT}
use Rattle.p4_meaning.specs.declared.test.Expected.{Expected}
use Rattle.p4_meaning.specs.declared.test.Expected.TheVariants.{Drop, Packet}
use Rattle.p4_meaning.specs.declared.test.Nibble.TheVariants.{Fixed}
use Rattle.p4_meaning.specs.Expected.{digits_of}

-- what a statement gives to egress_spec
abbrev pub egress_of : StatementKind → ℕ
egress_of (AssignEgressSpec value) = value
egress_of MarkToDrop = DROP_PORT

-- what egress_spec holds after statements
abbrev pub egress_after : ℕ → List Statement → ℕ
egress_after value [] = value
egress_after value (statement ∷ statements) = egress_after (egress_of statement.kind) statements

-- what is expected where ingress leaves this egress_spec: the packet as it came in, or none
abbrev pub expected_at : ℕ → List ℕ → Expected
expected_at value packet = if value == DROP_PORT then Drop else Packet value (map Fixed (digits_of packet))

-- the test of the opening input, with what its runs give
pub record IsOpening (p : Program) (b : Bounds) (t : Test) : Type 0 where
  pub input : t.input ≡ opening_input b
  pub expects : t.expected ≡ expected_at (egress_after 0 p.statements) (opening_input b).packet

-- what was found where these verdicts and tests were decided
abbrev pub findings : Bounds → Program → Decided → Findings
findings b p decided = record { bounds = b; program = p; verdicts = decided.verdicts; tests = decided.tests; log = [] }
