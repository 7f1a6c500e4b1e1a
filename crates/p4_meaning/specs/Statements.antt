-- Runs of statements (P4-16, "Statements").
use Rattle.std.specs.Prelude.{List, [], ◌∷◌}
use Rattle.p4_program.specs.declared.program.Statement.{Statement}
use Rattle.p4_program.specs.declared.program.StatementKind.{StatementKind}
use Rattle.p4_program.specs.declared.program.StatementKind.TheVariants.{AssignEgressSpec, MarkToDrop}
use Rattle.p4_meaning.specs.Execution.{Part, Becomes, Stays, Begins, Continues, Stops, Either}
use Rattle.p4_meaning.specs.Store.{Environment, with_metadata}
use Rattle.p4_meaning.specs.V1modelMetadata.{marked_to_drop}

-- what a statement does: "Assignment statement", and "Method calls and function calls" with v1model.p4, `mark_to_drop`
abbrev pub Does : Environment → StatementKind → Part
Does env (AssignEgressSpec value) old = Becomes (with_metadata (record old.metadata { egress_spec = value }) old)
Does env MarkToDrop old = Becomes (with_metadata (marked_to_drop old.metadata) old)

-- a run of a statement
abbrev pub Exec : Environment → Statement → Part
Exec env statement = Begins statement.number (Does env statement.kind)

-- Statements run one after another, until one ends so that nothing follows.
abbrev pub ExecAll : Environment → List Statement → Part
ExecAll env [] = Stays
ExecAll env (statement ∷ statements) =
    Either (Continues (Exec env statement) (ExecAll env statements)) (Stops (Exec env statement))
