-- The blocks of a program, and the places of its statements.
use Rattle.std.specs.Prelude.{List, [], map}
use Rattle.tg_base.specs.declared.place.Span.{Span}
use Rattle.p4_program.specs.declared.v1model.Block.{Block}
use Rattle.p4_program.specs.declared.v1model.Block.TheVariants.{Verify, Ingress, Egress, Compute, Deparser}
use Rattle.p4_program.specs.declared.program.Program.{Program}
use Rattle.p4_program.specs.declared.program.Statement.{Statement}

-- the statements of the state `start` of the parser, which is its only state so far: it has none, and accepts
abbrev pub statements_of_start : Program → List Statement
statements_of_start p = []

-- the statements of a control block; only ingress has any so far
abbrev pub statements_of : Program → Block → List Statement
statements_of p Verify = []
statements_of p Ingress = p.statements
statements_of p Egress = []
statements_of p Compute = []
statements_of p Deparser = []

-- where a statement begins
abbrev pub place_of : Statement → Span
place_of statement = statement.place

-- the places of all statements of the program, in the order of their numbers
abbrev pub places_of : Program → List Span
places_of p = map place_of p.statements
