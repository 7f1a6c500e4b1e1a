-- Small programs: the parser, its errors, the switch, checksums.
use Rattle.std.proofs.Common.{ℕ, List, [], ◌∷◌}
use Rattle.bits_core.specs.declared.operator.Op.TheVariants as op
use Rattle.p4_program.specs.declared.typed.callables.Target.TheVariants as target
use Rattle.p4_program.specs.declared.typed.expressions.Operator.TheVariants.{Plain, LogicalOr}
use Rattle.p4_program.specs.declared.typed.input.Input.{Input}
use Rattle.p4_program.specs.declared.typed.paths.Path.{Path}
use Rattle.p4_program.specs.declared.typed.paths.Step.{Step}
use Rattle.p4_program.specs.declared.typed.paths.Step.TheVariants.{Field, Next, Last}
use Rattle.p4_program.specs.declared.typed.types.Scalar.TheVariants.{Members}
use Rattle.p4_program.specs.declared.typed.types.ValueType.{ValueType}
use Rattle.p4_program.specs.declared.typed.types.ValueType.TheVariants.{Simple, Header, Stack, Struct}
use Rattle.p4_program.specs.Syntax.Callables.{To, Select}
use Rattle.p4_program.specs.Syntax.Expressions.{CoreExpression, Constant, Read, Lookahead}
use Rattle.p4_program.specs.Syntax.Statements.{CoreStatement, CoreStatements, NoStatements, Assign, Exit, Extract, Advance, Verify, Emit, MarkToDrop}
use Rattle.p4_program.specs.WellFormed.Types.{bits}
use Rattle.p4_meaning.specs.Runs.Examples.{Parts, with_ingress, row, state, statement, sends, number, operation, field, standard, first_metadata}
use Rattle.p4_meaning.specs.Runs.StatementExamples.{when}

-- an input at port 0 with this packet
abbrev pub bytes : List ℕ → Input
bytes packet = record { port = 0; packet = packet; entries = [] }

abbrev pub error : ℕ → CoreExpression
error n = Constant (Members 7) n

-- `s.parser_error == ..`
abbrev pub failed_with : ℕ → CoreExpression
failed_with n = operation (Read (standard 14 (Simple (Members 7)))) (Plain op.Eq) (error n)

-- `if (s.parser_error == ..) s.egress_spec = 1;`
abbrev pub tells_error : ℕ → ℕ → CoreStatement
tells_error n e = when (failed_with e) (sends n (number 9 1) ∷ [])

-- ---- one header of two bytes

abbrev pub header_path : Path
header_path = field 0 (Field 0 ∷ []) (Header 0)

-- `b.extract(h.a);`, `if (s.parser_error == error.PacketTooShort) s.egress_spec = 1;`, `b.emit(h.a);`
abbrev pub extracts_one : Parts
extracts_one = record (with_ingress (row (tells_error 2 1 ∷ []))) {
  header_types = record { widths = 4 ∷ 12 ∷ [] } ∷ [];
  header_fields = Header 0 ∷ [];
  states = state (row (statement 1 (Extract header_path) ∷ [])) ∷ [];
  deparser = row (statement 3 (Emit (Read header_path)) ∷ []);
}

-- ---- a parser error in the middle: what was taken is not payload, what was not taken is

-- `b.extract(h.a); b.advance(16);` with nothing emitted
abbrev pub takes_some : Parts
takes_some = record extracts_one {
  states = state (row (statement 1 (Extract header_path) ∷ statement 4 (Advance 16) ∷ [])) ∷ [];
  deparser = NoStatements;
}

-- ---- lookahead past the end, in the middle of a condition

-- `verify(b.lookahead<bit<16>>() == 0 || true, error.NoMatch);`
abbrev pub looks_past : Parts
looks_past = record (with_ingress (row (tells_error 2 1 ∷ []))) {
  states = state (row (statement 1 (Verify
      (operation (operation (Lookahead 16) (Plain op.Eq) (number 16 0)) LogicalOr (number 1 1)) (error 2)) ∷ [])) ∷ [];
}

-- a side that is not evaluated looks at nothing: `verify(true || b.lookahead<bit<16>>() == 0, error.NoMatch);`
abbrev pub looks_nowhere : Parts
looks_nowhere = record looks_past {
  states = state (row (statement 1 (Verify
      (operation (number 1 1) LogicalOr (operation (Lookahead 16) (Plain op.Eq) (number 16 0))) (error 2)) ∷ [])) ∷ [];
}

-- ---- stacks

-- headers of one byte, and stacks l and k of two of them
abbrev pub with_stacks : CoreStatements → Parts
with_stacks body = record (with_ingress (row (tells_error 9 3 ∷ []))) {
  header_types = record { widths = 8 ∷ [] } ∷ [];
  header_fields = Stack 0 2 ∷ Stack 0 2 ∷ [];
  states = state body ∷ [];
  deparser = row (statement 8 (Emit (Read (field 0 (Field 1 ∷ []) (Stack 0 2)))) ∷ []);
}

abbrev pub in_stack : ℕ → List Step → ValueType → Path
in_stack n steps t = field 0 (Field n ∷ steps) t

-- `last` of a stack with no element fails also in a side that is not evaluated:
-- `verify(true || h.l.last.v == 0, error.NoMatch);`
abbrev pub last_of_none : Parts
last_of_none = with_stacks (row (statement 1 (Verify
    (operation (number 1 1) LogicalOr (operation (Read (in_stack 0 (Last ∷ Field 0 ∷ []) (bits 8))) (Plain op.Eq) (number 8 0))) (error 2)) ∷ []))

-- a copy does not carry the next counter: `b.extract(h.l.next); h.k = h.l; b.extract(h.k.next);` fills element 0 of k again
abbrev pub copies_stack : Parts
copies_stack = with_stacks (row (statement 1 (Extract (in_stack 0 (Next ∷ []) (Header 0)))
    ∷ statement 2 (Assign (in_stack 1 [] (Stack 0 2)) (Read (in_stack 0 [] (Stack 0 2))))
    ∷ statement 3 (Extract (in_stack 1 (Next ∷ []) (Header 0))) ∷ []))

-- that the stack is full is found before the packet's end: three times `b.extract(h.k.next);`
abbrev pub fills_stack : Parts
fills_stack = with_stacks (row (statement 1 (Extract (in_stack 1 (Next ∷ []) (Header 0)))
    ∷ statement 2 (Extract (in_stack 1 (Next ∷ []) (Header 0)))
    ∷ statement 3 (Extract (in_stack 1 (Next ∷ []) (Header 0))) ∷ []))

-- ---- `verify` with `NoError` ends the parser too: `verify(false, error.NoError); b.extract(h.k.next);`

abbrev pub verifies_no_error : Parts
verifies_no_error = with_stacks (row (statement 1 (Verify (number 1 0) (error 0))
    ∷ statement 2 (Extract (in_stack 1 (Next ∷ []) (Header 0))) ∷ []))

-- ---- states past the bound

-- a state that leads to itself
abbrev pub loops : Parts
loops = record (with_ingress (row (sends 2 (number 9 1) ∷ []))) {
  states = record { statements = row (statement 1 (Assign first_metadata (number 8 1)) ∷ []); transition = To (target.State 0) } ∷ [];
}

-- ---- `select`: no case matches

abbrev pub selects_none : Parts
selects_none = record (with_ingress (row (tells_error 1 2 ∷ []))) {
  states = record { statements = NoStatements; transition = Select (Lookahead 8 ∷ []) [] } ∷ [];
}

-- ---- egress: `egress_spec` begins at 0, `egress_port` is the port, and the drop port drops

-- `s.egress_spec = 3;` in ingress, and in egress `if (s.egress_spec == 3) mark_to_drop(s);`
abbrev pub spec_in_egress : Parts
spec_in_egress = record (with_ingress (row (sends 1 (number 9 3) ∷ []))) {
  egress = row (when (operation (Read (standard 1 (bits 9))) (Plain op.Eq) (number 9 3))
      (statement 2 (MarkToDrop (field 2 [] (Struct 0))) ∷ []) ∷ []);
}

-- and in egress `if (s.egress_port == 3) mark_to_drop(s);`
abbrev pub port_in_egress : Parts
port_in_egress = record (with_ingress (row (sends 1 (number 9 3) ∷ []))) {
  egress = row (when (operation (Read (standard 2 (bits 9))) (Plain op.Eq) (number 9 3))
      (statement 2 (MarkToDrop (field 2 [] (Struct 0))) ∷ []) ∷ []);
}

-- another port that egress writes changes nothing, and `exit` in ingress ends ingress alone
abbrev pub other_port_in_egress : Parts
other_port_in_egress = record (with_ingress (row (sends 1 (number 9 3) ∷ statement 2 Exit ∷ sends 3 (number 9 4) ∷ []))) {
  egress = row (sends 4 (number 9 8) ∷ []);
}

-- a multicast group drops after ingress, whatever the port: `s.egress_spec = 3; s.mcast_grp = 1;`
abbrev pub multicasts : Parts
multicasts = with_ingress (row (sends 1 (number 9 3) ∷ statement 2 (Assign (standard 11 (bits 16)) (number 16 1)) ∷ []))
