-- Small programs: statements, calls, headers, tables.
use Rattle.std.proofs.Common.{ℕ, false, List, [], ◌∷◌, replicate, Some, None, lit≤}
use Rattle.bits_core.specs.declared.number.Bits.{Bits}
use Rattle.bits_core.specs.declared.operator.Op.TheVariants as op
use Rattle.p4_program.specs.declared.bounds.Bounds.{Bounds}
use Rattle.p4_program.specs.declared.typed.callables.Direction.TheVariants as direction
use Rattle.p4_program.specs.declared.typed.expressions.Operator.TheVariants.{Plain, NotEqual}
use Rattle.p4_program.specs.declared.typed.input.Entry.{Entry}
use Rattle.p4_program.specs.declared.typed.input.Input.{Input}
use Rattle.p4_program.specs.declared.typed.paths.Path.{Path}
use Rattle.p4_program.specs.declared.typed.paths.Step.TheVariants.{Field, Element}
use Rattle.p4_program.specs.declared.typed.tables.MatchKind.TheVariants as kind
use Rattle.p4_program.specs.declared.typed.tables.Pattern.TheVariants.{Exact}
use Rattle.p4_program.specs.declared.typed.types.Scalar.TheVariants.{Sized}
use Rattle.p4_program.specs.declared.typed.types.ValueType.TheVariants.{Header, Stack, Struct}
use Rattle.p4_program.specs.BoundedInput.{opening}
use Rattle.p4_program.specs.Syntax.Callables.{CoreAction, CoreTable}
use Rattle.p4_program.specs.Syntax.Expressions.{CoreExpression, Read, IsValid, Choice, PartOf, Hit}
use Rattle.p4_program.specs.Syntax.Statements.{CoreStatement, CoreStatements, NoStatements, Assign, AssignSlice, Exit, CallAction, ApplyTable, SetValid, PushFront, MarkToDrop, If, In, InOut, Out}
use Rattle.p4_program.specs.WellFormed.Types.{bits}
use Rattle.p4_meaning.specs.Runs.Courses as course
use Rattle.p4_meaning.specs.Runs.Examples.{lowest, Parts, around, with_ingress, ingress_of, action, parameter, row, statement, somewhere, sends, number, operation, field, local, standard, egress_spec_path, first_metadata}

-- the bounds where no option stands
abbrev pub bounds : Bounds
bounds = record {
  bytes = 128;
  steps = 12;
  entries = 1;
  budget = 2000;
  some_bytes = lit≤ {m = 1} {n = 128} tt;
  most_bytes = lit≤ {m = 128} {n = 512} tt;
  some_steps = lit≤ {m = 1} {n = 12} tt;
  most_steps = lit≤ {m = 12} {n = 32} tt;
  most_entries = lit≤ {m = 1} {n = 4} tt;
  some_budget = lit≤ {m = 1} {n = 2000} tt;
  most_budget = lit≤ {m = 2000} {n = 10000} tt;
}

-- the packet of the opening input
abbrev pub zero_bytes : List ℕ
zero_bytes = replicate 14 0

-- a read of so many bits that gives this
abbrev pub gave : ℕ → ℕ → course.Read
gave width value = record { scalar = Sized width; value = value }

-- `if (..) ..`
abbrev pub when : CoreExpression → List CoreStatement → CoreStatement
when condition body = If somewhere condition (row body) NoStatements

-- ---- one assignment

-- `s.egress_spec = 3;`
abbrev pub sends_3 : Parts
sends_3 = with_ingress (row (sends 1 (number 9 3) ∷ []))

-- ---- copy-out

-- `action a(inout bit<9> x, inout bit<9> y) { x = 1; y = 2; }`, `action c(inout bit<9> v) { a(v, v); }`, `c(s.egress_spec);`:
-- y is copied out last
abbrev pub copies_out : Parts
copies_out = record (with_ingress (row (statement 4 (CallAction 7 (InOut egress_spec_path ∷ [])) ∷ []))) {
  actions =
      action (parameter direction.InOut (bits 9) ∷ parameter direction.InOut (bits 9) ∷ [])
      (row (statement 1 (Assign (local 0 (bits 9)) (number 9 1)) ∷ statement 2 (Assign (local 1 (bits 9)) (number 9 2)) ∷ []))
      ∷ action (parameter direction.InOut (bits 9) ∷ [])
      (row (statement 3 (CallAction 6 (InOut (local 0 (bits 9)) ∷ InOut (local 0 (bits 9)) ∷ [])) ∷ []))
      ∷ [];
}

-- ---- unspecified values

-- `m.x != m.x`
abbrev pub differs_from_itself : CoreExpression
differs_from_itself = operation (Read first_metadata) NotEqual (Read first_metadata)

-- `if (m.x != m.x) s.egress_spec = 1;`: each read may give another value
abbrev pub reads_twice : Parts
reads_twice = with_ingress (row (when differs_from_itself (sends 1 (number 9 1) ∷ []) ∷ []))

-- `action f(inout bit<8> x) { }`, `f(m.x); if (m.x != m.x) s.egress_spec = 1;`: the call has fixed the value
abbrev pub fixed_by_call : Parts
fixed_by_call = record (with_ingress (row (statement 1 (CallAction 6 (InOut first_metadata ∷ []))
    ∷ when differs_from_itself (sends 2 (number 9 1) ∷ []) ∷ []))) {
      actions = action (parameter direction.InOut (bits 8) ∷ []) NoStatements ∷ [];
    }

-- the same where the parameter is `out`: it is read as it is copied out
abbrev pub fixed_by_out : Parts
fixed_by_out = record (with_ingress (row (statement 1 (CallAction 6 (Out first_metadata ∷ []))
    ∷ when differs_from_itself (sends 2 (number 9 1) ∷ []) ∷ []))) {
      actions = action (parameter direction.Out (bits 8) ∷ []) NoStatements ∷ [];
    }

-- `m.x[3:0] = 5; s.egress_spec = 1w0 ++ m.x;`: all of x is read, once
abbrev pub slice_assigned : Parts
slice_assigned = with_ingress (row (statement 1 (AssignSlice first_metadata 3 0 (number 4 5))
    ∷ sends 2 (operation (number 1 0) (Plain op.Cat) (Read first_metadata)) ∷ []))

-- `mark_to_drop(s);` reads nothing, and fixes nothing: `s.enq_qdepth != s.enq_qdepth` may hold behind it
abbrev pub marked_first : Parts
marked_first = with_ingress (row (statement 1 (MarkToDrop (field 2 [] (Struct 0)))
    ∷ when (operation (Read (standard 6 (bits 19))) NotEqual (Read (standard 6 (bits 19)))) (sends 2 (number 9 1) ∷ []) ∷ []))

-- ---- header stacks

-- headers of 8 bits, and a stack of two of them
abbrev pub with_stack : CoreStatements → Parts
with_stack body = record (with_ingress body) {
  header_types = record { widths = 8 ∷ [] } ∷ [];
  header_fields = Stack 0 2 ∷ [];
}

-- `h.l[1].v != h.l[1].v`
abbrev pub element_differs : CoreExpression
element_differs =
    let v = field 0 (Field 0 ∷ Element 1 ∷ Field 0 ∷ []) (bits 8) in
    operation (Read v) NotEqual (Read v)

-- `h.l[0].setValid(); h.l.push_front(1); if (h.l[1].v != h.l[1].v) s.egress_spec = 1;`: what moves stays unspecified
abbrev pub pushes : Parts
pushes = with_stack (row (statement 1 (SetValid (field 0 (Field 0 ∷ Element 0 ∷ []) (Header 0)))
    ∷ statement 2 (PushFront (field 0 (Field 0 ∷ []) (Stack 0 2)) 1)
    ∷ when element_differs (sends 3 (number 9 1) ∷ []) ∷ []))

-- a write to a field of an invalid header changes nothing: `h.l[1].v = 7; if (h.l[1].v != h.l[1].v) s.egress_spec = 1;`
abbrev pub writes_void : Parts
writes_void = with_stack (row (statement 1 (Assign (field 0 (Field 0 ∷ Element 1 ∷ Field 0 ∷ []) (bits 8)) (number 8 7))
    ∷ when element_differs (sends 2 (number 9 1) ∷ []) ∷ []))

-- a header of two fields, and another
abbrev pub with_headers : CoreStatements → Parts
with_headers body = record (with_ingress body) {
  header_types = record { widths = 8 ∷ 9 ∷ [] } ∷ [];
  header_fields = Header 0 ∷ Header 0 ∷ [];
}

-- `h.n` for the header of this number
abbrev pub header_at : ℕ → Path
header_at n = field 0 (Field n ∷ []) (Header 0)

abbrev pub chosen_header : CoreExpression
chosen_header = Choice (IsValid (header_at 0)) (Read (header_at 0)) (Read (header_at 1))

-- `h.a.setValid(); s.egress_spec = (h.a.isValid() ? h.a : h.b).w;`: the header that is chosen is read whole
abbrev pub chooses_header : Parts
chooses_header = with_headers (row (statement 1 (SetValid (header_at 0)) ∷ sends 2 (PartOf chosen_header (Field 1)) ∷ []))

-- the same where neither is valid: the field of an invalid header is unspecified
abbrev pub chooses_invalid : Parts
chooses_invalid = with_headers (row (sends 2 (PartOf chosen_header (Field 1)) ∷ []))

-- ---- tables

-- the nine lowest bits of a number
abbrev pub nine : ℕ → Bits
nine value = lowest 9 (lit≤ {m = 1} {n = 9} tt) (lit≤ {m = 9} {n = 128} tt) value

-- a table on the port of ingress, which takes one action or by default does so
abbrev pub port_table : CoreTable
port_table = record {
  keys = record { value = Read (standard 0 (bits 9)); match_kind = kind.Exact; width = 9; name = [] } ∷ [];
  actions = record { action = 6; default_only = false } ∷ [];
  default_action = 6;
  default_arguments = nine 5 ∷ [];
  entries = None;
}

abbrev pub with_table : CoreTable → CoreStatements → Parts
with_table t body = record (around (record (ingress_of body) { tables = t ∷ [] })) { ingress_tables = 0 ∷ [] }

-- `action go(bit<9> p) { s.egress_spec = p; }` in the ingress
abbrev pub go_to : CoreAction
go_to = action (parameter direction.In (bits 9) ∷ []) (row (sends 1 (Read (local 0 (bits 9))) ∷ []))

-- `t.apply();`
abbrev pub applies_table : Parts
applies_table = record (with_table port_table (row (statement 2 (ApplyTable 0) ∷ []))) { actions = go_to ∷ [] }

abbrev pub entry_for_port_0 : Entry
entry_for_port_0 = record {
  table = 0;
  priority = 0;
  keys = Exact (nine 0) ∷ [];
  action = 0;
  arguments = nine 7 ∷ [];
}

-- the opening input with that entry
abbrev pub with_entry : Input
with_entry = record (opening bounds) { entries = entry_for_port_0 ∷ [] }

-- constant entries, of which there are none, leave no room for others
abbrev pub no_constant_entry : Parts
no_constant_entry = record (with_table (record port_table { entries = Some [] }) (row (statement 2 (ApplyTable 0) ∷ []))) { actions = go_to ∷ [] }

-- `exit` inside an argument: the call is not begun, and nothing is copied out.
-- `action stop() { exit; }`, `action f(inout bit<9> x, in bool b) { x = 8; }`, with `stop` as default of t:
-- `s.egress_spec = 4; f(s.egress_spec, t.apply().hit); s.egress_spec = 9;`
abbrev pub exits_inside : Parts
exits_inside = record (with_table (record port_table { default_arguments = [] })
    (row (sends 3 (number 9 4) ∷ statement 4 (CallAction 7 (InOut egress_spec_path ∷ In (Hit 0) ∷ [])) ∷ sends 5 (number 9 9) ∷ []))) {
      actions =
          action [] (row (statement 1 Exit ∷ []))
          ∷ action (parameter direction.InOut (bits 9) ∷ parameter direction.In (bits 1) ∷ [])
          (row (statement 2 (Assign (local 0 (bits 9)) (number 9 8)) ∷ []))
          ∷ [];
    }
