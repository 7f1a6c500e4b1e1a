-- Small programs: which entry wins, `switch`, calls that stop, controls in controls, checksums, fills.
use Rattle.std.proofs.Common.{ℕ, [], ◌∷◌, ◌++◌, lit≤}
use Rattle.bits_core.specs.declared.number.Bits.{Bits}
use Rattle.bits_core.specs.declared.operator.Op.TheVariants as op
use Rattle.p4_program.specs.declared.bounds.Bounds.{Bounds}
use Rattle.p4_program.specs.declared.typed.callables.Direction.TheVariants as direction
use Rattle.p4_program.specs.declared.typed.callables.Target.TheVariants as target
use Rattle.p4_program.specs.declared.typed.expressions.Operator.TheVariants.{Plain}
use Rattle.p4_program.specs.declared.typed.input.Entry.{Entry}
use Rattle.p4_program.specs.declared.typed.input.Input.{Input}
use Rattle.p4_program.specs.declared.typed.paths.Step.TheVariants.{Field, Next, Last}
use Rattle.p4_program.specs.declared.typed.statements.Algorithm.TheVariants.{Csum16}
use Rattle.p4_program.specs.declared.typed.statements.Label.TheVariants.{Listed, Default}
use Rattle.p4_program.specs.declared.typed.tables.MatchKind.{MatchKind}
use Rattle.p4_program.specs.declared.typed.tables.Pattern.{Pattern}
use Rattle.p4_program.specs.declared.typed.tables.Pattern.TheVariants.{Exact, Prefix, Masked}
use Rattle.p4_program.specs.declared.typed.types.ValueType.TheVariants.{Header, Stack, Struct}
use Rattle.p4_program.specs.BoundedInput.{opening}
use Rattle.p4_program.specs.Syntax.Callables.{CoreTable, OfControl, To, Select}
use Rattle.p4_program.specs.Syntax.Expressions.{Read, IsValid}
use Rattle.p4_program.specs.Syntax.Programs.{CoreProgram}
use Rattle.p4_program.specs.Syntax.Statements.{CoreStatement, CoreStatements, CoreWork, NoStatements, Assign, CallAction, ApplyTable, ApplyControl, Extract, Emit, VerifyChecksum, UpdateChecksum, Switch, NoCases, Case, InOut}
use Rattle.p4_program.specs.WellFormed.Types.{bits}
use Rattle.p4_meaning.specs.Runs.Examples.{lowest, Parts, program, around, with_ingress, ingress_of, action, parameter, row, control, three_parameters, instance, statement, somewhere, sends, number, operation, field, local, standard, egress_spec_path, first_metadata}
use Rattle.p4_meaning.specs.Runs.StatementExamples.{bounds, when, nine, port_table, with_table, go_to}
use Rattle.p4_meaning.specs.Runs.SwitchExamples.{tells_error}

abbrev pub two_steps : Bounds
two_steps = record bounds { steps = 2; some_steps = lit≤ {m = 1} {n = 2} tt; most_steps = lit≤ {m = 2} {n = 32} tt }

-- the lowest bit of a number
abbrev pub one_bit : ℕ → Bits
one_bit value = lowest 1 (lit≤ {m = 1} {n = 1} tt) (lit≤ {m = 1} {n = 128} tt) value

-- ---- which entry wins

-- an entry that goes to this port
abbrev pub entry : ℕ → Pattern → ℕ → Entry
entry priority pattern port = record {
  table = 0;
  priority = priority;
  keys = pattern ∷ [];
  action = 0;
  arguments = nine port ∷ [];
}

-- the table with a key of this kind, applied
abbrev pub applies_by : MatchKind → Parts
applies_by k = record (with_table (record port_table { keys = record { value = Read (standard 0 (bits 9)); match_kind = k; width = 9; name = [] } ∷ [] })
    (row (statement 2 (ApplyTable 0) ∷ []))) { actions = go_to ∷ [] }

-- the longest prefix wins, whatever the order
abbrev pub with_prefixes : Input
with_prefixes = record (opening bounds) {
  entries = entry 0 (Prefix (nine 0) 0) 6
      ∷ entry 0 (Prefix (nine 0) 3) 7
      ∷ entry 0 (Prefix (nine 0) 1) 8
      ∷ [];
}

-- the least priority wins
abbrev pub with_masks : Input
with_masks = record (opening bounds) {
  entries = entry 5 (Masked (nine 0) (nine 511)) 6
      ∷ entry 3 (Masked (nine 0) (nine 0)) 7
      ∷ [];
}

-- ---- `switch`

-- `switch (t.apply().action_run) { default: { s.egress_spec = 8; } go: { s.egress_spec = 9; } }`
abbrev pub switches : CoreTable → Parts
switches t = record (with_table t (row (Switch 0
    (Case (Default ∷ []) (row (sends 2 (number 9 8) ∷ [])) (Case (Listed 0 ∷ []) (row (sends 3 (number 9 9) ∷ [])) NoCases)) ∷ []))) {
      actions = go_to ∷ [];
    }

-- the same table, whose default action is `NoAction`, which is not listed
abbrev pub unlisted_default : CoreTable
unlisted_default = record port_table { default_action = 0; default_arguments = [] }

-- ---- copy-out after `return` and `exit`

-- `action f(inout bit<9> x) { x = 7; return/exit; x = 8; }`, `f(s.egress_spec); m.x = 1;`
abbrev pub stops_in : CoreWork → Parts
stops_in work = record (with_ingress (row (statement 4 (CallAction 6 (InOut egress_spec_path ∷ [])) ∷ statement 5 (Assign first_metadata (number 8 1)) ∷ []))) {
  actions = action (parameter direction.InOut (bits 9) ∷ [])
      (row (statement 1 (Assign (local 0 (bits 9)) (number 9 7)) ∷ statement 2 work ∷ statement 3 (Assign (local 0 (bits 9)) (number 9 8)) ∷ [])) ∷ [];
}

-- ---- a control in the ingress

-- the ingress with an instance of a control that does `s.egress_spec = s.egress_spec + 1;`, applied twice
abbrev pub adds_one : CoreStatements
adds_one = row (sends 1 (operation (Read egress_spec_path) (Plain op.Add) (number 9 1)) ∷ [])

abbrev pub applies_child : ℕ → CoreStatement
applies_child n = statement n (ApplyControl 0 (InOut (field 0 [] (Struct 1)) ∷ InOut (field 1 [] (Struct 2)) ∷ InOut (field 2 [] (Struct 0)) ∷ []))

abbrev pub with_child : CoreProgram
with_child =
    let whole = program (around (record (ingress_of (row (applies_child 2 ∷ applies_child 3 ∷ []))) { children = 7 ∷ [] })) in
    record whole {
      callables = whole.callables ++ OfControl (control (three_parameters direction.InOut) [] adds_one) ∷ [];
      instances = instance 7 [] ∷ instance 2 [] ∷ instance 3 [] ∷ instance 4 [] ∷ instance 5 []
          ∷ record { control = 6; tables = []; children = 0 ∷ [] } ∷ [];
      blocks = record { parser = 1; verify = 1; ingress = 5; egress = 2; compute = 3; deparser = 4 };
    }

-- ---- checksums

abbrev pub tells_checksum : ℕ → CoreStatement
tells_checksum n = when (operation (Read (standard 13 (bits 1))) (Plain op.Eq) (number 1 1)) (sends n (number 9 1) ∷ [])

-- `verify_checksum(true, { 16w0x4500, 8w0, 8w0x73 }, ..., HashAlgorithm.csum16);`, and then one that is right
abbrev pub verifies : ℕ → Parts
verifies sum = record (with_ingress (row (tells_checksum 3 ∷ []))) {
  verify = row (statement 1 (VerifyChecksum (number 1 1) (number 16 0x4500 ∷ number 8 0 ∷ number 8 0x73 ∷ []) (number 16 sum) Csum16)
      ∷ statement 2 (VerifyChecksum (number 1 1) (number 16 0 ∷ []) (number 16 0xffff) Csum16) ∷ []);
}

-- a header with a sum of 16 bits that the switch stores
abbrev pub updates : Parts
updates = record (with_ingress NoStatements) {
  header_types = record { widths = 16 ∷ 16 ∷ [] } ∷ [];
  header_fields = Header 0 ∷ [];
  states = record { statements = row (statement 1 (Extract (field 0 (Field 0 ∷ []) (Header 0))) ∷ []); transition = To target.Accept } ∷ [];
  compute = row (statement 2 (UpdateChecksum (IsValid (field 0 (Field 0 ∷ []) (Header 0)))
      (Read (field 0 (Field 0 ∷ Field 0 ∷ []) (bits 16)) ∷ []) (field 0 (Field 0 ∷ Field 1 ∷ []) (bits 16)) Csum16) ∷ []);
  deparser = row (statement 3 (Emit (Read (field 0 (Field 0 ∷ []) (Header 0)))) ∷ []);
}

-- ---- labels up to the bottom of the stack

-- `state start { b.extract(h.l.next); transition select(h.l.last.bos) { 1 : accept; default : start; } }`
abbrev pub labels : Parts
labels = record (with_ingress (row (tells_error 2 3 ∷ []))) {
  header_types = record { widths = 7 ∷ 1 ∷ [] } ∷ [];
  header_fields = Stack 0 2 ∷ [];
  states = record {
    statements = row (statement 1 (Extract (field 0 (Field 0 ∷ Next ∷ []) (Header 0))) ∷ []);
    transition = Select (Read (field 0 (Field 0 ∷ Last ∷ Field 1 ∷ []) (bits 1)) ∷ [])
        (record { place = somewhere; keys = Exact (one_bit 1) ∷ []; target = target.Accept }
        ∷ record { place = somewhere; keys = Masked (one_bit 0) (one_bit 0) ∷ []; target = target.State 0 } ∷ []);
  } ∷ [];
  deparser = row (statement 4 (Emit (Read (field 0 (Field 0 ∷ []) (Stack 0 2)))) ∷ []);
}
