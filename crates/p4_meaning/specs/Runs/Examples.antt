-- Small typed programs. Each is the skeleton of the switch with some bodies of its own. What runs do not look at is left out:
-- names, and the list of the tables by name.
use Rattle.std.specs.Prelude.{ℕ, ◌+◌, ◌≤◌, ◌%◌, ◌^◌, List, [], ◌∷◌, ◌++◌, map, length, None}
use Rattle.std.proofs.Common.{mod-lt, pow_pos}
use Rattle.bits_core.specs.declared.number.Bits.{Bits}
use Rattle.bits_core.specs.declared.number.TheConstants.{MAX_WIDTH}
use Rattle.tg_base.specs.declared.place.Span.{Span}
use Rattle.p4_program.specs.declared.typed.callables.Direction.{Direction}
use Rattle.p4_program.specs.declared.typed.callables.Direction.TheVariants as direction
use Rattle.p4_program.specs.declared.typed.callables.Parameter.{Parameter}
use Rattle.p4_program.specs.declared.typed.callables.Target.TheVariants as target
use Rattle.p4_program.specs.declared.typed.instances.Instance.{Instance}
use Rattle.p4_program.specs.declared.typed.paths.Path.{Path}
use Rattle.p4_program.specs.declared.typed.paths.Root.TheVariants.{OfBlock, OfAction}
use Rattle.p4_program.specs.declared.typed.paths.Step.{Step}
use Rattle.p4_program.specs.declared.typed.paths.Step.TheVariants.{Field}
use Rattle.p4_program.specs.declared.typed.types.HeaderType.{HeaderType}
use Rattle.p4_program.specs.declared.typed.types.Scalar.TheVariants.{Sized}
use Rattle.p4_program.specs.declared.typed.types.ValueType.{ValueType}
use Rattle.p4_program.specs.declared.typed.types.ValueType.TheVariants.{Struct}
use Rattle.p4_program.specs.Syntax.Callables.{CoreAction, CoreParser, CoreState, CoreControl, OfAction, OfParser, OfControl, To}
use Rattle.p4_program.specs.Syntax.Expressions.{CoreExpression, Constant, Operations, Behind, NoOperations}
use Rattle.p4_program.specs.Syntax.Programs.{CoreProgram}
use Rattle.p4_program.specs.Syntax.Statements.{CoreStatement, CoreStatements, CoreWork, NoStatements, Then, Numbered, Assign}
use Rattle.p4_program.specs.declared.typed.expressions.Operator.{Operator}
use Rattle.p4_program.specs.WellFormed.Types.{bits, standard_fields}

abbrev pub somewhere : Span
somewhere = record { line = 1; column = 1 }

-- the lowest bits of a number, so many
abbrev pub lowest : (width : ℕ) → 1 ≤ width → width ≤ MAX_WIDTH → ℕ → Bits
lowest width some most value = record {
  width = width;
  value = value % 2 ^ width;
  some_bit = some;
  at_most_widest = most;
  fits = mod-lt value (pow_pos width);
}

-- ---- statements and expressions

-- statements in a row
abbrev pub row : List CoreStatement → CoreStatements
row [] = NoStatements
row (s ∷ ss) = Then s (row ss)

abbrev pub statement : ℕ → CoreWork → CoreStatement
statement number work = Numbered number somewhere work

abbrev pub number : ℕ → ℕ → CoreExpression
number width value = Constant (Sized width) value

abbrev pub operation : CoreExpression → Operator → CoreExpression → CoreExpression
operation left operator right = Operations left (Behind operator right NoOperations)

-- a field of a variable or parameter of the block
abbrev pub field : ℕ → List Step → ValueType → Path
field root steps t = record { root = OfBlock root; steps = steps; value_type = t }

-- a variable or parameter of the action
abbrev pub local : ℕ → ValueType → Path
local root t = record { root = OfAction root; steps = []; value_type = t }

-- fields of the standard metadata, which is the third parameter
abbrev pub standard : ℕ → ValueType → Path
standard n t = field 2 (Field n ∷ []) t

abbrev pub egress_spec_path : Path
egress_spec_path = standard 1 (bits 9)

-- `s.egress_spec = ..;`
abbrev pub sends : ℕ → CoreExpression → CoreStatement
sends n port = statement n (Assign egress_spec_path port)

-- the first field of the user's metadata, of 8 bits
abbrev pub first_metadata : Path
first_metadata = field 1 (Field 0 ∷ []) (bits 8)

-- ---- declarations

abbrev pub parameter : Direction → ValueType → Parameter
parameter way t = record { direction = way; value_type = t; name = [] }

-- the structs of the headers and of the user's metadata are the second and the third
abbrev pub headers_parameter : Direction → Parameter
headers_parameter way = parameter way (Struct 1)

abbrev pub metadata_parameters : List Parameter
metadata_parameters = parameter direction.InOut (Struct 2) ∷ []

abbrev pub three_parameters : Direction → List Parameter
three_parameters way = headers_parameter way ∷ parameter direction.InOut (Struct 2) ∷ parameter direction.InOut (Struct 0) ∷ []

abbrev pub two_parameters : List Parameter
two_parameters = headers_parameter direction.InOut ∷ metadata_parameters

abbrev pub control : List Parameter → List ValueType → CoreStatements → CoreControl
control parameters variables body =
    record { parameters = parameters; variables = variables; body = body; tables = []; children = [] }

abbrev pub action : List Parameter → CoreStatements → CoreAction
action parameters body = record { within = None; parameters = parameters; variables = []; body = body }

abbrev pub state : CoreStatements → CoreState
state statements = record { statements = statements; transition = To target.Accept }

abbrev pub parser : List CoreState → CoreParser
parser states =
    record { parameters = three_parameters direction.Out; variables = []; beginning = NoStatements; states = states; start = 0 }

-- ---- programs

-- what a program has of its own
pub record Parts : Type 0 where
  pub header_types : List HeaderType
  pub header_fields : List ValueType
  pub states : List CoreState
  pub actions : List CoreAction
  pub ingress : CoreControl
  pub ingress_tables : List ℕ
  pub verify : CoreStatements
  pub egress : CoreStatements
  pub compute : CoreStatements
  pub deparser : CoreStatements

-- parts that do nothing, around an ingress
abbrev pub around : CoreControl → Parts
around ingress = record {
  header_types = [];
  header_fields = [];
  states = state NoStatements ∷ [];
  actions = [];
  ingress = ingress;
  ingress_tables = [];
  verify = NoStatements;
  egress = NoStatements;
  compute = NoStatements;
  deparser = NoStatements;
}

abbrev pub ingress_of : CoreStatements → CoreControl
ingress_of body = control (three_parameters direction.InOut) [] body

-- the skeleton with this ingress
abbrev pub with_ingress : CoreStatements → Parts
with_ingress body = around (ingress_of body)

abbrev pub instance : ℕ → List ℕ → Instance
instance n tables = record { control = n; tables = tables; children = [] }

-- The actions are the callables from 6 on, and the ingress is the last.
abbrev pub program : Parts → CoreProgram
program parts = record {
  headers = parts.header_types;
  structs = record { fields = standard_fields 7 } ∷ record { fields = parts.header_fields } ∷ record { fields = bits 8 ∷ [] } ∷ [];
  errors = 7;
  callables =
      OfAction (action [] NoStatements)
      ∷ OfParser (parser parts.states)
      ∷ OfControl (control two_parameters [] parts.verify)
      ∷ OfControl (control (three_parameters direction.InOut) [] parts.egress)
      ∷ OfControl (control two_parameters [] parts.compute)
      ∷ OfControl (control (headers_parameter direction.In ∷ []) [] parts.deparser)
      ∷ (map (λ a. OfAction a) parts.actions ++ OfControl parts.ingress ∷ []);
  instances =
      instance 2 [] ∷ instance 3 [] ∷ instance 4 [] ∷ instance 5 [] ∷ instance (6 + length parts.actions) parts.ingress_tables ∷ [];
  tables = [];
  blocks = record { parser = 1; verify = 0; ingress = 4; egress = 1; compute = 2; deparser = 3 };
  main = somewhere;
}
