-- The typed program of the skeleton.
use Rattle.std.specs.Prelude.{ℕ, List, [], ◌∷◌, None, codes}
use Rattle.p4_program.specs.declared.typed.callables.Direction.TheVariants as direction
use Rattle.p4_program.specs.declared.typed.callables.Direction.{Direction}
use Rattle.p4_program.specs.declared.typed.callables.Parameter.{Parameter}
use Rattle.p4_program.specs.declared.typed.callables.Target.TheVariants as target
use Rattle.p4_program.specs.declared.typed.paths.Root.TheVariants as root
use Rattle.p4_program.specs.declared.typed.paths.Step.TheVariants as step
use Rattle.p4_program.specs.declared.typed.instances.Instance.{Instance}
use Rattle.p4_program.specs.declared.typed.types.Scalar.TheVariants as scalar
use Rattle.p4_program.specs.declared.typed.types.StructType.{StructType}
use Rattle.p4_program.specs.declared.typed.types.ValueType.{ValueType}
use Rattle.p4_program.specs.declared.typed.types.ValueType.TheVariants as value
use Rattle.p4_program.specs.Syntax.Callables.{CoreCallable}
use Rattle.p4_program.specs.Syntax.Callables as callable
use Rattle.p4_program.specs.Syntax.Expressions as expression
use Rattle.p4_program.specs.Syntax.Programs.{CoreProgram}
use Rattle.p4_program.specs.Syntax.Statements.{CoreStatements}
use Rattle.p4_program.specs.Syntax.Statements as statement
use Rattle.p4_rules.specs.Examples.{at}

abbrev pub sized : ℕ → ValueType
sized w = value.Simple (scalar.Sized w)

abbrev pub metadata_struct : StructType
metadata_struct = record {
  fields = sized 9 ∷ sized 9 ∷ sized 9 ∷ sized 32 ∷ sized 32 ∷ sized 32 ∷ sized 19 ∷ sized 32 ∷ sized 19 ∷ sized 48 ∷ sized 48
      ∷ sized 16 ∷ sized 16 ∷ sized 1 ∷ value.Simple (scalar.Members 7) ∷ sized 3 ∷ [];
}

abbrev pub no_fields : StructType
no_fields = record { fields = [] }

-- the parameters of the blocks: structs 1 and 2 are those of the source, struct 0 is that of the metadata
abbrev pub headers : Direction → Parameter
headers way = record { direction = way; value_type = value.Struct 1; name = codes "h" }

abbrev pub user_metadata : Parameter
user_metadata = record { direction = direction.InOut; value_type = value.Struct 2; name = codes "m" }

abbrev pub standard_metadata : Parameter
standard_metadata = record { direction = direction.InOut; value_type = value.Struct 0; name = codes "s" }

abbrev pub control : List Parameter → CoreStatements → CoreCallable
control parameters body =
    callable.OfControl (record { parameters = parameters; variables = []; body = body; tables = []; children = [] })

abbrev pub instance : ℕ → Instance
instance n = record { control = n; tables = []; children = [] }

-- `s.egress_spec = 3;`, the only statement: s is the third parameter, and the field its second
abbrev pub sends : CoreStatements
sends = statement.Then
    (statement.Numbered 1 (at 11 5)
    (statement.Assign (record { root = root.OfBlock 2; steps = step.Field 1 ∷ []; value_type = sized 9 })
    (expression.Constant (scalar.Sized 9) 3)))
    statement.NoStatements

abbrev pub skeleton_program : CoreProgram
skeleton_program = record {
  headers = [];
  structs = metadata_struct ∷ no_fields ∷ no_fields ∷ [];
  errors = 7;
  callables =
      callable.OfAction (record { within = None; parameters = []; variables = []; body = statement.NoStatements })
      ∷ callable.OfParser (record {
        parameters = headers direction.Out ∷ user_metadata ∷ standard_metadata ∷ [];
        variables = [];
        beginning = statement.NoStatements;
        states = record { statements = statement.NoStatements; transition = callable.To target.Accept } ∷ [];
        start = 0;
      })
      ∷ control (headers direction.InOut ∷ user_metadata ∷ []) statement.NoStatements
      ∷ control (headers direction.InOut ∷ user_metadata ∷ standard_metadata ∷ []) sends
      ∷ control (headers direction.InOut ∷ user_metadata ∷ standard_metadata ∷ []) statement.NoStatements
      ∷ control (headers direction.InOut ∷ user_metadata ∷ []) statement.NoStatements
      ∷ control (headers direction.In ∷ []) statement.NoStatements
      ∷ [];
  instances = instance 2 ∷ instance 3 ∷ instance 4 ∷ instance 5 ∷ instance 6 ∷ [];
  tables = [];
  blocks = record { parser = 1; verify = 0; ingress = 1; egress = 2; compute = 3; deparser = 4 };
  main = at 17 1;
}
