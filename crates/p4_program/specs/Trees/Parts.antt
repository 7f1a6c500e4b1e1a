-- The program that the parts of a tree make.
use Rattle.std.specs.Prelude.{ℕ, List, map}
use Rattle.tg_base.specs.declared.place.Span.{Span}
use Rattle.p4_program.specs.declared.typed.callables.Callable.{Callable}
use Rattle.p4_program.specs.declared.typed.instances.Blocks.{Blocks}
use Rattle.p4_program.specs.declared.typed.instances.Instance.{Instance}
use Rattle.p4_program.specs.declared.typed.instances.NamedTable.{NamedTable}
use Rattle.p4_program.specs.declared.typed.types.HeaderType.{HeaderType}
use Rattle.p4_program.specs.declared.typed.types.StructType.{StructType}
use Rattle.p4_program.specs.Syntax.Programs.{CoreProgram}
use Rattle.p4_program.specs.Trees.Callables.{callable_of}

abbrev pub core_with : List HeaderType → List StructType → ℕ → List Callable → List Instance → List NamedTable → Blocks → Span → CoreProgram
core_with headers structs errors callables instances tables blocks main =
    record {
      headers = headers;
      structs = structs;
      errors = errors;
      callables = map callable_of callables;
      instances = instances;
      tables = tables;
      blocks = blocks;
      main = main;
    }
