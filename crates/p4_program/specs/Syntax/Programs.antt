-- Whole programs without pointers.
use Rattle.std.specs.Prelude.{ℕ, List}
use Rattle.tg_base.specs.declared.place.Span.{Span}
use Rattle.p4_program.specs.declared.typed.instances.Blocks.{Blocks}
use Rattle.p4_program.specs.declared.typed.instances.Instance.{Instance}
use Rattle.p4_program.specs.declared.typed.instances.NamedTable.{NamedTable}
use Rattle.p4_program.specs.declared.typed.types.HeaderType.{HeaderType}
use Rattle.p4_program.specs.declared.typed.types.StructType.{StructType}
use Rattle.p4_program.specs.Syntax.Callables.{CoreCallable}

pub record CoreProgram : Type 0 where
  pub headers : List HeaderType
  -- the first is that of the standard metadata
  pub structs : List StructType
  -- how many errors there are
  pub errors : ℕ
  -- in the order of the source, an action of a control before it; the first is `NoAction` (P4-16, "The P4 core library")
  pub callables : List CoreCallable
  -- each behind its children
  pub instances : List Instance
  -- the tables of the instances of the blocks: in the order of their declarations, and those of one declaration in the
  -- order of the instances
  pub tables : List NamedTable
  pub blocks : Blocks
  -- the place of the declaration of `main`
  pub main : Span
