-- The program that a tree stands for.
use Rattle.p4_program.specs.declared.typed.program.Program.{Program}
use Rattle.p4_program.specs.Syntax.Programs.{CoreProgram}
use Rattle.p4_program.specs.Trees.Parts.{core_with}

abbrev pub core_of : Program → CoreProgram
core_of p = core_with p.headers p.structs p.errors p.callables p.instances p.tables p.blocks p.main
