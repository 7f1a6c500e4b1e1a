-- The skeleton has its typed program, by evaluation.
use Rattle.std.proofs.Common.{refl}
use Rattle.p4_rules.specs.Examples.{skeleton}
use Rattle.p4_rules.specs.ExampleProgram.{skeleton_program}
use Rattle.p4_rules.specs.Typed.{Elaborates}

pub skeleton_elaborates : Elaborates skeleton skeleton_program
skeleton_elaborates = refl
