use Rattle.std.proofs.Common.{◌≡◌, map, take}
use Rattle.p4_program.specs.Shapes.{argument_widths}
use Rattle.p4_program.specs.Trees.Programs.{core_of}
use Rattle.p4_program.proofs.typed.shapes.widths_listed.Given as goal

abbrev pub invariant-loop-listed : goal.invariant-loop-listed
invariant-loop-listed l =
    l.widths ≡ map (λ listed. argument_widths (core_of l.program) listed.action) (take l.listed-index l.actions)
