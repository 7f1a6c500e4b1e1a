use Rattle.std.specs.Io.KnownBytes.{Keeps}
use Rattle.testgen_program.proofs.transfer.write_some.Given as goal

-- an interrupted write gave nothing
abbrev pub invariant-loop-try : goal.invariant-loop-try
invariant-loop-try g l = Keeps (g.F.Write.contents l.initial.file) (g.F.Write.contents l.file)
