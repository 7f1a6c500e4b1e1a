use Rattle.std.specs.Io.KnownBytes.{Keeps}
use Rattle.testgen_program.proofs.transfer.read_some.Given as goal

-- an interrupted read took nothing
abbrev pub invariant-loop-try : goal.invariant-loop-try
invariant-loop-try g l = Keeps (g.F.Read.remaining l.initial.file) (g.F.Read.remaining l.file)
