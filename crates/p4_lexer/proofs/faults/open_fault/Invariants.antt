use Rattle.std.proofs.Common.{take}
use Rattle.p4_lexer.specs.Scanning.{IsFirstOf}
use Rattle.p4_lexer.specs.PartFaults.{IsOpenAt}
use Rattle.p4_lexer.proofs.faults.open_fault.Given as goal

abbrev pub invariant-loop-condition : goal.invariant-loop-condition
invariant-loop-condition l = IsFirstOf (IsOpenAt (take l.condition-index l.conditions)) l.best
