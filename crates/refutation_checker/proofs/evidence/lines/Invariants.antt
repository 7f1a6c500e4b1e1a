-- The lines of the clauses before the place.
use Rattle.std.proofs.Common.{◌≡◌, take, drop}
use Rattle.refutation_checker.specs.Lines.{lines_of}
use Rattle.refutation_checker.specs.Variables.{external_clauses}
use Rattle.refutation_checker.proofs.evidence.lines.Given as goal

abbrev pub invariant-loop-place : goal.invariant-loop-place
invariant-loop-place l = l.lines.items ≡ lines_of (external_clauses l.variables (take l.place (drop l.given l.root.clauses))) (take l.place l.evidence)
