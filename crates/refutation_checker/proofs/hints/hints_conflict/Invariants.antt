-- The hints that are left conflict now exactly where all of them did at the start.
use Rattle.std.proofs.Common.{◌≡◌, drop}
use Rattle.refutation_checker.specs.Hints.{HintsConflict}
use Rattle.refutation_checker.proofs.hints.hints_conflict.Given as goal

abbrev pub invariant-loop-hint : goal.invariant-loop-hint
invariant-loop-hint l = record {
  width : l.assignment.width ≡ l.initial.assignment.width;
  onward : HintsConflict l.root.clauses l.assignment.trail (drop l.hint-index l.hints) → HintsConflict l.root.clauses l.initial.assignment.trail l.hints;
  back : HintsConflict l.root.clauses l.initial.assignment.trail l.hints → HintsConflict l.root.clauses l.assignment.trail (drop l.hint-index l.hints);
}
