-- The truths so far are those of the variables below this one.
use Rattle.std.proofs.Common.{◌≡◌, ◌+◌, length}
use Rattle.sat_solver.specs.Deciding.{GivesTrail}
use Rattle.sat_solver.proofs.formula.valuation_of.Given as goal

abbrev pub invariant-loop-var : goal.invariant-loop-var
invariant-loop-var l = record {
  counted : length l.truths.items + 1 ≡ l.var;
  gives : GivesTrail l.truths.items l.var l.solver.trail;
}
