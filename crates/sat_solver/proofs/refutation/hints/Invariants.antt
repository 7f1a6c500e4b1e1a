-- What conflicts after the literals before the place, conflicts after the hints so far, which are numbers of clauses.
use Rattle.std.proofs.Common.{ℕ, ◌<◌, List, [], ◌++◌, take}
use Rattle.std.specs.Prelude.{All}
use Rattle.refutation_checker.specs.Hints.{HintsConflict}
use Rattle.sat_solver.proofs.refutation.hints.Given as goal

abbrev pub invariant-loop-place : goal.invariant-loop-place
invariant-loop-place l =
    ((rest : List ℕ) → HintsConflict l.solver.clauses (take l.place l.solver.trail) rest → HintsConflict l.solver.clauses [] (l.hints.items ++ rest))
    × All (λ hint. 0 < hint) l.hints.items
