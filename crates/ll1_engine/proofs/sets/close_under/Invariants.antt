use Rattle.std.proofs.Common.{◌≡◌, length}
use Rattle.ll1_engine.specs.Marks.{marked, unmarked, AllDerive, Within}
use Rattle.ll1_engine.proofs.sets.close_under.Given as goal

abbrev pub invariant-loop : goal.invariant-loop
invariant-loop l =
    record {
      size : length l.marks ≡ length l.fn.marks;
      grows : Within l.fn.marks (marked l.marks);
      derives : AllDerive l.rows l.fn.marks l.marks;
    }

-- each pass but the last marks another symbol
abbrev pub decreases-loop : goal.decreases-loop
decreases-loop l = unmarked l.marks
