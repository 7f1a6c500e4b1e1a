-- The parts from i on are on top, in order.
use Rattle.std.proofs.Common.{◌≡◌, ◌++◌, drop, reverse}
use Rattle.std.specs.Prelude.{map}
use Rattle.p4_grammar.specs.Descent.{part_in}
use Rattle.p4_grammar.proofs.depth.push_parts.Given as goal

abbrev pub invariant-loop-i : goal.invariant-loop-i
invariant-loop-i l = reverse l.parts.items ≡ map (part_in l.row.left l.depth) (drop l.i l.right) ++ reverse l.fn.parts.items
