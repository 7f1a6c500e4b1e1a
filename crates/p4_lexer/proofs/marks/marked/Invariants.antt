use Rattle.std.proofs.Common.{drop, map}
use Rattle.p4_lexer.specs.Extents.{bare_at}
use Rattle.p4_lexer.specs.Marking.{Follows, Reaches}
use Rattle.p4_lexer.proofs.marks.marked.Given as goal

abbrev pub invariant-loop-i : goal.invariant-loop-i
invariant-loop-i l = Follows l.marker × Reaches (map (bare_at l.text) l.bare) l.marker.tokens (map (bare_at l.text) (drop l.i l.bare))
