use Rattle.std.proofs.Common.{map}
use Rattle.p4_lexer.specs.Extents.{item_at}
use Rattle.p4_lexer.proofs.GroupEndLemmas.{Known}
use Rattle.p4_lexer.proofs.groups.group_ends.Given as goal

abbrev pub invariant-loop-at : goal.invariant-loop-at
invariant-loop-at l = Known (map (item_at l.text) l.items) l.at l.end l.closed l.ends

abbrev pub decreases-loop-at : goal.decreases-loop-at
decreases-loop-at l = l.at
