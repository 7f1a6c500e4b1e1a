use Rattle.std.proofs.Common.{◌≡◌, ◌++◌, reverse, length}
use Rattle.p4_consts.proofs.argument_lists.reversed.Given as goal

-- what is turned, and what is left from its end, are the whole row from its end
abbrev pub invariant-loop-last : goal.invariant-loop-last
invariant-loop-last g l = l.turned.items ++ reverse l.rest ≡ reverse l.fn.row

abbrev pub decreases-loop-last : goal.decreases-loop-last
decreases-loop-last g l = length l.rest
