use Rattle.std.proofs.Common.{◌≡◌, ◌++◌, map, reverse, length}
use Rattle.p4_consts.specs.Rows.{told_by_rules}
use Rattle.p4_consts.specs.Things.{judged_of, told_value}
use Rattle.p4_consts.proofs.rows.told_each.Given as goal

-- the values of the parts that are left, and those found, from the last to the first
abbrev pub invariant-loop-last : goal.invariant-loop-last
invariant-loop-last l =
    map told_by_rules (map judged_of l.rest) ++ map told_value (reverse l.values.items)
    ≡ map told_by_rules (map judged_of l.initial.rest)

abbrev pub decreases-loop-last : goal.decreases-loop-last
decreases-loop-last l = length l.rest
