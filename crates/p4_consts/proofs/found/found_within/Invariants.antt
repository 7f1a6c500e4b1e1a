use Rattle.std.proofs.Common.{◌≡◌, map, reverse, length}
use Rattle.p4_rules.specs.Scopes.{found_within as found_within_by_rules}
use Rattle.p4_consts.specs.Scopes.{told_names}
use Rattle.p4_consts.proofs.found.found_within.Given as goal

-- what is found in the scopes that are left is found in all
abbrev pub invariant-loop-names : goal.invariant-loop-names
invariant-loop-names l = found_within_by_rules (reverse (map told_names l.inner)) l.name ≡ found_within_by_rules (reverse (map told_names l.left)) l.name

abbrev pub decreases-loop-names : goal.decreases-loop-names
decreases-loop-names l = length l.left
