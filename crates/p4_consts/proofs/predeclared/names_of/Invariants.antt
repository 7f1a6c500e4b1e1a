use Rattle.std.proofs.Common.{◌≡◌, map, drop}
use Rattle.std.specs.List.{fold}
use Rattle.p4_consts.specs.Predeclared.{in_order, with_one_more}
use Rattle.p4_consts.proofs.predeclared.names_of.Given as goal

-- what is left goes behind the names so far
abbrev pub invariant-loop-name : goal.invariant-loop-name
invariant-loop-name g l = in_order (map (λ e. (e.0.now, e.1)) l.table)
    ≡ fold with_one_more l.names (map (λ e. (e.0.now, e.1)) (drop l.name-index l.table))
