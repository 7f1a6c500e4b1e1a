use Rattle.std.proofs.Common.{ℕ, ◌+◌, ◌*◌, ◌%◌, ◌^◌, List, ◌++◌, map, take, drop}
use Rattle.bits_core.specs.declared.points.Point.{Point}
use Rattle.value_domain.specs.Cells.{HaveWidth, StandForAll}
use Rattle.value_domain.specs.Extends.{Extends}
use Rattle.domain_tests.proofs.generic.square_all.Given as goal

abbrev pub invariant-loop-i : goal.invariant-loop-i
invariant-loop-i g l = record {
  extends : Extends (g.D.Domain.meaning l.initial.domain) (g.D.Domain.meaning l.domain);
  cells : HaveWidth (g.D.Domain.meaning l.domain) l.cells 8;
  values : (p : Point) (numbers : List ℕ) → (g.D.Domain.meaning l.initial.domain).speaks_of p
      → StandForAll (g.D.Domain.meaning l.initial.domain) l.initial.cells p numbers
      → StandForAll (g.D.Domain.meaning l.domain) l.cells p
      (map (λ n. (n * n % 2 ^ 8 + 1) % 2 ^ 8) (take l.i numbers) ++ drop l.i numbers);
}
