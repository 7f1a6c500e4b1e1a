use Rattle.std.proofs.Common.{ℕ, ◌+◌, ◌*◌, ◌%◌, ◌^◌, ◌<◌, ◌≤◌, length, arith, add-one}
use Rattle.value_domain.proofs.ExtendsLaws.{extends_trans}
use Rattle.value_domain.proofs.CellsLaws.{cells_of_width, have_width_at, have_width_set, have_width_extends, stand_for_all_length, stand_for_all_at, stand_for_all_set, stand_for_all_extends}
use Rattle.domain_tests.proofs.EachLemmas.{next_of_each, write_of_each, end_of_each}
use Rattle.domain_tests.proofs.generic.square_all.Goals as goal

squared : ℕ → ℕ
squared n = (n * n % 2 ^ 8 + 1) % 2 ^ 8

pub square_and_one-requires : goal.square_and_one-requires
square_and_one-requires g c = record { cell = have_width_at _ _ c.loop-i.invariant.cells (omega arith) }

pub loop-i-preserved : goal.loop-i-preserved
unfolding squared
loop-i-preserved g c =
    let i = c.loop-i.i in
    let step = c.square_and_one.ensures.extends in
    record {
      extends = extends_trans c.loop-i.invariant.extends step;
      cells = have_width_set _ _ (have_width_extends step c.loop-i.invariant.cells) c.in_ok-cells.ensures.cell;
      values = λ p numbers spoken stand.
          let before = c.loop-i.invariant.values p numbers spoken stand in
          let long : i < length numbers = omega (arith, stand_for_all_length stand) in
          let read = stand_for_all_at i c.index-cells-i.result 0 before (omega arith) in
          let value = c.in_ok-cells.ensures.value p _ ((c.loop-i.invariant.extends.points p).1 spoken)
          (rw (next_of_each squared numbers i long) at read) in
          let after = stand_for_all_set i _ _ (stand_for_all_extends step (cells_of_width c.loop-i.invariant.cells) before) value in
          let written = rw (write_of_each squared numbers i long) at after in
          rw add-one written;
    }

pub returns-clause-values : goal.returns-clause-values
unfolding squared
returns-clause-values g c p numbers spoken stand =
    let past : length numbers ≤ c.loop-i.i = omega (arith, stand_for_all_length stand) in
    rw (end_of_each squared numbers c.loop-i.i past) at (c.loop-i.invariant.values p numbers spoken stand)
