use Rattle.std.proofs.Common.{◌<◌, length, refl, sym, subst, arith}
use Rattle.std.specs.List.{AllByRecursion}
use Rattle.std.proofs.lemmas.Option.{slice_get_read}
use Rattle.ll1_engine.specs.Table.{IsRow}
use Rattle.ll1_engine.specs.Marks.{marked}
use Rattle.ll1_engine.specs.Relations.{begin_pairs, next_pairs, end_pairs}
use Rattle.ll1_engine.proofs.RelationsLemmas.{begins_represent, next_represent, ends_represent, begins_below, next_below, ends_below, pairs_below, finished}
use Rattle.ll1_engine.proofs.relations.relations_of.Goals as goal

pub push_begins-requires : goal.push_begins-requires
push_begins-requires c =
    let here : IsRow c.args.rows.now c.loop-row.row-index c.row-item.result = slice_get_read c.args.rows.now (length c.args.rows.now) c.loop-row.row-index c.row-item.result refl (omega arith) c.row-item.is in
    subst (AllByRecursion (λ y. y < length c.args.nullable.now)) (sym c.as_slice-right.ensures) (c.requires.below c.loop-row.row-index c.row-item.result here).right

pub push_next-requires : goal.push_next-requires
push_next-requires c =
    let here : IsRow c.args.rows.now c.loop-row.row-index c.row-item.result = slice_get_read c.args.rows.now (length c.args.rows.now) c.loop-row.row-index c.row-item.result refl (omega arith) c.row-item.is in
    subst (AllByRecursion (λ y. y < length c.args.nullable.now)) (sym c.as_slice-right.ensures) (c.requires.below c.loop-row.row-index c.row-item.result here).right

pub push_ends-requires : goal.push_ends-requires
push_ends-requires c =
    let here : IsRow c.args.rows.now c.loop-row.row-index c.row-item.result = slice_get_read c.args.rows.now (length c.args.rows.now) c.loop-row.row-index c.row-item.result refl (omega arith) c.row-item.is in
    subst (AllByRecursion (λ y. y < length c.args.nullable.now)) (sym c.as_slice-right.ensures) (c.requires.below c.loop-row.row-index c.row-item.result here).right

pub returns : goal.returns
returns c =
    let g = c.args.rows.now in
    let n = marked c.args.nullable.now in
    let begins = begins_represent g c.args.nullable.now c.requires.nullable c.loop-row.begins.items (finished (λ r. begin_pairs n r.left r.right) g c.loop-row.row-index c.loop-row.begins.items c.loop-row.invariant.begins (omega arith)) in
    let next = next_represent g c.args.nullable.now c.requires.nullable c.loop-row.next.items (finished (λ r. next_pairs n r.right) g c.loop-row.row-index c.loop-row.next.items c.loop-row.invariant.next (omega arith)) in
    let ends = ends_represent g c.args.nullable.now c.requires.nullable c.loop-row.ends.items (finished (λ r. end_pairs n r.left r.right) g c.loop-row.row-index c.loop-row.ends.items c.loop-row.invariant.ends (omega arith)) in
    let size = length c.args.nullable.now in
    record {
      begins = begins;
      begins_below = pairs_below size _ c.loop-row.begins.items (begins_below size g c.requires.below) begins;
      next = next;
      next_below = pairs_below size _ c.loop-row.next.items (next_below size g c.requires.below) next;
      ends = ends;
      ends_below = pairs_below size _ c.loop-row.ends.items (ends_below size g c.requires.below) ends;
    }
