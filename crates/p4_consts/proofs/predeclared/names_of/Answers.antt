use Rattle.std.proofs.Common.{rules, ◌+◌, map, drop, refl, sym, ap, ◌∙◌}
use Rattle.std.specs.List.{fold}
use Rattle.std.proofs.lemmas.Option.{slice_get_read}
use Rattle.p4_consts.specs.Predeclared.{with_one_more}
use Rattle.p4_consts.proofs.PredeclaredLaws.{next_entry}
use Rattle.p4_consts.proofs.predeclared.names_of.Goals as goal

pub loop-name-preserved : goal.loop-name-preserved
loop-name-preserved g c =
    let entry = slice_get_read c.args.table.now _ c.loop-name.name-index c.loop-name-item.result refl (search rules) c.loop-name-item.is in
    c.loop-name.invariant
    ∙ (next_entry (λ e. (e.0.now, e.1)) c.loop-name.names c.args.table.now c.loop-name.name-index c.loop-name-item.result entry
    ∙ ap (λ names. fold with_one_more names (map (λ e. (e.0.now, e.1)) (drop (c.loop-name.name-index + 1) c.args.table.now)))
    (ap (λ n. with_one_more c.loop-name.names (n, c.loop-name-item.result.1)) (sym c.as_bytes.ensures.value) ∙ sym c.in_ok-declare.ensures.ok))
