use Rattle.std.proofs.Common.{None, refl, sym, subst, ◌++◌, take, drop, length, length-drop, ap, ◌∙◌, arith}
use Rattle.std.proofs.lemmas.List.{length-take-le}
use Rattle.tg_base.specs.declared.place.Span.{Span}
use Rattle.p4_lexer.specs.Places.{place_after}
use Rattle.p4_lexer.specs.FaultSteps.{FaultProgress}
use Rattle.p4_lexer.proofs.LineLemmas.{slice_bytes}
use Rattle.p4_lexer.proofs.ReadLemmas.{place_within}
use Rattle.p4_lexer.proofs.FaultReadLemmas.{nothing_read, goes_on_with, read_all_with}
use Rattle.p4_lexer.proofs.parts.read_text.Goals as goal

pub read_part-requires-clause-line : goal.read_part-requires-clause-line
read_part-requires-clause-line c =
    (place_within c.args.text.now c.loop-at.at c.loop-at.place (omega arith) c.loop-at.invariant.progress.placed).0

pub read_part-requires-clause-column : goal.read_part-requires-clause-column
read_part-requires-clause-column c =
    (place_within c.args.text.now c.loop-at.at c.loop-at.place (omega arith) c.loop-at.invariant.progress.placed).1

pub place_behind-place-requires-clause-line : goal.place_behind-place-requires-clause-line
place_behind-place-requires-clause-line c =
    let at = c.loop-at.at in
    let len = c.in_ok-part.part.len in
    let r = c.in_ok-part.ensures c.loop-at.invariant.progress.scope c.loop-at.invariant.progress.stands in
    let place = place_within c.args.text.now at c.loop-at.place (omega arith) c.loop-at.invariant.progress.placed in
    omega (arith, place.0, r.reads.stood.within, ap length (slice_bytes at len (drop at c.args.text.now)), length-take-le len (drop at c.args.text.now) (omega (arith, r.reads.stood.within, length-drop at c.args.text.now)), c.requires)

pub place_behind-place-requires-clause-column : goal.place_behind-place-requires-clause-column
place_behind-place-requires-clause-column c =
    let at = c.loop-at.at in
    let len = c.in_ok-part.part.len in
    let r = c.in_ok-part.ensures c.loop-at.invariant.progress.scope c.loop-at.invariant.progress.stands in
    let place = place_within c.args.text.now at c.loop-at.place (omega arith) c.loop-at.invariant.progress.placed in
    omega (arith, place.1, r.reads.stood.within, ap length (slice_bytes at len (drop at c.args.text.now)), length-take-le len (drop at c.args.text.now) (omega (arith, r.reads.stood.within, length-drop at c.args.text.now)), c.requires)

pub loop-at-init : goal.loop-at-init
loop-at-init c =
    let text = c.args.text.now in
    let place : Span = record { line = 1; column = 1 } in
    subst (λ events. FaultProgress text 0 place c.new-scope.result events None) (sym c.new-events.ensures) (nothing_read text place c.new-scope.result c.new-scope.ensures refl)

pub loop-at-preserved : goal.loop-at-preserved
loop-at-preserved c =
    let text = c.args.text.now in
    let at = c.loop-at.at in
    let len = c.in_ok-part.part.len in
    let r = c.in_ok-part.ensures c.loop-at.invariant.progress.scope c.loop-at.invariant.progress.stands in
    goes_on_with text at len c.loop-at.place c.place_behind-place.result c.loop-at.scope c.read_part.new.scope c.loop-at.events c.read_part.new.events c.loop-at.fault c.in_ok-part.part.fault c.first_of-fault.result c.loop-at.invariant r
    (c.place_behind-place.ensures (take at text) c.loop-at.invariant.progress.placed ∙ ap (λ xs. place_after (take at text ++ xs)) (slice_bytes at len (drop at text))) c.first_of-fault.ensures

pub returns : goal.returns
returns c = read_all_with c.args.text.now c.loop-at.at c.loop-at.place c.loop-at.scope c.loop-at.events c.loop-at.fault c.loop-at-test.false c.loop-at.invariant
