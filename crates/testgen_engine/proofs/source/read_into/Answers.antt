use Rattle.std.proofs.Common.{◌≡◌, ◌+◌, ◌-◌, ◌≤◌, length, true, false, inl, inr, refl, sym, ◌∙◌, subst, arith, length-take, rules}
use Rattle.std.proofs.lemmas.Slice.{take-put_mid_below}
use Rattle.testgen_engine.specs.Source.{HasRead}
use Rattle.testgen_engine.proofs.SourceLemmas.{room_is, part_written, opened_read, read_nothing, read_more, still_readable, stops, stops_inside}
use Rattle.testgen_engine.proofs.source.read_into.Goals as goal

pub loop-len-init : goal.loop-len-init
loop-len-init g c = record {
  within = omega arith;
  room = c.requires;
  read = opened_read _ _ _ (c.in_ok-open.ensures.asked) c.in_ok-open.ensures.opened;
  readable = c.in_ok-open.ensures.readable;
  faults = search rules;
  stays = c.in_ok-open.ensures.stays;
}

pub returns-then-count-eq0-clause-read : goal.returns-then-count-eq0-clause-read
returns-then-count-eq0-clause-read g c =
    let kept = c.loop-len.invariant in
    let read = c.in_ok-count.ensures in
    let same = take-put_mid_below c.loop-len.len (length c.loop-len.buffer - c.loop-len.len) c.loop-len.buffer c.read.new.into c.loop-len.len (omega arith) kept.within in
    record {
      ended = true;
      read = subst (λ bytes. HasRead (g.D.Desk.moment c.args.desk.now) (g.D.Desk.moment c.read.new.self) c.args.name.now bytes true) (sym same)
          (read_nothing _ _ _ _ _ c.read.new.into c.in_ok-count.count kept.read read.asked_stays read.moved c.if-count-eq0.true read.readable);
      whole = inl refl;
    }

pub loop-len-preserved : goal.loop-len-preserved
loop-len-preserved g c =
    let kept = c.loop-len.invariant in
    let read = c.in_ok-count.ensures in
    let len = c.loop-len.len in
    let count = c.in_ok-count.count in
    let room = length c.loop-len.buffer - len in
    let fits : len + room ≡ length c.loop-len.buffer = omega arith in
    let whole = room_is len room c.loop-len.buffer fits in
    let part = part_written len count room c.loop-len.buffer c.read.new.into fits (c.read.auto.into ∙ whole) (omega (arith, read.within, whole)) in
    let some : count ≤ length c.read.new.into = omega (arith, read.within, c.read.auto.into) in
    record {
      within = omega (arith, part.1, read.within, whole);
      room = part.1 ∙ kept.room;
      read = subst (λ bytes. HasRead (g.D.Desk.moment c.args.desk.now) (g.D.Desk.moment c.read.new.self) c.args.name.now bytes false) (sym part.0)
          (read_more _ _ _ _ _ c.read.new.into count kept.read read.asked_stays read.moved c.if-count-eq0.false some (omega (arith, read.within, whole, kept.room, length-take len c.loop-len.buffer)));
      readable = still_readable count _ c.if-count-eq0.false read.readable;
      faults = search rules;
      stays = search rules;
    }

pub returns-clause-read : goal.returns-clause-read
returns-clause-read g c =
    let kept = c.loop-len.invariant in
    record { ended = false; read = kept.read; whole = inr (omega (arith, kept.room, kept.within, c.loop-len-test.false, length-take c.loop-len.len c.loop-len.buffer)) }

pub returns-in_err-count-clause-read : goal.returns-in_err-count-clause-read
returns-in_err-count-clause-read g c =
    let stayed = c.in_err-count.ensures in
    stops _ _ c.args.name.now c.in_err-count.field-0.0 _ c.from_residual-in_err-count.result c.from_residual-in_err-count.ensures.1
    (stops_inside _ _ _ c.args.name.now _ c.in_err-count.field-0.0 c.loop-len.invariant.read stayed.asked_stays stayed.opened_stays)
