use Rattle.std.proofs.Common.{◌∙◌, ap, sym, length, arith}
use Rattle.p4_lexer.proofs.GroupEndLemmas.{known_first, known_more, known_all}
use Rattle.p4_lexer.proofs.groups.group_ends.Goals as goal

pub loop-at-init : goal.loop-at-init
loop-at-init c = known_first c.args.text.now c.args.items.now c.new-closed.result c.from_vec-ends.result c.new-closed.ensures (ap length c.from_vec-ends.ensures ∙ sym c.in_ok-vec.field-0.ok.0 ∙ c.in_ok-vec.ensures.len)

pub set-requires : goal.set-requires
set-requires c = omega (arith, c.loop-at.invariant.within, c.loop-at.invariant.filled.sized)

pub loop-at-preserved : goal.loop-at-preserved
loop-at-preserved c =
    known_more c.args.text.now c.args.items.now c.loop-at.at _ c.loop-at.end c.in_ok-end.end c.loop-at.closed c.group_end.new.closed c.loop-at.ends c.set.new.self c.loop-at-test.true c.set.ensures
    (record {
      name = c.in_ok-end.ensures.name;
      opening = c.in_ok-end.ensures.opening;
      closing = c.in_ok-end.ensures.closing;
      neither = c.in_ok-end.ensures.neither;
    })
    c.loop-at.invariant

pub returns : goal.returns
returns c = known_all _ c.loop-at.at c.loop-at.end c.loop-at.closed c.loop-at.ends c.loop-at-test.false c.loop-at.invariant
