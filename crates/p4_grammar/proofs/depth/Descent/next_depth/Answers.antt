-- The part on top gives its count, or takes the next row.
use Rattle.std.proofs.Common.{◌∙◌, sym, drop, length, arith, ◌<◌}
use Rattle.p4_grammar.proofs.DescentLemmas.{told_nothing, told_word, told_last, told_without, told_form, entered_node}
use Rattle.p4_grammar.proofs.depth.Descent.next_depth.Goals as goal

pub returns-then-part-ge-FORM_COUNT-clause-told : goal.returns-then-part-ge-FORM_COUNT-clause-told
returns-then-part-ge-FORM_COUNT-clause-told c =
    sym c.loop-part.invariant.same
    ∙ told_word c.loop-part.self.rows.now c.loop-part.self.next_row c.loop-part.self.parts.items c.pop.new.self.items c.in-Some.part c.in-Some.ensures.items c.if-part-ge-FORM_COUNT.true

pub returns-in_default-get-clause-told : goal.returns-in_default-get-clause-told
returns-in_default-get-clause-told c =
    sym c.loop-part.invariant.same
    ∙ told_last c.loop-part.self.rows.now c.loop-part.self.next_row c.loop-part.self.parts.items c.pop.new.self.items c.in-Some.part c.in-Some.ensures.items c.if-part-ge-FORM_COUNT.false
    c.in_default-get.ensures.lookup.3

pub returns-in_default-get-2-clause-told : goal.returns-in_default-get-2-clause-told
returns-in_default-get-2-clause-told c =
    sym c.loop-part.invariant.same
    ∙ told_without c.loop-part.self.rows.now c.loop-part.self.next_row c.loop-part.self.parts.items c.pop.new.self.items c.in-Some.part c.in-Some.ensures.items
    c.in-Some-get.number.now c.in-Some-get.ensures.lookup.3.0 c.in-Some-get.ensures.lookup.1 c.loop-part.self.grammar.now c.loop-part.invariant.on_the_way.known c.if-part-ge-FORM_COUNT.false
    c.in_default-get-2.ensures.lookup.3

pub loop-part-preserved : goal.loop-part-preserved
loop-part-preserved c = record {
  same = told_form c.loop-part.self.rows.now c.loop-part.self.next_row c.loop-part.self.parts.items c.pop.new.self.items c.in-Some.part c.in-Some.ensures.items
      c.in-Some-get.number.now c.in-Some-get.ensures.lookup.3.0 c.in-Some-get.ensures.lookup.1 c.loop-part.self.grammar.now c.in-Some-get-2.row.now c.push_parts.new.parts.items
      c.loop-part.invariant.on_the_way.known c.if-part-ge-FORM_COUNT.false c.in-Some-get-2.ensures.lookup.3.0 (c.in-Some-get-2.ensures.lookup.3.1 _) c.in_ok-push_parts.ensures
      ∙ c.loop-part.invariant.same;
  on_the_way = record {
    known = c.loop-part.invariant.on_the_way.known;
    within = (let lt : c.loop-part.self.next_row < length c.loop-part.self.rows.now = c.in-Some-get.ensures.lookup.3.0 in omega arith);
    entered = entered_node c.loop-part.self.rows.now c.loop-part.self.next_row c.loop-part.self.parts.items c.pop.new.self.items c.in-Some.part c.in-Some.ensures.items
        c.loop-part.invariant.on_the_way.entered c.in-Some-get-2.row.now c.push_parts.new.parts.items c.in_ok-push_parts.ensures;
  };
}

pub returns-clause-told : goal.returns-clause-told
returns-clause-told c =
    sym c.loop-part.invariant.same ∙ told_nothing (drop c.loop-part.self.next_row c.loop-part.self.rows.now) c.loop-part.self.parts.items
    (omega (arith, c.in_default.ensures.cases.0, c.loop-part.self.parts.ok.0))
