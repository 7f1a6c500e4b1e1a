-- Arm by arm.
use Rattle.bit_blaster.proofs.ChoiceLemmas.{has_where, choose_first_true, choose_first_false, choose_second_true, choose_second_false, choose_same, choose_opposite, choose_apart}
use Rattle.std.proofs.Common.{subst, ap, ◌∙◌}
use Rattle.bit_blaster.specs.declared.wire.Wire.TheVariants.{Known}
use Rattle.bit_blaster.specs.declared.wire.Wire.{Wire}
use Rattle.bit_blaster.specs.Netlist.{HasWire}
use Rattle.bit_blaster.proofs.GateLemmas.{ok_along}
use Rattle.bit_blaster.proofs.circuit.Circuit.choose.Goals as goal

pub or-requires-clause-second : goal.or-requires-clause-second
or-requires-clause-second c = has_where c.args.self.now c.not-not_condition.result c.args.b c.where_true-second.result c.where_true-second.ensures c.requires.second

pub and-requires-clause-second : goal.and-requires-clause-second
and-requires-clause-second c = has_where c.args.self.now c.not-not_condition.result c.args.b c.where_true-second.result c.where_true-second.ensures c.requires.second

pub or-requires-in-SecondKnown-true-clause-second : goal.or-requires-in-SecondKnown-true-clause-second
or-requires-in-SecondKnown-true-clause-second c = has_where c.args.self.now c.args.condition c.args.a c.where_true-first.result c.where_true-first.ensures c.requires.first

pub and-requires-in-SecondKnown-false-clause-second : goal.and-requires-in-SecondKnown-false-clause-second
and-requires-in-SecondKnown-false-clause-second c = has_where c.args.self.now c.args.condition c.args.a c.where_true-first.result c.where_true-first.ensures c.requires.first

pub xor-requires-clause-second : goal.xor-requires-clause-second
xor-requires-clause-second c = has_where c.args.self.now c.not-not_condition.result c.args.b c.where_true-second.result c.where_true-second.ensures c.requires.second

pub choose_literal-requires-clause-first : goal.choose_literal-requires-clause-first
choose_literal-requires-clause-first c =
    subst (λ (w : Wire). HasWire c.args.self.now w) c.in-Apart.ensures.0
    (has_where c.args.self.now c.args.condition c.args.a c.where_true-first.result c.where_true-first.ensures c.requires.first)

pub choose_literal-requires-clause-second : goal.choose_literal-requires-clause-second
choose_literal-requires-clause-second c =
    subst (λ (w : Wire). HasWire c.args.self.now w) c.in-Apart.ensures.1
    (has_where c.args.self.now c.not-not_condition.result c.args.b c.where_true-second.result c.where_true-second.ensures c.requires.second)

pub returns-in-FirstKnown-true-clause-gives : goal.returns-in-FirstKnown-true-clause-gives
returns-in-FirstKnown-true-clause-gives c =
    ok_along c.or.result _ _
    (λ r. choose_first_true c.args.self.now c.or.new.self c.args.condition c.not-not_condition.result c.args.a c.args.b
    c.where_true-first.result c.where_true-second.result r c.not-not_condition.ensures c.where_true-first.ensures c.where_true-second.ensures
    (c.in-FirstKnown-true.ensures ∙ ap Known c.in-FirstKnown-true.field-0-test))
    c.or.ensures.gives

pub returns-in-FirstKnown-false-clause-gives : goal.returns-in-FirstKnown-false-clause-gives
returns-in-FirstKnown-false-clause-gives c =
    ok_along c.and.result _ _
    (λ r. choose_first_false c.args.self.now c.and.new.self c.args.condition c.not-not_condition.result c.args.a c.args.b
    c.where_true-first.result c.where_true-second.result r c.not-not_condition.ensures c.where_true-first.ensures c.where_true-second.ensures
    (c.in-FirstKnown-false.ensures ∙ ap Known c.in-FirstKnown-false.field-0-test))
    c.and.ensures.gives

pub returns-in-SecondKnown-true-clause-gives : goal.returns-in-SecondKnown-true-clause-gives
returns-in-SecondKnown-true-clause-gives c =
    ok_along c.or-in-SecondKnown-true.result _ _
    (λ r. choose_second_true c.args.self.now c.or-in-SecondKnown-true.new.self c.args.condition c.not-not_condition.result c.args.a c.args.b
    c.where_true-first.result c.where_true-second.result r c.not-not_condition.ensures c.where_true-first.ensures c.where_true-second.ensures
    (c.in-SecondKnown-true.ensures ∙ ap Known c.in-SecondKnown-true.field-0-test))
    c.or-in-SecondKnown-true.ensures.gives

pub returns-in-SecondKnown-false-clause-gives : goal.returns-in-SecondKnown-false-clause-gives
returns-in-SecondKnown-false-clause-gives c =
    ok_along c.and-in-SecondKnown-false.result _ _
    (λ r. choose_second_false c.args.self.now c.and-in-SecondKnown-false.new.self c.args.condition c.not-not_condition.result c.args.a c.args.b
    c.where_true-first.result c.where_true-second.result r c.not-not_condition.ensures c.where_true-first.ensures c.where_true-second.ensures
    (c.in-SecondKnown-false.ensures ∙ ap Known c.in-SecondKnown-false.field-0-test))
    c.and-in-SecondKnown-false.ensures.gives

pub returns-in-Opposite-clause-gives : goal.returns-in-Opposite-clause-gives
returns-in-Opposite-clause-gives c =
    ok_along c.xor.result _ _
    (λ r. choose_opposite c.args.self.now c.xor.new.self c.args.condition c.not-not_condition.result c.args.a c.args.b
    c.where_true-first.result c.where_true-second.result r c.not-not_condition.ensures c.where_true-first.ensures c.where_true-second.ensures
    c.in-Opposite.ensures)
    c.xor.ensures.gives

pub returns-in-Apart-clause-gives : goal.returns-in-Apart-clause-gives
returns-in-Apart-clause-gives c =
    ok_along c.choose_literal.result _ _
    (λ r. choose_apart c.args.self.now c.choose_literal.new.self c.args.condition c.not-not_condition.result c.args.a c.args.b
    c.where_true-first.result c.where_true-second.result r c.in-Apart.k c.in-Apart.l c.not-not_condition.ensures
    c.where_true-first.ensures c.where_true-second.ensures c.in-Apart.ensures.0 c.in-Apart.ensures.1)
    c.choose_literal.ensures.gives

pub returns-in-Same-clause-gives : goal.returns-in-Same-clause-gives
returns-in-Same-clause-gives c =
    choose_same c.args.self.now c.args.condition c.not-not_condition.result c.args.a c.args.b c.where_true-first.result
    c.where_true-second.result c.not-not_condition.ensures c.where_true-first.ensures c.where_true-second.ensures c.requires.first c.in-Same.ensures
