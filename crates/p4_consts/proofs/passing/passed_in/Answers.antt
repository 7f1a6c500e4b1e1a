use Rattle.std.proofs.Common.{ap, ◌∙◌, Some}
use Rattle.std.specs.Prelude.{option_map}
use Rattle.p4_rules.specs.Casts.{cast_to}
use Rattle.p4_rules.specs.Faults.{made_of}
use Rattle.p4_rules.specs.Operands.{core_of}
use Rattle.p4_rules.specs.Things.{value_of}
use Rattle.p4_consts.specs.Operands.{operand_of, placed_of}
use Rattle.p4_consts.specs.Scopes.{scope_in}
use Rattle.p4_consts.specs.Things.{judged_of}
use Rattle.p4_consts.proofs.PartLaws.{goes_on, made_stops, made_goes_on}
use Rattle.p4_consts.proofs.passing.passed_in.Goals as goal

pub returns-in_default-2 : goal.returns-in_default-2
returns-in_default-2 c =
    let Γ = scope_in c.args.pass c.args.scope.now in
    let x = placed_of c.in-Some.field-0 in
    let g = goes_on (value_of (judged_of c.args.judged)) (λ p. made_of (core_of Γ) (cast_to Γ c.args.t p.place p.operand)) x
    c.args.faults.now.first c.value_of.new.faults.first c.cast_to.new.faults.first
    c.value_of.ensures.value (ap (option_map placed_of) c.in-Some.is) c.value_of.ensures.faults
    (made_stops (core_of Γ) (cast_to Γ c.args.t x.place x.operand) c.value_of.new.faults.first c.cast_to.new.faults.first
    (c.in_ok-cast.ensures.value c.args.scope.now) (ap (option_map operand_of) c.in_default-2.is) (c.in_ok-cast.ensures.faults c.args.scope.now)) in
    record { value = g.0; faults = g.1 }

pub returns : goal.returns
returns c =
    let Γ = scope_in c.args.pass c.args.scope.now in
    let x = placed_of c.in-Some.field-0 in
    let g = goes_on (value_of (judged_of c.args.judged)) (λ p. made_of (core_of Γ) (cast_to Γ c.args.t p.place p.operand)) x
    c.args.faults.now.first c.value_of.new.faults.first c.cast_to.new.faults.first
    c.value_of.ensures.value (ap (option_map placed_of) c.in-Some.is) c.value_of.ensures.faults
    (made_goes_on (core_of Γ) (cast_to Γ c.args.t x.place x.operand) (operand_of c.in-Some-2.cast) c.value_of.new.faults.first c.cast_to.new.faults.first
    (c.in_ok-cast.ensures.value c.args.scope.now) (ap (option_map operand_of) c.in-Some-2.is) (c.in_ok-cast.ensures.faults c.args.scope.now)) in
    record { value = ap Some (c.in_ok-core_of.ensures c.args.pass) ∙ g.0; faults = g.1 }
