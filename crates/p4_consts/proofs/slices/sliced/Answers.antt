use Rattle.std.proofs.Common.{ap, ◌∙◌}
use Rattle.p4_rules.specs.Things.{number_of}
use Rattle.p4_rules.specs.Expressions.{bit_value}
use Rattle.p4_consts.specs.Noted.{noted}
use Rattle.p4_consts.specs.Scopes.{scope_in}
use Rattle.p4_consts.specs.Things.{judged_of}
use Rattle.p4_consts.proofs.slices.sliced.Goals as goal

pub returns-clause-value : goal.returns-clause-value
returns-clause-value c =
    let Γ = scope_in c.args.pass c.args.scope.now in
    c.slice_of.ensures.value c.args.pass (bit_value Γ (judged_of c.args.head)) (number_of Γ (judged_of c.args.high)) (number_of Γ (judged_of c.args.low))
    (c.in_ok-value.ensures.value Γ) c.number_of-first.ensures.value c.number_of-last.ensures.value

pub returns-clause-faults : goal.returns-clause-faults
returns-clause-faults c =
    let Γ = scope_in c.args.pass c.args.scope.now in
    let m = number_of Γ (judged_of c.args.high) in
    let l = number_of Γ (judged_of c.args.low) in
    c.slice_of.ensures.faults c.args.pass c.args.faults.now.first (bit_value Γ (judged_of c.args.head)) m l
    (c.in_ok-value.ensures.value Γ) c.number_of-first.ensures.value c.number_of-last.ensures.value
    (c.number_of-last.ensures.faults
    ∙ ap (λ first. noted first l) (c.number_of-first.ensures.faults ∙ ap (λ first. noted first m) (c.in_ok-value.ensures.faults Γ)))
