use Rattle.std.proofs.Common.{◌≡◌, refl, sym, ap, ◌∙◌, subst}
use Rattle.std.specs.Prelude.{IfOk, OnOk, option_map}
use Rattle.p4_rules.specs.Operators.{each, is_of_bits, with_bits}
use Rattle.p4_consts.specs.Concatenations.{joined}
use Rattle.p4_consts.specs.Noted.{noted, right_of}
use Rattle.p4_consts.specs.Operands.{operand_of}
use Rattle.p4_consts.specs.Pairs.{pair_of}
use Rattle.p4_consts.specs.Scopes.{scope_in}
use Rattle.p4_consts.proofs.GuardLaws.{guarded, guarded_noted}
use Rattle.p4_consts.proofs.concatenations.concatenation.Goals as goal

pub returns-in-Some-clause-value : goal.returns-in-Some-clause-value
returns-in-Some-clause-value c = λ pass.
    let Γ = scope_in pass c.args.scope.now in
    let right = ap (λ q. right_of (each is_of_bits q)) (sym (c.in_ok-bits.ensures Γ)) ∙ sym c.each.ensures.value ∙ ap (option_map pair_of) c.in-Some.is in
    subst (λ q. IfOk c.joined.result (λ o. option_map operand_of o ≡ right_of q))
    (guarded (each is_of_bits (with_bits Γ (pair_of c.args.pair))) (joined Γ c.args.goes_on c.args.sign) (pair_of c.in-Some.both)
    (joined Γ c.args.goes_on c.args.sign (pair_of c.in-Some.both)) right refl)
    (c.joined.ensures.value pass)

pub returns-in-Some-clause-faults : goal.returns-in-Some-clause-faults
returns-in-Some-clause-faults c = λ pass.
    let Γ = scope_in pass c.args.scope.now in
    let right = ap (λ q. right_of (each is_of_bits q)) (sym (c.in_ok-bits.ensures Γ)) ∙ sym c.each.ensures.value ∙ ap (option_map pair_of) c.in-Some.is in
    let now = c.each.ensures.faults ∙ ap (λ q. noted c.args.faults.now.first (each is_of_bits q)) (c.in_ok-bits.ensures Γ) in
    subst (λ first. OnOk c.joined.result (c.joined.new.faults.first ≡ first))
    (guarded_noted (each is_of_bits (with_bits Γ (pair_of c.args.pair))) (joined Γ c.args.goes_on c.args.sign) (pair_of c.in-Some.both)
    (joined Γ c.args.goes_on c.args.sign (pair_of c.in-Some.both)) c.args.faults.now.first c.each.new.faults.first right refl now)
    (c.joined.ensures.faults pass)
