use Rattle.std.proofs.Common.{◌≡◌, ap, sym, ◌∙◌, subst}
use Rattle.std.specs.Prelude.{IfOk, option_map}
use Rattle.p4_rules.specs.Things.{Text}
use Rattle.p4_rules.specs.Expressions.{judged_at, slice_within}
use Rattle.p4_consts.specs.Integers.{integer_of}
use Rattle.p4_consts.specs.Noted.{right_of}
use Rattle.p4_consts.specs.Operands.{placed_of}
use Rattle.p4_consts.specs.Scopes.{scope_in}
use Rattle.p4_consts.specs.Things.{thing_of}
use Rattle.p4_consts.proofs.NotedLaws.{with_three_right}
use Rattle.p4_consts.proofs.slices.slice_of.Goals as goal

pub returns-clause-value : goal.returns-clause-value
returns-clause-value c = λ pass p q r e f g.
    let Γ = scope_in pass c.args.scope.now in
    subst (λ w. IfOk c.slice_within.result (λ v. option_map thing_of v ≡ right_of w))
    (sym (with_three_right (λ x m l. slice_within Γ x (judged_at c.args.high Text) m (judged_at c.args.low Text) l) p q r
    (placed_of c.in-Some.placed) (integer_of c.in-Some-first.m) (integer_of c.in-Some-last.l)
    (sym e ∙ ap (option_map placed_of) c.in-Some.is)
    (sym f ∙ ap (option_map integer_of) c.in-Some-first.is)
    (sym g ∙ ap (option_map integer_of) c.in-Some-last.is)))
    (c.slice_within.ensures.value pass)
