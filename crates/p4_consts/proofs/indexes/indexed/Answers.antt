use Rattle.std.proofs.Common.{◌≡◌, sym, subst}
use Rattle.std.specs.Prelude.{IfOk, option_map}
use Rattle.p4_rules.specs.Operands.{type_of}
use Rattle.p4_rules.specs.Things.{value_of}
use Rattle.p4_rules.specs.Expressions.{indexed_in}
use Rattle.p4_consts.specs.Noted.{right_of}
use Rattle.p4_consts.specs.Operands.{placed_of}
use Rattle.p4_consts.specs.Scopes.{scope_in}
use Rattle.p4_consts.specs.Things.{thing_of, judged_of}
use Rattle.p4_consts.proofs.NotedLaws.{with_both_right}
use Rattle.p4_consts.proofs.indexes.indexed.Goals as goal

pub returns-clause-value : goal.returns-clause-value
returns-clause-value c =
    let Γ = scope_in c.args.pass c.args.scope.now in
    let x = placed_of c.in-Some.placed in
    let i = placed_of c.in-Some-number.at in
    let of_stack = subst (λ t. IfOk c.indexed_in.result (λ v. option_map thing_of v ≡ right_of (indexed_in Γ t c.args.whole x i)))
    c.type_of-t.ensures c.indexed_in.ensures.value in
    subst (λ q. IfOk c.indexed_in.result (λ v. option_map thing_of v ≡ right_of q))
    (sym (with_both_right (λ y j. indexed_in Γ (type_of y.operand) c.args.whole y j) (value_of (judged_of c.args.head)) (value_of (judged_of c.args.index))
    x i (sym c.in-Some.ensures.value) (sym c.in-Some-number.ensures.value)))
    of_stack
