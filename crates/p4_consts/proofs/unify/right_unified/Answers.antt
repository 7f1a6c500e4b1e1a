use Rattle.std.proofs.Common.{sym, ap, ◌∙◌, refl}
use Rattle.std.specs.Prelude.{option_map}
use Rattle.p4_rules.specs.Casts.{cast_to}
use Rattle.p4_rules.specs.Faults.{Right}
use Rattle.p4_rules.specs.Types.{is_sized}
use Rattle.p4_consts.specs.Noted.{noted, right_of}
use Rattle.p4_consts.specs.Operands.{operand_of}
use Rattle.p4_consts.specs.Pairs.{pair_of}
use Rattle.p4_consts.specs.Scopes.{scope_in}
use Rattle.p4_consts.proofs.NotedLaws.{both_right, both_second, both_noted}
use Rattle.p4_consts.proofs.UnifyLaws.{right_refused, right_taken}
use Rattle.p4_consts.proofs.unify.right_unified.Goals as goal

pub returns-then-not-is_sized-clause-value : goal.returns-then-not-is_sized-clause-value
returns-then-not-is_sized-clause-value c = λ scope.
    let bits = c.in_ok-one.ensures (scope_in c.args.pass scope) in
    let sized = ap is_sized (sym c.type_of-t.ensures) ∙ sym c.is_sized.ensures ∙ c.if-not-is_sized.true in
    sym (ap right_of (right_refused (scope_in c.args.pass scope) (pair_of c.args.pair) (operand_of c.in_ok-one.one) c.requires.value c.requires.integer bits sized))

pub returns-then-not-is_sized-clause-faults : goal.returns-then-not-is_sized-clause-faults
returns-then-not-is_sized-clause-faults c = λ scope.
    let bits = c.in_ok-one.ensures (scope_in c.args.pass scope) in
    let sized = ap is_sized (sym c.type_of-t.ensures) ∙ sym c.is_sized.ensures ∙ c.if-not-is_sized.true in
    c.note.ensures
    ∙ sym (ap (noted c.args.faults.now.first) (right_refused (scope_in c.args.pass scope) (pair_of c.args.pair) (operand_of c.in_ok-one.one) c.requires.value c.requires.integer bits sized))

pub returns-in-Some-clause-value : goal.returns-in-Some-clause-value
returns-in-Some-clause-value c = λ scope.
    let taken = right_taken (scope_in c.args.pass scope) (pair_of c.args.pair) c.type_of-t.result (operand_of c.in_ok-one.one) c.requires.value c.requires.integer
    (c.in_ok-one.ensures (scope_in c.args.pass scope)) c.type_of-t.ensures (sym c.is_sized.ensures ∙ c.if-not-is_sized.false) in
    let cast = sym (c.in_ok-other.ensures.value scope) ∙ ap (option_map operand_of) c.in-Some.is in
    sym (ap right_of taken ∙ both_right (λ a b. (a, b))
    (Right (operand_of c.in_ok-one.one)) (cast_to (scope_in c.args.pass scope) c.type_of-t.result c.args.pair.right.place (operand_of c.args.pair.right.operand)) (operand_of c.in_ok-one.one) (operand_of c.in-Some.other) refl cast)

pub returns-in-Some-clause-faults : goal.returns-in-Some-clause-faults
returns-in-Some-clause-faults c = λ scope.
    let taken = right_taken (scope_in c.args.pass scope) (pair_of c.args.pair) c.type_of-t.result (operand_of c.in_ok-one.one) c.requires.value c.requires.integer
    (c.in_ok-one.ensures (scope_in c.args.pass scope)) c.type_of-t.ensures (sym c.is_sized.ensures ∙ c.if-not-is_sized.false) in
    c.in_ok-other.ensures.faults scope
    ∙ sym (ap (noted c.args.faults.now.first) taken ∙ both_noted (λ a b. (a, b))
    (Right (operand_of c.in_ok-one.one)) (cast_to (scope_in c.args.pass scope) c.type_of-t.result c.args.pair.right.place (operand_of c.args.pair.right.operand)) c.args.faults.now.first)

pub returns-in-None-clause-value : goal.returns-in-None-clause-value
returns-in-None-clause-value c = λ scope.
    let taken = right_taken (scope_in c.args.pass scope) (pair_of c.args.pair) c.type_of-t.result (operand_of c.in_ok-one.one) c.requires.value c.requires.integer
    (c.in_ok-one.ensures (scope_in c.args.pass scope)) c.type_of-t.ensures (sym c.is_sized.ensures ∙ c.if-not-is_sized.false) in
    let cast = sym (c.in_ok-other.ensures.value scope) ∙ ap (option_map operand_of) c.in-None.is in
    sym (ap right_of taken ∙ both_second (λ a b. (a, b))
    (Right (operand_of c.in_ok-one.one)) (cast_to (scope_in c.args.pass scope) c.type_of-t.result c.args.pair.right.place (operand_of c.args.pair.right.operand)) cast)

pub returns-in-None-clause-faults : goal.returns-in-None-clause-faults
returns-in-None-clause-faults c = λ scope.
    let taken = right_taken (scope_in c.args.pass scope) (pair_of c.args.pair) c.type_of-t.result (operand_of c.in_ok-one.one) c.requires.value c.requires.integer
    (c.in_ok-one.ensures (scope_in c.args.pass scope)) c.type_of-t.ensures (sym c.is_sized.ensures ∙ c.if-not-is_sized.false) in
    c.in_ok-other.ensures.faults scope
    ∙ sym (ap (noted c.args.faults.now.first) taken ∙ both_noted (λ a b. (a, b))
    (Right (operand_of c.in_ok-one.one)) (cast_to (scope_in c.args.pass scope) c.type_of-t.result c.args.pair.right.place (operand_of c.args.pair.right.operand)) c.args.faults.now.first)
