use Rattle.std.proofs.Common.{◌<◌, ◌≤◌, ◌++◌, inl, inr, ap, sym, subst, ◌∙◌, length}
use Rattle.std.proofs.lemmas.Bool.{false≢true, cases_lt}
use Rattle.std.specs.Option.{MatchOption}
use Rattle.testgen_engine.specs.declared.skeleton.TheConstants.{MOST_STATEMENTS}
use Rattle.testgen_engine.specs.Statements.{IsBody, IsNoBody}
use Rattle.testgen_engine.proofs.StatementLemmas.{no_skeleton_no_body, no_skeleton_many, skeleton_of_body}
use Rattle.testgen_engine.proofs.skeleton.kinds_in.Goals as goal

pub returns-in_default-2 : goal.returns-in_default-2
returns-in_default-2 c =
    let body = c.in-Some.body.now in
    let none = subst (λ r. MatchOption r (IsNoBody body) (λ kinds. IsBody body kinds)) c.in_default-2.is c.in_ok-kinds.ensures in
    no_skeleton_no_body c.args.text.now body (c.in-Some.ensures ∙ ap (λ xs. xs ++ body) c.head.ensures) none

pub returns-then-are_many : goal.returns-then-are_many
returns-then-are_many c =
    let body = c.in-Some.body.now in
    let is_body = subst (λ r. MatchOption r (IsNoBody body) (λ kinds. IsBody body kinds)) c.in-Some-2.is c.in_ok-kinds.ensures in
    no_skeleton_many c.args.text.now body c.in-Some-2.kinds (c.in-Some.ensures ∙ ap (λ xs. xs ++ body) c.head.ensures) is_body
    (subst (λ kinds. MOST_STATEMENTS < length kinds) c.as_slice.ensures (c.are_many.ensures.0 c.if-are_many.true))

pub returns : goal.returns
returns c =
    let body = c.in-Some.body.now in
    let is_body = subst (λ r. MatchOption r (IsNoBody body) (λ kinds. IsBody body kinds)) c.in-Some-2.is c.in_ok-kinds.ensures in
    let few : length c.as_slice.result.now ≤ MOST_STATEMENTS = elim (cases_lt MOST_STATEMENTS (length c.as_slice.result.now)) [
      | inl many ↦ absurd (false≢true (sym c.if-are_many.false ∙ c.are_many.ensures.1 many))
      | inr few ↦ few
    ] in
    skeleton_of_body c.args.text.now body c.in-Some-2.kinds (c.in-Some.ensures ∙ ap (λ xs. xs ++ body) c.head.ensures) is_body
    (subst (λ kinds. length kinds ≤ MOST_STATEMENTS) c.as_slice.ensures few)
