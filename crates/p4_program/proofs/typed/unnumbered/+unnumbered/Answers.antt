use Rattle.std.proofs.Common.{◌≡◌, refl, sym, ap, subst, ◌∙◌, arith, false}
use Rattle.p4_program.specs.Built.{Unnumbered, AllUnnumbered, CasesUnnumbered}
use Rattle.p4_program.specs.Trees.Statements.{statement_of, statements_of, switch_cases_of}
use Rattle.p4_program.proofs.Bodies.{unnumbered_from, unnumbered_each, cases_unnumbered_from, cases_unnumbered_each}
use Rattle.p4_program.proofs.Pairs.{each_here}
use Rattle.p4_program.proofs.Rows.{if_is, switch_is}
use Rattle.p4_program.proofs.typed.unnumbered.+unnumbered.Goals as goal

pub unnumbered-returns-then-all_unnumbered : goal.unnumbered-returns-then-all_unnumbered
unnumbered-returns-then-all_unnumbered t c =
    let whole = ap statement_of c.in-If.is ∙ if_is c.in-If.field-0 c.in-If.field-1 c.in-If.yes c.in-If.no in
    let first = ap statements_of c.as_slice.ensures.value in
    let second = ap statements_of c.as_slice-then-all_unnumbered.ensures.value in (
      λ h.
          subst Unnumbered (sym whole) (
            subst AllUnnumbered first (c.if-all_unnumbered.ensures.0 refl),
            subst AllUnnumbered second (c.all_unnumbered-then-all_unnumbered.ensures.0 h),
          ),
      λ u.
          c.all_unnumbered-then-all_unnumbered.ensures.1
          (subst AllUnnumbered (sym second) (subst Unnumbered whole u).1),
    )

pub unnumbered-returns-else-all_unnumbered : goal.unnumbered-returns-else-all_unnumbered
unnumbered-returns-else-all_unnumbered t c =
    let whole = ap statement_of c.in-If.is ∙ if_is c.in-If.field-0 c.in-If.field-1 c.in-If.yes c.in-If.no in
    let first = ap statements_of c.as_slice.ensures.value in (
      λ h. let no : c.all_unnumbered.result ≡ false = c.if-all_unnumbered.false in absurd (cc),
      λ u. c.all_unnumbered.ensures.1 (subst AllUnnumbered (sym first) (subst Unnumbered whole u).0),
    )

pub unnumbered-returns-in-Switch : goal.unnumbered-returns-in-Switch
unnumbered-returns-in-Switch t c =
    let whole = ap statement_of c.in-Switch.is ∙ switch_is c.in-Switch.field-0 c.in-Switch.cases in
    let cases = ap switch_cases_of c.as_slice-in-Switch.ensures.value in (
      λ h. subst Unnumbered (sym whole) (subst CasesUnnumbered cases (c.cases_unnumbered.ensures.0 h)),
      λ u. c.cases_unnumbered.ensures.1 (subst CasesUnnumbered (sym cases) (subst Unnumbered whole u)),
    )

pub all_unnumbered-returns-then-not-unnumbered : goal.all_unnumbered-returns-then-not-unnumbered
all_unnumbered-returns-then-not-unnumbered t c = (
  λ h. cc,
  λ all.
      c.if-not-unnumbered.ensures.1
      (each_here (λ s. Unnumbered (statement_of s)) c.args.statements.now c.loop-statement.statement-index
      c.statement-item.result c.statement-item.is c.loop-statement-test.true (unnumbered_each c.args.statements.now all)),
)

pub all_unnumbered-returns : goal.all_unnumbered-returns
all_unnumbered-returns t c = (
  λ h. unnumbered_from c.args.statements.now (λ k d below. c.loop-statement.invariant k d (omega arith)),
  λ all. refl,
)

pub cases_unnumbered-returns-then-not-all_unnumbered : goal.cases_unnumbered-returns-then-not-all_unnumbered
cases_unnumbered-returns-then-not-all_unnumbered t c =
    let body = ap statements_of c.as_slice.ensures.value in (
      λ h. cc,
      λ all.
          c.if-not-all_unnumbered.ensures.1
          (subst AllUnnumbered (sym body)
          (each_here (λ s. AllUnnumbered (statements_of s.body.items)) c.args.cases.now c.loop-case.case-index c.case-item.result
          c.case-item.is c.loop-case-test.true (cases_unnumbered_each c.args.cases.now all))),
    )

pub cases_unnumbered-returns : goal.cases_unnumbered-returns
cases_unnumbered-returns t c = (
  λ h. cases_unnumbered_from c.args.cases.now (λ k d below. c.loop-case.invariant k d (omega arith)),
  λ all. refl,
)
