use Rattle.std.proofs.Common.{◌≡◌, sym, subst, inl, inr, arith, ℕ}
use Rattle.std.proofs.lemmas.Bool.{cases_lt}
use Rattle.std.proofs.lemmas.Option.{slice_get_within}
use Rattle.ll1_engine.specs.Table.{IsRow}
use Rattle.ll1_engine.specs.Conditions.{Meets}
use Rattle.ll1_engine.proofs.ConditionsLemmas.{row_at}
use Rattle.ll1_engine.proofs.check.first_break.Goals as goal

pub returns-in-Some : goal.returns-in-Some
returns-in-Some c =
    let here = row_at c.args.rows.now c.loop-row.row (omega arith) in
    let found = c.in-Some.ensures here.0 here.1 in
    record { r = here.0; row = here.1; breaks = found.0; sooner = found.1; earlier = λ j s a lt h. c.loop-row.invariant j s a lt h }

pub loop-row-preserved : goal.loop-row-preserved
loop-row-preserved c = λ j s a lt h.
    elim (cases_lt j c.loop-row.row) [
      | inl less ↦ c.loop-row.invariant j s a less h
      | inr more ↦ (
          let same : c.loop-row.row ≡ j = omega arith in
          subst (λ (z : ℕ). Meets c.args.rows.now z s a) same (c.in_default.ensures s (subst (λ (z : ℕ). IsRow c.args.rows.now z s) (sym same) h) a))
    ]

pub returns : goal.returns
returns c = λ k r b h. c.loop-row.invariant k r b (let lt = slice_get_within c.args.rows.now k r h in omega arith) h
