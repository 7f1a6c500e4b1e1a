use Rattle.std.proofs.Common.{◌≡◌, ℕ, ◌<◌, ◌≤◌, List, length, get_or, refl, ap, sym, subst, inl, inr, ◌∙◌, arith}
use Rattle.std.proofs.lemmas.Bool.{false≢true, cases_lt}
use Rattle.std.proofs.lemmas.Option.{slice_get_read, slice_get_within}
use Rattle.ll1_engine.specs.declared.grammar.Row.{Row}
use Rattle.ll1_engine.specs.Table.{IsRow}
use Rattle.ll1_engine.proofs.TreesLemmas.{same_row}
use Rattle.ll1_engine.proofs.ConditionsLemmas.{LacksPast, stands_from_lacks, lacks_from_stands}
use Rattle.ll1_engine.proofs.check.stands_only_first_in.Goals as goal

pub returns-then-not-lacks_from : goal.returns-then-not-lacks_from
returns-then-not-lacks_from c =
    let x = c.index-rows-j.result in
    let row : IsRow c.args.rows.now c.loop-j.j x = slice_get_read c.args.rows.now (length c.args.rows.now) c.loop-j.j x refl (omega arith) c.index-rows-j.is in
    let right : c.as_slice.result.now ≡ x.right = c.as_slice.ensures ∙ ap (λ (z : Row). z.right) (sym c.index-rows-j.is) in (
      λ f. absurd (false≢true f),
      λ once. absurd (false≢true (sym c.if-not-lacks_from.true ∙ c.lacks_from.ensures.1
          (subst (λ (zs : List ℕ). (i : ℕ) → c.places_free.result ≤ i → i < length zs → get_or zs i 0 ≡ c.args.token → ⊥) (sym right)
          (subst (λ (n : ℕ). (i : ℕ) → n ≤ i → i < length x.right → get_or x.right i 0 ≡ c.args.token → ⊥) (sym c.places_free.ensures) (lacks_from_stands c.args.rows.now c.args.token c.args.k once c.loop-j.j x row))))),
    )

pub loop-j-preserved : goal.loop-j-preserved
loop-j-preserved c = λ j s lt h.
    let x = c.index-rows-j.result in
    let row : IsRow c.args.rows.now c.loop-j.j x = slice_get_read c.args.rows.now (length c.args.rows.now) c.loop-j.j x refl (omega arith) c.index-rows-j.is in
    let right : c.as_slice.result.now ≡ x.right = c.as_slice.ensures ∙ ap (λ (z : Row). z.right) (sym c.index-rows-j.is) in
    let here : LacksPast c.args.token c.args.k c.loop-j.j x =
    subst (λ (n : ℕ). (i : ℕ) → n ≤ i → i < length x.right → get_or x.right i 0 ≡ c.args.token → ⊥) c.places_free.ensures
    (subst (λ (zs : List ℕ). (i : ℕ) → c.places_free.result ≤ i → i < length zs → get_or zs i 0 ≡ c.args.token → ⊥) right (c.lacks_from.ensures.0 c.if-not-lacks_from.false)) in
    elim (cases_lt j c.loop-j.j) [
      | inl less ↦ c.loop-j.invariant j s less h
      | inr more ↦ (
          let same : c.loop-j.j ≡ j = omega arith in
          let one : x ≡ s = same_row c.args.rows.now j x s (subst (λ (z : ℕ). IsRow c.args.rows.now z x) same row) h in
          subst (LacksPast c.args.token c.args.k j) one (subst (λ (z : ℕ). LacksPast c.args.token c.args.k z x) same here))
    ]

pub returns : goal.returns
returns c =
    (λ f. stands_from_lacks c.args.rows.now c.args.token c.args.k (λ j s h. c.loop-j.invariant j s (let lt = slice_get_within c.args.rows.now j s h in omega arith) h), λ once. refl)
