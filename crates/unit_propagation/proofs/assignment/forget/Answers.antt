-- One cause more is as if propagation had not ended there.
use Rattle.std.proofs.Common.{◌≡◌, ◌<◌, ℕ, false, Option, None, length, get_or, ap, sym, ◌∙◌, arith, inl, inr}
use Rattle.std.proofs.Math.ListN.{set}
use Rattle.std.proofs.lemmas.Bool.{cases_eq, both_ways}
use Rattle.std.proofs.lemmas.List.{map-set, set-get_or, length-set, get_or-set_same, get_or-set_other}
use Rattle.unit_propagation.specs.declared.assignment.Cause.{Cause}
use Rattle.unit_propagation.specs.Trail.{reasons_of}
use Rattle.unit_propagation.proofs.ListLemmas.{map_read}
use Rattle.unit_propagation.proofs.assignment.forget.Goals as goal

pub loop-behind-preserved : goal.loop-behind-preserved
loop-behind-preserved c =
    let causes = c.loop-behind.causes.items in
    let i = c.loop-behind.behind in
    let inv = c.loop-behind.invariant in
    let was = c.index_mut.result.now in
    let new : Cause = record { reason = was.reason; ended = false } in
    let inside : i < length causes = omega (arith, c.loop-behind-test.true, inv.size, c.len-behind-end.ensures, c.args.causes.now.ok.0) in
    let read : was.reason ≡ get_or (reasons_of causes) i None = map_read (λ (k : Cause). k.reason) causes i was None inside c.index_mut.ensures.value in
    let same : reasons_of (set causes i new) ≡ reasons_of causes =
    map-set (λ (k : Cause). k.reason) causes i new ∙ ap (λ (r : Option ℕ). set (reasons_of causes) i r) read ∙ set-get_or (reasons_of causes) i None in
    record {
      size = length-set causes i new ∙ inv.size;
      reasons = same ∙ inv.reasons;
      ends = λ k d below is. elim (cases_eq k i) [
        | inl at ↦ absurd (both_ways (get_or (set causes i new) k d).ended (ap (λ (j : ℕ). (get_or (set causes i new) j d).ended) at ∙ ap (λ (x : Cause). x.ended) (get_or-set_same causes i new d inside)) is)
        | inr other ↦
            let before = inv.ends k d (omega (arith, length-set causes i new)) (ap (λ (x : Cause). x.ended) (sym (get_or-set_other causes i k new d other)) ∙ is) in
            (elim before.0 [ inl few ↦ inl few | inr past ↦ inr (omega arith) ], before.1)
      ];
      capacity = inv.capacity;
    }

pub returns-clause-ends : goal.returns-clause-ends
returns-clause-ends c = λ n d below is.
    let kept = c.loop-behind.invariant.ends n d below is in (
      elim kept.0 [
        | inl few ↦ few
        | inr past ↦ absurd (omega (arith, c.loop-behind-test.false, c.len-behind-end.ensures, c.loop-behind.invariant.size, c.args.causes.now.ok.0))
      ],
      kept.1,
    )
