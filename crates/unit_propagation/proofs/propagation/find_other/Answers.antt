-- A literal that is the one to leave out, or is false, goes to those before the index.
use Rattle.std.proofs.Common.{◌≢◌, ◌+◌, not, get_or, take, sym, ◌∙◌, ap, subst}
use Rattle.std.specs.Prelude.{All}
use Rattle.std.proofs.lemmas.List.{take_more, take_all}
use Rattle.std.proofs.lemmas.List.Elements.{All-push}
use Rattle.std.proofs.lemmas.Bool.{both_ways}
use Rattle.cnf_core.specs.declared.formula.Lit.{Lit}
use Rattle.unit_propagation.proofs.PairLemmas.{differ_eq}
use Rattle.unit_propagation.specs.Units.{IsFalse}
use Rattle.unit_propagation.proofs.propagation.find_other.Goals as goal
use Rattle.unit_propagation.proofs.propagation.find_other.Goals.{else-ne-via-then-ne+else-not-is_false, else-ne-via-else-ne}

pub loop-l-preserved : goal.loop-l-preserved
loop-l-preserved c =
    let clause = c.args.clause.now in
    let i = c.loop-l.l-index in
    let trail = c.args.assignment.now.trail in
    let x = c.l-item.result in
    let push : (x ≢ c.args.other → IsFalse trail x) → All (λ k. k ≢ c.args.other → IsFalse trail k) (take (i + 1) clause) = λ h.
    subst (All (λ k. k ≢ c.args.other → IsFalse trail k)) (sym (take_more clause i x c.loop-l-test.true))
    (All-push (λ k. k ≢ c.args.other → IsFalse trail k) (take i clause) (get_or clause i x) c.loop-l.invariant (subst (λ (k : Lit). k ≢ c.args.other → IsFalse trail k) c.l-item.is h)) in
    elim c.else-ne.branch [
      | else-ne-via-then-ne+else-not-is_false w ↦ push (λ _. w.is_false.ensures.0 (w.if-not-is_false.false))
      | else-ne-via-else-ne w ↦ push (λ differs. absurd (both_ways c.ne.result w.if-ne.false (c.ne.ensures ∙ ap not (differ_eq x c.args.other differs))))
    ]

pub returns-clause-none : goal.returns-clause-none
returns-clause-none c =
    subst (All (λ k. k ≢ c.args.other → IsFalse c.args.assignment.now.trail k)) (take_all c.loop-l.l-index c.args.clause.now c.loop-l-test.false) c.loop-l.invariant
