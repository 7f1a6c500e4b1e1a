-- Each literal that was passed is this one, and so are all of them at the end.
use Rattle.std.proofs.Common.{◌≡◌, get_or, not, ap, ◌∙◌, sym, subst, refl, inl, inr, take}
use Rattle.std.specs.Prelude.{All}
use Rattle.std.proofs.lemmas.List.{take_more, take_all}
use Rattle.std.proofs.lemmas.List.Elements.{All-push}
use Rattle.std.proofs.lemmas.Bool.{both_ways}
use Rattle.cnf_core.specs.declared.formula.Lit.{Lit}
use Rattle.cnf_core.proofs.Literals.{lit-cases}
use Rattle.unit_propagation.proofs.PairLemmas.{differ_eq}
use Rattle.unit_propagation.proofs.choice.differing.Goals as goal

pub loop-k-preserved : goal.loop-k-preserved
loop-k-preserved c =
    let clause = c.args.clause.now in
    let i = c.loop-k.k-index in
    let x = c.k-item.result in
    let same : x ≡ c.args.l = elim (lit-cases x c.args.l) [
      | inl is ↦ is
      | inr differs ↦ absurd (both_ways c.ne.result c.if-ne.false (c.ne.ensures ∙ ap not (differ_eq x c.args.l differs)))
    ] in
    subst (All (λ (m : Lit). m ≡ c.args.l)) (sym (take_more clause i x c.loop-k-test.true))
    (All-push (λ (m : Lit). m ≡ c.args.l) (take i clause) (get_or clause i x) c.loop-k.invariant (sym c.k-item.is ∙ same))

pub returns : goal.returns
returns c = inr (refl, subst (All (λ (m : Lit). m ≡ c.args.l)) (take_all c.loop-k.k-index c.args.clause.now c.loop-k-test.false) c.loop-k.invariant)
