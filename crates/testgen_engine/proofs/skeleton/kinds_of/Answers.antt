use Rattle.std.proofs.Common.{◌++◌, ap, sym, subst, ◌∙◌}
use Rattle.std.proofs.lemmas.Bool.{false≢true}
use Rattle.std.proofs.lemmas.Slice.Eq.{bytes_eq-Decides}
use Rattle.std.specs.List.{flat_map}
use Rattle.std.specs.Option.{MatchOption}
use Rattle.testgen_engine.specs.Statements.{IsBody, IsNoBody}
use Rattle.testgen_engine.specs.Skeleton.{statement_text}
use Rattle.testgen_engine.proofs.StatementLemmas.{no_body}
use Rattle.testgen_engine.proofs.skeleton.kinds_of.Goals as goal
use Rattle.testgen_engine.proofs.skeleton.kinds_of.Goals.{then-eq, else-eq}

pub returns : goal.returns
returns c =
    let kept = c.loop-kind.invariant in
    let test = bytes_eq-Decides c.loop-kind.rest.now c.tail.result.now in
    elim c.if-eq.branch [
      | then-eq w ↦
          let same = test.0 (sym c.eq.ensures ∙ w.if-eq.true) ∙ c.tail.ensures in
          subst (λ r. MatchOption r (IsNoBody c.args.body.now) (λ kinds. IsBody c.args.body.now kinds)) (sym w.result-is)
          (record { fit = kept.fit; whole = kept.whole ∙ ap (λ xs. flat_map statement_text c.loop-kind.kinds ++ xs) same })
      | else-eq w ↦
          subst (λ r. MatchOption r (IsNoBody c.args.body.now) (λ kinds. IsBody c.args.body.now kinds)) (sym w.result-is)
          (no_body c.args.body.now c.loop-kind.kinds c.loop-kind.rest.now kept.fit kept.whole c.in_default.ensures.statement
          (λ same. false≢true (sym w.if-eq.false ∙ c.eq.ensures ∙ test.1 (same ∙ sym c.tail.ensures))))
    ]
