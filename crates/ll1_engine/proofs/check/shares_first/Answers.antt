use Rattle.std.proofs.Common.{◌≡◌, ◌<◌, List, [], Bool, get_or, sym, subst, ◌∙◌, arith}
use Rattle.std.proofs.lemmas.Bool.{false≢true}
use Rattle.std.proofs.lemmas.List.{get_or_read}
use Rattle.ll1_engine.specs.First.{BeginsWith}
use Rattle.ll1_engine.specs.Analysis.{OtherMarked}
use Rattle.ll1_engine.proofs.ConditionsLemmas.{token_step, not_first_row, begins_below, shares_marked}
use Rattle.ll1_engine.proofs.check.shares_first.Goals as goal

pub loop-token-preserved-then-not-first_rows-k : goal.loop-token-preserved-then-not-first_rows-k
loop-token-preserved-then-not-first_rows-k c = λ r h t lt.
    let n = c.loop-token.token in
    let below : n < c.args.size = omega arith in
    let marks = get_or c.args.token_sets.now.first_rows.items n [] in
    let same : c.as_slice-first_rows.result.now ≡ marks = c.as_slice-first_rows.ensures ∙ get_or_read c.args.token_sets.now.first_rows.items n c.index.result.now (let e = c.requires.token_sets.first_row_count in omega arith) c.index.ensures [] in
    token_step (λ u. BeginsWith c.args.rows.now r.right u → OtherMarked c.args.rows.now c.args.k r (get_or c.args.token_sets.now.first_rows.items u []) → ⊥) n t (c.loop-token.invariant r h)
    (λ b o. not_first_row c.args.rows.now c.args.k r n marks c.as_slice-first_rows.result.now (c.requires.token_sets.each n below).first_row_marks h same c.if-not-first_rows-k.true b) lt

pub loop-token-preserved : goal.loop-token-preserved
loop-token-preserved c = λ r h t lt.
    let n = c.loop-token.token in
    let marks = get_or c.args.token_sets.now.first_rows.items n [] in
    let same : c.as_slice-first_rows.result.now ≡ marks = c.as_slice-first_rows.ensures ∙ get_or_read c.args.token_sets.now.first_rows.items n c.index.result.now (let e = c.requires.token_sets.first_row_count in omega arith) c.index.ensures [] in
    token_step (λ u. BeginsWith c.args.rows.now r.right u → OtherMarked c.args.rows.now c.args.k r (get_or c.args.token_sets.now.first_rows.items u []) → ⊥) n t (c.loop-token.invariant r h)
    (λ b o. false≢true (sym c.if-other_marked.false ∙ (c.other_marked.ensures r h).1 (subst (λ (m : List Bool). OtherMarked c.args.rows.now c.args.k r m) (sym same) o))) lt

pub returns : goal.returns
returns c = λ r h. (
  λ f. absurd (false≢true f),
  λ s. (let below : s.token < c.args.size = begins_below c.args.size c.args.rows.now c.requires.below c.args.k r h s.token s.here in
      absurd (c.loop-token.invariant r h s.token (omega arith) s.here (shares_marked c.args.rows.now c.args.k r (get_or c.args.token_sets.now.first_rows.items s.token []) s (c.requires.token_sets.each s.token below).first_row_marks))),
)
