use Rattle.std.proofs.Common.{◌≡◌, ◌<◌, List, [], Bool, true, false, refl, Some, length, get_or, ap, sym, subst, ◌∙◌, arith}
use Rattle.std.proofs.lemmas.Bool.{false≢true}
use Rattle.std.proofs.lemmas.List.{get_or_read}
use Rattle.std.proofs.lemmas.Option.{slice_get-get_or}
use Rattle.ll1_engine.specs.declared.grammar.Row.{Row}
use Rattle.ll1_engine.specs.First.{BeginsWith, InFollow}
use Rattle.ll1_engine.proofs.ConditionsLemmas.{row_read, token_step, not_first_row, first_row_here, begins_below}
use Rattle.ll1_engine.proofs.check.begins_and_follows.Goals as goal

pub loop-token-preserved-then-not-first_rows-k : goal.loop-token-preserved-then-not-first_rows-k
loop-token-preserved-then-not-first_rows-k c = λ r h t lt.
    let n = c.loop-token.token in
    let below : n < c.args.size = omega arith in
    let marks = get_or c.args.token_sets.now.first_rows.items n [] in
    let same : c.as_slice-first_rows.result.now ≡ marks = c.as_slice-first_rows.ensures ∙ get_or_read c.args.token_sets.now.first_rows.items n c.index.result.now (let e = c.requires.token_sets.first_row_count in omega arith) c.index.ensures [] in
    token_step (λ u. BeginsWith c.args.rows.now r.right u → InFollow c.args.rows.now r.left (Some u) → ⊥) n t (c.loop-token.invariant r h)
    (λ b f. not_first_row c.args.rows.now c.args.k r n marks c.as_slice-first_rows.result.now (c.requires.token_sets.each n below).first_row_marks h same c.if-not-first_rows-k.true b) lt

pub bounds-follow-rows : goal.bounds-follow-rows
bounds-follow-rows c =
    let n = c.loop-token.token in
    let below : n < c.args.size = omega arith in
    let same : c.as_slice-follow.result.now ≡ get_or c.args.token_sets.now.follows.items n [] = c.as_slice-follow.ensures ∙ get_or_read c.args.token_sets.now.follows.items n c.index-in-loop-token.result.now (let e = c.requires.token_sets.follow_count in omega arith) c.index-in-loop-token.ensures [] in
    let size : length c.as_slice-follow.result.now ≡ c.args.size = ap (length {A = Bool}) same ∙ (c.requires.token_sets.each n below).follow_size in
    let left = (c.requires.below c.args.k (get_or c.args.rows.now c.args.k c.index-rows-k.result) (slice_get-get_or c.args.rows.now c.args.k c.index-rows-k.result c.requires.row)).left in
    omega arith

pub returns-then-follow-rows : goal.returns-then-follow-rows
returns-then-follow-rows c = λ r h.
    let n = c.loop-token.token in
    let below : n < c.args.size = omega arith in
    let sets = c.requires.token_sets.each n below in
    let first_rows : c.as_slice-first_rows.result.now ≡ get_or c.args.token_sets.now.first_rows.items n [] = c.as_slice-first_rows.ensures ∙ get_or_read c.args.token_sets.now.first_rows.items n c.index.result.now (let e = c.requires.token_sets.first_row_count in omega arith) c.index.ensures [] in
    let follow : c.as_slice-follow.result.now ≡ get_or c.args.token_sets.now.follows.items n [] = c.as_slice-follow.ensures ∙ get_or_read c.args.token_sets.now.follows.items n c.index-in-loop-token.result.now (let e = c.requires.token_sets.follow_count in omega arith) c.index-in-loop-token.ensures [] in
    let one : get_or c.args.rows.now c.args.k c.index-rows-k.result ≡ r = sym c.index-rows-k.is ∙ row_read c.args.rows.now c.args.k r c.index-rows-k.result h c.index-rows-k.is in (
      λ f. (
        n,
        first_row_here c.args.rows.now c.args.k r n (get_or c.args.token_sets.now.first_rows.items n []) c.as_slice-first_rows.result.now sets.first_row_marks h first_rows c.if-not-first_rows-k.false,
        (sets.follow_marks r.left).0 (subst (λ (z : List Bool). get_or z r.left false ≡ true) follow (subst (λ (z : Row). get_or c.as_slice-follow.result.now z.left false ≡ true) one c.if-follow-rows.true)),
      ),
      λ b. refl,
    )

pub loop-token-preserved : goal.loop-token-preserved
loop-token-preserved c = λ r h t lt.
    let n = c.loop-token.token in
    let below : n < c.args.size = omega arith in
    let sets = c.requires.token_sets.each n below in
    let follow : c.as_slice-follow.result.now ≡ get_or c.args.token_sets.now.follows.items n [] = c.as_slice-follow.ensures ∙ get_or_read c.args.token_sets.now.follows.items n c.index-in-loop-token.result.now (let e = c.requires.token_sets.follow_count in omega arith) c.index-in-loop-token.ensures [] in
    let one : get_or c.args.rows.now c.args.k c.index-rows-k.result ≡ r = sym c.index-rows-k.is ∙ row_read c.args.rows.now c.args.k r c.index-rows-k.result h c.index-rows-k.is in
    token_step (λ u. BeginsWith c.args.rows.now r.right u → InFollow c.args.rows.now r.left (Some u) → ⊥) n t (c.loop-token.invariant r h)
    (λ b f. false≢true (sym (subst (λ (z : List Bool). get_or z r.left false ≡ false) follow (subst (λ (z : Row). get_or c.as_slice-follow.result.now z.left false ≡ false) one c.if-follow-rows.false)) ∙ (sets.follow_marks r.left).1 f)) lt

pub returns : goal.returns
returns c = λ r h. (
  λ f. absurd (false≢true f),
  λ b. (let below : b.0 < c.args.size = begins_below c.args.size c.args.rows.now c.requires.below c.args.k r h b.0 b.1 in
      absurd (c.loop-token.invariant r h b.0 (omega arith) b.1 b.2)),
)
