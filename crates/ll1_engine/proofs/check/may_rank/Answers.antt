use Rattle.std.proofs.Common.{◌≡◌, ◌<◌, ◌∷◌, length, drop, get_or, ap, sym, ◌∙◌}
use Rattle.ll1_engine.specs.declared.grammar.Row.{Row}
use Rattle.ll1_engine.proofs.ConditionsLemmas.{row_read, may_rank_match, first_of_right, head_below}
use Rattle.ll1_engine.proofs.check.may_rank.Goals as goal

pub returns : goal.returns
returns c = λ r h.
    let one : c.index-rows-k.result ≡ r = row_read c.args.rows.now c.args.k r c.index-rows-k.result h c.index-rows-k.is in
    let right : c.as_slice-right.result.now ≡ r.right = c.as_slice-right.ensures ∙ ap (λ (z : Row). z.right) (sym c.index-rows-k.is ∙ one) in
    let token = get_or c.as_slice-right.result.now 0 0 in
    let parts : r.right ≡ token ∷ drop 1 c.as_slice-right.result.now = sym right ∙ first_of_right c.as_slice-right.result.now (sym c.is_empty.ensures ∙ c.if-is_empty.false) in
    let below : token < length c.args.tokens.now = head_below (length c.args.tokens.now) r.right token (drop 1 c.as_slice-right.result.now) parts (c.requires.below c.args.k r h).right in
    may_rank_match c.args.rows.now c.args.k r token (drop 1 c.as_slice-right.result.now) c.has_plain_twin.result parts ((c.requires.tokens token below).0 c.if-not-tokens-token.false)
    (c.stands_only_first_in.ensures.0 c.if-not-stands_only_first_in.false) (c.has_plain_twin.ensures r h)
