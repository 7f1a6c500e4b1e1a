-- At each token the way and the brackets give its depth.
use Rattle.std.proofs.Common.{rules, ◌≡◌, ℕ, ◌+◌, ◌<◌, [], ◌∷◌, length, take, Option, MatchOption, sym, subst, arith}
use Rattle.std.proofs.lemmas.List.{length-take-le}
use Rattle.p4_grammar.specs.Depth.{is_opening, is_closing, HasDepth}
use Rattle.p4_grammar.specs.Descent.{depths_ahead}
use Rattle.p4_grammar.proofs.FirstDeepLemmas.{counted_more, read_token, tells_more, next_ahead, depth_here, shallow_more}
use Rattle.p4_grammar.proofs.depth.first_deep.Goals as goal

pub unreachable-requires : goal.unreachable-requires
unreachable-requires c =
    let size : length (take c.args.count c.args.tokens.now) ≡ c.args.count = length-take-le c.args.count c.args.tokens.now c.requires.within in
    tells_more c.args.rows.now c.args.tokens.now c.args.count c.loop-at.at c.requires.within c.requires.told (omega arith) (depths_ahead c.loop-at.descent) c.loop-at.invariant.ahead
    (subst (λ (o : Option ℕ). MatchOption o (depths_ahead c.loop-at.descent ≡ []) (λ d. depths_ahead c.loop-at.descent ≡ d ∷ depths_ahead c.next_depth.new.self)) c.in_default.is c.in_ok-nodes.ensures.told)

pub returns-then-is_deep : goal.returns-then-is_deep
returns-then-is_deep c =
    let size : length (take c.args.count c.args.tokens.now) ≡ c.args.count = length-take-le c.args.count c.args.tokens.now c.requires.within in
    let lt : c.loop-at.at < c.args.count = omega arith in
    let told : depths_ahead c.loop-at.descent ≡ c.in-Some.nodes ∷ depths_ahead c.next_depth.new.self =
    subst (λ (o : Option ℕ). MatchOption o (depths_ahead c.loop-at.descent ≡ []) (λ d. depths_ahead c.loop-at.descent ≡ d ∷ depths_ahead c.next_depth.new.self)) c.in-Some.is c.in_ok-nodes.ensures.told in
    let closed = counted_more is_closing c.args.tokens.now c.loop-at.at c.loop-at.closed c.terminal_of-symbol.result c.from-closed.result c.token-item.result c.is_closing.result
    (omega (arith, c.requires.within)) c.terminal_of-symbol.ensures (read_token c.args.tokens.now c.args.count c.loop-at.at c.token-item.result c.requires.within lt c.token-item.is)
    c.loop-at.invariant.closed c.is_closing.ensures c.from-closed.ensures in
    let here = depth_here c.args.rows.now c.args.tokens.now c.args.count c.loop-at.at c.requires.within c.requires.told lt (depths_ahead c.loop-at.descent) (depths_ahead c.next_depth.new.self)
    c.in-Some.nodes c.loop-at.opened (c.loop-at.closed + c.from-closed.result) c.loop-at.invariant.ahead told c.loop-at.invariant.opened closed in (
      lt,
      record {
        depth = c.saturating_sub.result + c.in-Some.nodes;
        here = subst (λ (n : ℕ). HasDepth c.args.tokens.now c.loop-at.at (n + c.in-Some.nodes)) (sym c.saturating_sub.ensures) here;
        over = c.is_deep.ensures.0 c.if-is_deep.true;
        first = c.loop-at.invariant.shallow;
      },
    )

pub loop-at-preserved : goal.loop-at-preserved
loop-at-preserved c =
    let size : length (take c.args.count c.args.tokens.now) ≡ c.args.count = length-take-le c.args.count c.args.tokens.now c.requires.within in
    let lt : c.loop-at.at < c.args.count = omega arith in
    let told : depths_ahead c.loop-at.descent ≡ c.in-Some.nodes ∷ depths_ahead c.next_depth.new.self =
    subst (λ (o : Option ℕ). MatchOption o (depths_ahead c.loop-at.descent ≡ []) (λ d. depths_ahead c.loop-at.descent ≡ d ∷ depths_ahead c.next_depth.new.self)) c.in-Some.is c.in_ok-nodes.ensures.told in
    let read = read_token c.args.tokens.now c.args.count c.loop-at.at c.token-item.result c.requires.within lt c.token-item.is in
    let closed = counted_more is_closing c.args.tokens.now c.loop-at.at c.loop-at.closed c.terminal_of-symbol.result c.from-closed.result c.token-item.result c.is_closing.result
    (omega (arith, c.requires.within)) c.terminal_of-symbol.ensures read c.loop-at.invariant.closed c.is_closing.ensures c.from-closed.ensures in
    let here = depth_here c.args.rows.now c.args.tokens.now c.args.count c.loop-at.at c.requires.within c.requires.told lt (depths_ahead c.loop-at.descent) (depths_ahead c.next_depth.new.self)
    c.in-Some.nodes c.loop-at.opened (c.loop-at.closed + c.from-closed.result) c.loop-at.invariant.ahead told c.loop-at.invariant.opened closed in
    record {
      on_the_way = c.in_ok-nodes.ensures.on_the_way;
      ahead = next_ahead c.args.rows.now c.args.tokens.now c.args.count c.loop-at.at c.requires.within c.requires.told lt (depths_ahead c.loop-at.descent) (depths_ahead c.next_depth.new.self) c.in-Some.nodes
          c.loop-at.invariant.ahead told;
      opened = counted_more is_opening c.args.tokens.now c.loop-at.at c.loop-at.opened c.terminal_of-symbol.result c.from-opened.result c.token-item.result c.is_opening.result
          (omega (arith, c.requires.within)) c.terminal_of-symbol.ensures read c.loop-at.invariant.opened c.is_opening.ensures c.from-opened.ensures;
      closed = closed;
      few_opened = search rules;
      few_closed = search rules;
      shallow = shallow_more c.args.tokens.now c.loop-at.at (c.saturating_sub.result + c.in-Some.nodes) c.loop-at.invariant.shallow
          (subst (λ (n : ℕ). HasDepth c.args.tokens.now c.loop-at.at (n + c.in-Some.nodes)) (sym c.saturating_sub.ensures) here) (search rules);
    }

pub returns : goal.returns
returns c = λ k depth lt h.
    let size : length (take c.args.count c.args.tokens.now) ≡ c.args.count = length-take-le c.args.count c.args.tokens.now c.requires.within in
    c.loop-at.invariant.shallow k depth (omega arith) h
