use Rattle.std.proofs.Common.{rules, ◌≡◌, ◌+◌, [], ◌∷◌, ◌++◌, take, length, refl, ap, sym, subst, ◌∙◌, arith, length-take}
use Rattle.std.proofs.lemmas.List.{take_more}
use Rattle.std.proofs.lemmas.List.Elements.{All-append, All-nil, All-from_recursion, All-get_or}
use Rattle.std.specs.List.{All, AllByRecursion}
use Rattle.p4_program.specs.Placed.{PlaceFits, IsPlaced}
use Rattle.p4_program.specs.declared.program.Statement.{Statement}
use Rattle.testgen_engine.specs.Skeleton.{head_text, words_in, placed_from, FitsNineBits}
use Rattle.testgen_engine.proofs.PlacedLemmas.{placed_at, placed_push, words_of, words_push, head_words_few, statement_words_few}
use Rattle.testgen_engine.proofs.built.placed.Goals as goal

pub loop-kind-init : goal.loop-kind-init
loop-kind-init c =
    let at : c.words_in-at.result ≡ words_in head_text = c.words_in-at.ensures ∙ ap words_in c.head.ensures in
    record {
      done = c.new-statements.ensures;
      placed = subst (λ ss. All IsPlaced ss) (sym c.new-statements.ensures) (All-nil IsPlaced);
      number = refl;
      at = omega (arith, at);
      few = omega (arith, at, head_words_few);
    }

pub overflow_add-at : goal.overflow_add-at
overflow_add-at c =
    let kinds = c.args.kinds.now in
    let i = c.loop-kind.kind-index in
    let kind = c.kind-item.result in
    let kept = c.loop-kind.invariant in
    let there = All-get_or FitsNineBits kinds i kind c.loop-kind-test.true (All-from_recursion FitsNineBits kinds c.requires.fit) in
    let fits : FitsNineBits kind = subst FitsNineBits (sym c.kind-item.is) there in
    omega (arith, kept.few, c.loop-kind-test.true, c.requires.few, c.statement_words-at.ensures, statement_words_few kind fits)

pub loop-kind-preserved : goal.loop-kind-preserved
loop-kind-preserved c =
    let kinds = c.args.kinds.now in
    let i = c.loop-kind.kind-index in
    let kept = c.loop-kind.invariant in
    let kind = c.kind-item.result in
    let front = take i kinds in
    let more = take_more kinds i kind c.loop-kind-test.true ∙ ap (λ k. front ++ k ∷ []) (sym c.kind-item.is) in
    let there = All-get_or FitsNineBits kinds i kind c.loop-kind-test.true (All-from_recursion FitsNineBits kinds c.requires.fit) in
    let fits : FitsNineBits kind = subst FitsNineBits (sym c.kind-item.is) there in
    let number : c.loop-kind.number ≡ 1 + length front = omega (arith, length-take i kinds, kept.number, c.loop-kind-test.true) in
    let added = placed_at c.args.tokens.now c.loop-kind.number c.loop-kind.at kind in
    let pushed : c.push.new.self ≡ c.loop-kind.statements ++ added ∷ [] =
    c.in_ok-push.ensures.ok ∙ ap (λ place. c.loop-kind.statements ++ record { number = c.loop-kind.number; place = place; kind = kind } ∷ []) c.place_of.ensures in
    let item : Statement = record { number = c.loop-kind.number; place = c.place_of.result; kind = kind } in
    let placed : PlaceFits c.place_of.result = record { line = search (rules); column = search (rules) } in
    let one : AllByRecursion IsPlaced (item ∷ []) = (placed, tt) in
    record {
      done = pushed ∙ (λ j. kept.done j ++ placed_at c.args.tokens.now (number j) (kept.at j) kind ∷ [])
          ∙ sym (placed_push c.args.tokens.now 1 (words_in head_text) front kind) ∙ ap (placed_from c.args.tokens.now 1 (words_in head_text)) (sym more);
      placed = subst (λ ss. All IsPlaced ss) (sym c.in_ok-push.ensures.ok)
          (All-append IsPlaced c.loop-kind.statements (item ∷ []) kept.placed (All-from_recursion IsPlaced (item ∷ []) one));
      number = omega (arith, kept.number);
      at = omega (arith, kept.at, c.statement_words-at.ensures, words_push front kind, ap words_of more);
      few = omega (arith, kept.few, c.statement_words-at.ensures, statement_words_few kind fits);
    }
