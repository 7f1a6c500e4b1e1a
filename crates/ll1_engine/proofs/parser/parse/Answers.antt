use Rattle.std.proofs.Common.{◌≡◌, ℕ, List, [], ◌∷◌, ◌++◌, Some, None, drop, get_or, sym, ap, ◌∙◌, subst}
use Rattle.std.specs.Prelude.{is_ok}
use Rattle.std.proofs.lemmas.Option.{get_or_from_slice_get}
use Rattle.std.proofs.lemmas.Bool.{false≢true, cond-true}
use Rattle.ll1_engine.specs.declared.fault.Stop.{Stop}
use Rattle.ll1_engine.specs.declared.grammar.Row.{Row}
use Rattle.ll1_engine.specs.Prediction.{Predicts}
use Rattle.ll1_engine.specs.Parse.{first_or, IsTreeOf, StopsAt}
use Rattle.ll1_engine.specs.Open.{TellTrees}
use Rattle.ll1_engine.proofs.UnderWayLemmas.{IsUnderWay, ok_gives, of_stop, predicted, under_way_start, under_way_token, under_way_row, stop_at_token, stop_at_symbol, stop_at_end, tree_at_end, only_at_end}
use Rattle.ll1_engine.proofs.parser.parse.Goals as goal

pub loop-symbol-init : goal.loop-symbol-init
loop-symbol-init g c =
    let e = ok_gives c.push_all.result _ c.in_ok-map_err.ensures.variant c.push_all.ensures in
    subst (λ (zs : List ℕ). IsUnderWay g.row.S c.args.checked.now c.args.tokens.now 0 zs c.push_all.new.self) (sym c.new-rows.ensures.items)
    (under_way_start g.row.S g.row.R c.args.checked.now c.rows-table.ensures.good c.rows-table.ensures.fits c.args.tokens.now c.requires c.push_all.new.self
    (e ∙ ap (λ (zs : List ℕ). 0 ∷ zs) c.new-stack.ensures))

pub returns-then-not-stands-clause-begun : goal.returns-then-not-stands-clause-begun
returns-then-not-stands-clause-begun g c = λ stop h.
    of_stop (λ (s : Stop). TellTrees c.args.checked.now s.rows c.args.tokens.now s.at) c.loop-symbol.at c.loop-symbol.rows.items c.stop.result stop c.stop.ensures h
    c.loop-symbol.invariant.told

pub returns-then-not-stands-clause-stop : goal.returns-then-not-stands-clause-stop
returns-then-not-stands-clause-stop g c = λ stop h.
    of_stop (λ (s : Stop). StopsAt c.args.checked.now c.args.tokens.now s.at) c.loop-symbol.at c.loop-symbol.rows.items c.stop.result stop c.stop.ensures h
    (stop_at_token g.row.S g.row.R c.args.checked.now c.rows-table.ensures.good c.rows-table.ensures.fits c.args.tokens.now c.requires
    c.loop-symbol.at c.loop-symbol.rows.items c.loop-symbol.stack c.loop-symbol.invariant c.in-Some.symbol c.pop.new.self c.in-Some.ensures
    (c.is_token.ensures.0 c.if-is_token.true)
    (λ f. false≢true (sym c.if-not-stands.true ∙ c.stands.ensures.1 (c.token_at-next.ensures ∙ f))))

pub loop-symbol-preserved-then-is_token : goal.loop-symbol-preserved-then-is_token
loop-symbol-preserved-then-is_token g c =
    under_way_token g.row.S g.row.R c.args.checked.now c.rows-table.ensures.good c.rows-table.ensures.fits c.args.tokens.now c.requires
    c.loop-symbol.at c.loop-symbol.rows.items c.loop-symbol.stack c.loop-symbol.invariant c.in-Some.symbol c.pop.new.self c.in-Some.ensures
    (c.is_token.ensures.0 c.if-is_token.true) (sym c.token_at-next.ensures ∙ c.stands.ensures.0 c.if-not-stands.false)

pub returns-in_default-predict-clause-begun : goal.returns-in_default-predict-clause-begun
returns-in_default-predict-clause-begun g c = λ stop h.
    of_stop (λ (s : Stop). TellTrees c.args.checked.now s.rows c.args.tokens.now s.at) c.loop-symbol.at c.loop-symbol.rows.items c.stop-in_default-predict.result stop c.stop-in_default-predict.ensures h
    c.loop-symbol.invariant.told

pub returns-in_default-predict-clause-stop : goal.returns-in_default-predict-clause-stop
returns-in_default-predict-clause-stop g c = λ stop h.
    of_stop (λ (s : Stop). StopsAt c.args.checked.now c.args.tokens.now s.at) c.loop-symbol.at c.loop-symbol.rows.items c.stop-in_default-predict.result stop c.stop-in_default-predict.ensures h
    (stop_at_symbol g.row.S g.row.R c.args.checked.now c.rows-table.ensures.good c.rows-table.ensures.fits c.args.tokens.now c.requires
    c.loop-symbol.at c.loop-symbol.rows.items c.loop-symbol.stack c.loop-symbol.invariant c.in-Some.symbol c.pop.new.self c.in-Some.ensures
    (λ t. false≢true (sym c.if-is_token.false ∙ c.is_token.ensures.1 t))
    (subst (λ (z : _). Predicts c.args.checked.now c.in-Some.symbol z None) c.token_at-next.ensures
    (subst (λ (z : _). Predicts c.args.checked.now c.in-Some.symbol c.token_at-next.result z) c.in_default-predict.is c.predict.ensures)))

pub loop-symbol-preserved : goal.loop-symbol-preserved
loop-symbol-preserved g c =
    let p : Predicts c.args.checked.now c.in-Some.symbol c.token_at-next.result (Some c.in-Some-predict.row) = subst (λ (z : _). Predicts c.args.checked.now c.in-Some.symbol c.token_at-next.result z) c.in-Some-predict.is c.predict.ensures in
    let n : Predicts c.args.checked.now c.in-Some.symbol (first_or (drop c.loop-symbol.at c.args.tokens.now) None) (Some c.in-Some-predict.row) = subst (λ (z : _). Predicts c.args.checked.now c.in-Some.symbol z (Some c.in-Some-predict.row)) c.token_at-next.ensures p in
    let q = predicted c.args.checked.now c.in-Some.symbol c.token_at-next.result c.in-Some-predict.row p in
    let right : c.as_slice-right.result.now ≡ q.0.right =
    c.as_slice-right.ensures ∙ ap (λ (z : Row). z.right) (ap (λ (zs : List Row). get_or zs c.in-Some-predict.row c.index-table-row.result) c.rows-table.ensures.same ∙ get_or_from_slice_get c.args.checked.now c.in-Some-predict.row q.0 c.index-table-row.result q.1) in
    let pushed = ok_gives c.push_all-in-Some.result _ c.in_ok-map_err-3.ensures.variant c.push_all-in-Some.ensures in
    let grown : c.push.new.self.items ≡ c.loop-symbol.rows.items ++ c.in-Some-predict.row ∷ [] = c.push.ensures.items ∙ cond-true (is_ok c.push.result) _ _ (sym c.in_ok-map_err-2.ensures.variant) in
    subst (λ (zs : List ℕ). IsUnderWay g.row.S c.args.checked.now c.args.tokens.now c.loop-symbol.at zs c.push_all-in-Some.new.self) (sym grown)
    (under_way_row g.row.S g.row.R c.args.checked.now c.rows-table.ensures.good c.rows-table.ensures.fits c.args.tokens.now c.requires
    c.loop-symbol.at c.loop-symbol.rows.items c.loop-symbol.stack c.loop-symbol.invariant c.in-Some.symbol c.pop.new.self c.in-Some-predict.row q.0 c.in-Some.ensures n q.1
    c.push_all-in-Some.new.self (pushed ∙ ap (λ (zs : List ℕ). zs ++ c.pop.new.self) right))

pub returns-then-at-tokens-clause-begun : goal.returns-then-at-tokens-clause-begun
returns-then-at-tokens-clause-begun g c = λ stop h.
    of_stop (λ (s : Stop). TellTrees c.args.checked.now s.rows c.args.tokens.now s.at) c.loop-symbol.at c.loop-symbol.rows.items c.stop-left_over.result stop c.stop-left_over.ensures h
    c.loop-symbol.invariant.told

pub returns-then-at-tokens-clause-stop : goal.returns-then-at-tokens-clause-stop
returns-then-at-tokens-clause-stop g c = λ stop h.
    of_stop (λ (s : Stop). StopsAt c.args.checked.now c.args.tokens.now s.at) c.loop-symbol.at c.loop-symbol.rows.items c.stop-left_over.result stop c.stop-left_over.ensures h
    (stop_at_end g.row.S g.row.R c.args.checked.now c.rows-table.ensures.good c.rows-table.ensures.fits c.args.tokens.now c.requires
    c.loop-symbol.at c.loop-symbol.rows.items c.loop-symbol.stack c.loop-symbol.invariant c.in_default.ensures c.if-at-tokens.true)

pub returns-clause-tree : goal.returns-clause-tree
returns-clause-tree g c = subst (λ (zs : List ℕ). IsTreeOf c.args.checked.now zs c.args.tokens.now) (sym c.from_vec.ensures)
    (tree_at_end g.row.S g.row.R c.args.checked.now c.rows-table.ensures.good c.rows-table.ensures.fits c.args.tokens.now c.requires
    c.loop-symbol.at c.loop-symbol.rows.items c.loop-symbol.stack c.loop-symbol.invariant c.in_default.ensures c.if-at-tokens.false)

pub returns-clause-only : goal.returns-clause-only
returns-clause-only g c = λ other t.
    only_at_end g.row.S g.row.R c.args.checked.now c.rows-table.ensures.good c.rows-table.ensures.fits c.args.tokens.now c.requires
    c.loop-symbol.at c.loop-symbol.rows.items c.loop-symbol.stack c.loop-symbol.invariant c.in_default.ensures c.if-at-tokens.false other t ∙ sym c.from_vec.ensures
