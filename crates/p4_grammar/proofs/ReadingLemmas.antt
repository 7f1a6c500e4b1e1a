-- What the rows of a parse tell, and which tokens have a depth.
use Rattle.std.proofs.Common.{◌≡◌, ℕ, zero, suc, ◌+◌, ◌<◌, ◌≤◌, List, [], ◌∷◌, ◌++◌, length, take, drop, Option, None, MatchOption, refl, sym, ap, ◌∙◌, subst, inl, inr, append_assoc, arith}
use Rattle.std.proofs.lemmas.Bool.{cases_lt}
use Rattle.std.proofs.lemmas.List.{append-nil, length-map, length-take-le, take_all, take-append-drop, take-append-le}
use Rattle.tg_base.specs.declared.fault.Fault.TheVariants.{Refused}
use Rattle.tg_base.specs.declared.place.Refusal.{Refusal}
use Rattle.p4_lexer.specs.declared.token.Token.{Token}
use Rattle.ll1_engine.specs.Trees.{Trees, End, Leaf, Node, preorder}
use Rattle.ll1_engine.specs.Open.{rows_before, TellTrees}
use Rattle.ll1_engine.specs.Parse.{IsAllowedTree, HasTree, StopsAt}
use Rattle.ll1_engine.proofs.TreesLemmas.{beside, preorder_beside, size, size_beside}
use Rattle.ll1_engine.proofs.RowsBeforeLemmas.{rows_before_node}
use Rattle.p4_grammar.specs.Rows.{grammar_rows}
use Rattle.p4_grammar.specs.Words.{terminal_of, terminals_of}
use Rattle.p4_grammar.specs.Derivation.{AreRowsOf}
use Rattle.p4_grammar.specs.Depth.{IsShallow, IsShallowBefore, IsFirstDeep}
use Rattle.p4_grammar.specs.Descent.{TellTokens}
use Rattle.p4_grammar.proofs.DepthLemmas.{depth_begins}

-- the rows of a stop tell the tokens before it
pub stop_tells : (rows : List ℕ) (tokens : List Token) (place : ℕ) → StopsAt grammar_rows (terminals_of tokens) place →
    TellTrees grammar_rows rows (terminals_of tokens) place → TellTokens rows tokens place
stop_tells rows tokens place stops told =
    let before = stops.before in
    record {
      rest = before.rest;
      tree = before.whole.tree.tree;
      derives = before.whole.tree.allowed;
      told = λ last e. told before.whole.tree.tree before.rest last before.whole.tree.allowed e;
    }

begin_all : (n : ℕ) (f : Trees) (i : ℕ) → size f ≤ n → (more : List ℕ) × (preorder f ≡ rows_before f i ++ more)
begin_all n End i s = ([], refl)
begin_all n (Leaf x f) zero s = (preorder f, refl)
begin_all zero (Leaf x f) (suc i) s = absurd (omega arith)
begin_all (suc n) (Leaf x f) (suc i) s = begin_all n f i (omega arith)
begin_all zero (Node k r c f) i s = absurd (omega arith)
begin_all (suc n) (Node k r c f) i s =
    let b : size (beside c f) ≡ size c + size f = size_beside c f in
    let q = begin_all n (beside c f) i (omega arith) in (
      q.0,
      ap (λ (ks : List ℕ). k ∷ ks) (sym (preorder_beside c f) ∙ q.1) ∙ ap (λ (ks : List ℕ). ks ++ q.0) (sym (rows_before_node k r c f i)),
    )

-- the rows of a derivation tell all tokens
pub rows_tell : (rows : List ℕ) (tokens : List Token) → AreRowsOf rows tokens → TellTokens rows tokens (length tokens)
rows_tell rows tokens a =
    let count : length (terminals_of tokens) ≡ length tokens = length-map tokens (λ t. terminal_of t.word) in
    let all : terminals_of tokens ≡ take (length tokens) (terminals_of tokens) ++ [] =
    sym (take_all (length tokens) (terminals_of tokens) (omega arith)) ∙ sym (append-nil (take (length tokens) (terminals_of tokens))) in
    record {
      rest = [];
      tree = a.tree;
      derives = subst (IsAllowedTree grammar_rows a.tree) all a.allowed;
      told = λ last e. (let q = begin_all (size a.tree) a.tree last (omega arith) in (q.0, sym a.order ∙ q.1));
    }

-- only the tokens of a list have a depth
pub shallow_all : (tokens : List Token) → IsShallowBefore tokens (length tokens) → IsShallow tokens
shallow_all tokens before k depth h = before k depth h.within h

-- and only those before the place of Syntax
pub shallow_stopped : (tokens : List Token) (place : ℕ) → StopsAt grammar_rows (terminals_of tokens) place → IsShallowBefore tokens place → IsShallow tokens
shallow_stopped tokens place stops before k depth h =
    elim (cases_lt k place) [
      | inl less ↦ before k depth less h
      | inr more ↦ absurd (past more)
    ]
  where
    count : length (terminals_of tokens) ≡ length tokens
    count = length-map tokens (λ t. terminal_of t.word)

    past : place ≤ k → ⊥
    past more =
        let on = depth_begins tokens k depth h in
        let lt : k < length tokens = h.within in
        let size : length (take (k + 1) (terminals_of tokens)) ≡ k + 1 = length-take-le (k + 1) (terminals_of tokens) (omega (arith, count)) in
        let same : take (place + 1) (take (k + 1) (terminals_of tokens)) ≡ take (place + 1) (terminals_of tokens) =
        sym (take-append-le (place + 1) (take (k + 1) (terminals_of tokens)) (drop (k + 1) (terminals_of tokens)) (omega arith))
        ∙ ap (λ (ts : List ℕ). take (place + 1) ts) (take-append-drop (k + 1) (terminals_of tokens)) in
        let split : take (k + 1) (terminals_of tokens) ++ on.rest ≡ take (place + 1) (terminals_of tokens) ++ (drop (place + 1) (take (k + 1) (terminals_of tokens)) ++ on.rest) =
        ap (λ (ts : List ℕ). ts ++ on.rest)
        (sym (take-append-drop (place + 1) (take (k + 1) (terminals_of tokens))) ∙ ap (λ (ts : List ℕ). ts ++ drop (place + 1) (take (k + 1) (terminals_of tokens))) same)
        ∙ append_assoc (take (place + 1) (terminals_of tokens)) (drop (place + 1) (take (k + 1) (terminals_of tokens))) on.rest in
        stops.stuck (omega (arith, count)) (record { rest = drop (place + 1) (take (k + 1) (terminals_of tokens)) ++ on.rest; whole = subst (HasTree grammar_rows) split on.whole })

-- what an answer of none says
pub none_is_deep : (deep : Option ℕ) (tokens : List Token) (count : ℕ) → deep ≡ None →
    MatchOption deep (IsShallowBefore tokens count) (λ at. (at < count) × IsFirstDeep tokens at) → IsShallowBefore tokens count
none_is_deep deep tokens count e m =
    subst (λ (o : Option ℕ). MatchOption o (IsShallowBefore tokens count) (λ at. (at < count) × IsFirstDeep tokens at)) e m

-- one refusal is told
pub refused_once : (a b : Refusal) → Refused a ≡ Refused b → a ≡ b
refused_once a b e = cc
