-- All derivations of lists that begin alike give a token one depth.
use Rattle.std.proofs.Common.{◌≡◌, ℕ, ◌+◌, ◌<◌, List, [], ◌∷◌, ◌++◌, length, get_or, take, refl, sym, ap, ◌∙◌, subst, arith, append_assoc}
use Rattle.std.specs.List.{count_by}
use Rattle.std.proofs.lemmas.List.{take_more, length-take-le, length-map}
use Rattle.p4_lexer.specs.declared.token.Token.{Token}
use Rattle.ll1_engine.specs.Open.{OpenNode, open_around}
use Rattle.ll1_engine.specs.Parse.{IsAllowedTree, CanGoOn}
use Rattle.ll1_engine.specs.Trees.{Trees}
use Rattle.ll1_engine.proofs.OpenLemmas.{open_determined}
use Rattle.p4_grammar.specs.Rows.{grammar_rows}
use Rattle.p4_grammar.specs.Words.{terminal_of, terminals_of}
use Rattle.p4_grammar.specs.Depth.{HasDepth, depth_in, open_brackets, node_counts}
use Rattle.p4_grammar.proofs.GoodTable.{good_table}

-- the tokens up to one, and what follows
parts : (ts : List ℕ) (k : ℕ) (rest : List ℕ) → k < length ts → take (k + 1) ts ++ rest ≡ take k ts ++ get_or ts k 0 ∷ rest
parts ts k rest lt = ap (λ (xs : List ℕ). xs ++ rest) (take_more ts k 0 lt) ∙ append_assoc (take k ts) (get_or ts k 0 ∷ []) rest

open_alike : (ts : List ℕ) (k : ℕ) (us vs : List ℕ) (tree other : Trees) → k < length ts → IsAllowedTree grammar_rows tree (take (k + 1) ts ++ us) → IsAllowedTree grammar_rows other (take (k + 1) ts ++ vs) → open_around tree k ≡ open_around other k
open_alike ts k us vs tree other lt a b =
    let size : length (take k ts) ≡ k = length-take-le k ts (omega arith) in
    subst (λ (n : ℕ). open_around tree n ≡ open_around other n) size
    (open_determined grammar_rows good_table (get_or ts k 0) us vs (take k ts) tree other
    (subst (IsAllowedTree grammar_rows tree) (parts ts k us lt) a)
    (subst (IsAllowedTree grammar_rows other) (parts ts k vs lt) b))

pub depth_determined : (tokens : List Token) (k d e : ℕ) → HasDepth tokens k d → HasDepth tokens k e → d ≡ e
depth_determined tokens k d e x y =
    let size : length (terminals_of tokens) ≡ length tokens = length-map tokens (λ t. terminal_of t.word) in
    let nodes = open_alike (terminals_of tokens) k x.rest y.rest x.tree y.tree (let lt = x.within in omega arith) x.derives y.derives in
    x.counted ∙ (ap (λ (ns : List OpenNode). open_brackets (terminals_of tokens) k + count_by node_counts ns) nodes ∙ sym y.counted)

pub depth_exists : (tokens : List Token) (k : ℕ) → k < length tokens → CanGoOn grammar_rows (take (k + 1) (terminals_of tokens)) → (d : ℕ) × HasDepth tokens k d
depth_exists tokens k lt on = (
  depth_in on.whole.tree.tree (terminals_of tokens) k,
  record { rest = on.rest; tree = on.whole.tree.tree; within = lt; derives = on.whole.tree.allowed; counted = refl },
)

pub depth_begins : (tokens : List Token) (k d : ℕ) → HasDepth tokens k d → CanGoOn grammar_rows (take (k + 1) (terminals_of tokens))
depth_begins tokens k d h = record { rest = h.rest; whole = record { rows = _; tree = record { tree = h.tree; allowed = h.derives; order = refl } } }
