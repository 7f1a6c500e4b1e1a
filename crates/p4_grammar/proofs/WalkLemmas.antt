-- The walk over the rows and tokens of trees gives these trees.
use Rattle.std.proofs.Common.{◌≡◌, ℕ, zero, suc, ◌+◌, ◌≤◌, List, [], ◌∷◌, ◌++◌, append_assoc, Option, length, refl, sym, ap, ◌∙◌, subst, arith, length-append}
use Rattle.std.proofs.lemmas.List.{append-nil}
use Rattle.p4_lexer.specs.declared.token.Token.{Token}
use Rattle.ll1_engine.specs.declared.grammar.Row.{Row}
use Rattle.ll1_engine.specs.Trees.{Trees, End as NoTrees, Leaf, Node as TreesNode, preorder, roots, leaves, AreTrees}
use Rattle.p4_grammar.specs.Rows.{grammar_rows}
use Rattle.p4_grammar.specs.Words.{terminal_of, terminals_of}
use Rattle.p4_grammar.specs.Derivation.{AreRowsOf}
use Rattle.ll1_engine.specs.Parse.{IsAllowedTree}
use Rattle.p4_grammar.specs.Parses.{Parse, End, Word, Node, trees_of, tokens_in, IsParseOf}
use Rattle.p4_grammar.specs.Walk.{Walked, with_word, with_node, node_then, row_then, symbol_then, walk, told_by}
use Rattle.p4_grammar.proofs.FormsAndWords.{left_is_form, word_is_no_form}

abbrev pub size : Parse → ℕ
size End = 0
size (Word t a) = suc (size a)
size (Node k r u a) = suc (size u + size a)

size_is : (p : Parse) → size p ≡ length (preorder (trees_of p)) + length (tokens_in p)
size_is End = refl
size_is (Word t a) = omega (arith, size_is a)
size_is (Node k r u a) =
    omega (arith, size_is u, size_is a, length-append (preorder (trees_of u)) (preorder (trees_of a)), length-append (tokens_in u) (tokens_in a))

abbrev walked : Parse → List ℕ → List Token → Walked
walked p rows tokens = record { trees = p; rows = rows; tokens = tokens }

pub walks : (p : Parse) (n : ℕ) (rows : List ℕ) (tokens : List Token) → AreTrees grammar_rows (trees_of p) → size p ≤ n →
    walk n (roots (trees_of p)) (preorder (trees_of p) ++ rows) (tokens_in p ++ tokens) ≡ walked p rows tokens
unfolding walk
walks End zero rows tokens v l = refl
walks End (suc n) rows tokens v l = refl
walks (Word t a) zero rows tokens v l = absurd (omega arith)
walks (Node k r u a) zero rows tokens v l = absurd (omega arith)
walks (Word t a) (suc n) rows tokens v l =
    ap (λ (f : _). symbol_then (walk n) f (roots (trees_of a)) (preorder (trees_of a) ++ rows) (t ∷ (tokens_in a ++ tokens))) (word_is_no_form t.word)
    ∙ ap (with_word t) (walks a n rows tokens v (omega arith))
walks (Node k r u a) (suc n) rows tokens v l =
    let under : walk n r.right ((preorder (trees_of u) ++ preorder (trees_of a)) ++ rows) ((tokens_in u ++ tokens_in a) ++ tokens)
    ≡ walked u (preorder (trees_of a) ++ rows) (tokens_in a ++ tokens) =
    rw (sym v.1, append_assoc (preorder (trees_of u)) (preorder (trees_of a)) rows, append_assoc (tokens_in u) (tokens_in a) tokens)
    (walks u n (preorder (trees_of a) ++ rows) (tokens_in a ++ tokens) v.2 (omega arith)) in
    ap (λ (f : _). symbol_then (walk n) f (roots (trees_of a)) (k ∷ ((preorder (trees_of u) ++ preorder (trees_of a)) ++ rows)) ((tokens_in u ++ tokens_in a) ++ tokens)) (left_is_form k r v.0)
    ∙ ap (λ (o : Option Row). row_then (walk n) (roots (trees_of a)) k o ((preorder (trees_of u) ++ preorder (trees_of a)) ++ rows) ((tokens_in u ++ tokens_in a) ++ tokens)) v.0
    ∙ ap (node_then (walk n) (roots (trees_of a)) k r) under
    ∙ ap (with_node k r u) (walks a n rows tokens v.3 (omega arith))

-- trees from the start symbol are what their rows and tokens tell
pub told_is : (p : Parse) → AreTrees grammar_rows (trees_of p) → roots (trees_of p) ≡ 0 ∷ [] → told_by (preorder (trees_of p)) (tokens_in p) ≡ p
unfolding told_by
told_is p v top =
    let n = length (preorder (trees_of p)) + length (tokens_in p) in
    let all : walk n (roots (trees_of p)) (preorder (trees_of p) ++ []) (tokens_in p ++ []) ≡ walked p [] [] =
    walks p n [] [] v (omega (arith, size_is p)) in
    ap (λ (w : Walked). w.trees) (rw (top, append-nil (preorder (trees_of p)), append-nil (tokens_in p)) at all)

-- trees with tokens for their leaves, behind which there are more
record Labelled (tree : Trees) (tokens : List Token) (rest : List ℕ) : Type 0 where
  p : Parse
  more : List Token
  tree_is : trees_of p ≡ tree
  tokens_are : tokens_in p ++ more ≡ tokens
  rest_is : rest ≡ terminals_of more

labelled : (tree : Trees) (tokens : List Token) (rest : List ℕ) → leaves tree ++ rest ≡ terminals_of tokens → Labelled tree tokens rest
labelled NoTrees tokens rest e = record { p = End; more = tokens; tree_is = refl; tokens_are = refl; rest_is = e }
labelled (Leaf x behind) [] rest e = absurd (cc)
labelled (Leaf x behind) (t ∷ tokens) rest e =
    let one : x ≡ terminal_of t.word = cc in
    let next = labelled behind tokens rest (cc) in
    record {
      p = Word t next.p;
      more = next.more;
      tree_is = ap (λ (y : ℕ). Leaf y (trees_of next.p)) (sym one) ∙ ap (λ (q : Trees). Leaf x q) next.tree_is;
      tokens_are = ap (λ (ts : List Token). t ∷ ts) next.tokens_are;
      rest_is = next.rest_is;
    }
labelled (TreesNode k r under behind) tokens rest e =
    let first = labelled under tokens (leaves behind ++ rest) (sym (append_assoc (leaves under) (leaves behind) rest) ∙ e) in
    let next = labelled behind first.more rest first.rest_is in
    record {
      p = Node k r first.p next.p;
      more = next.more;
      tree_is = ap (λ (q : Trees). TreesNode k r q (trees_of next.p)) first.tree_is ∙ ap (λ (q : Trees). TreesNode k r under q) next.tree_is;
      tokens_are = append_assoc (tokens_in first.p) (tokens_in next.p) next.more ∙ ap (λ (ts : List Token). tokens_in first.p ++ ts) next.tokens_are ∙ first.tokens_are;
      rest_is = next.rest_is;
    }

none_left : (tokens : List Token) → [] ≡ terminals_of tokens → tokens ≡ []
none_left [] e = refl
none_left (t ∷ tokens) e = absurd (cc)

-- the rows of a derivation tell it
pub record IsTold (rows : List ℕ) (tokens : List Token) (p : Parse) : Type 0 where
  pub derives : IsParseOf p tokens
  pub order : rows ≡ preorder (trees_of p)

pub told : (rows : List ℕ) (tokens : List Token) → AreRowsOf rows tokens → IsTold rows tokens (told_by rows tokens)
told rows tokens a =
    let one = labelled a.tree tokens [] (append-nil (leaves a.tree) ∙ a.allowed.bottom) in
    let all : tokens_in one.p ≡ tokens = sym (append-nil (tokens_in one.p)) ∙ ap (λ (ts : List Token). tokens_in one.p ++ ts) (sym (none_left one.more one.rest_is)) ∙ one.tokens_are in
    let order : preorder (trees_of one.p) ≡ rows = ap preorder one.tree_is ∙ a.order in
    let same : told_by rows tokens ≡ one.p =
    ap (λ (ks : List ℕ). told_by ks tokens) (sym order) ∙ ap (λ (ts : List Token). told_by (preorder (trees_of one.p)) ts) (sym all)
    ∙ told_is one.p (subst (λ (q : Trees). AreTrees grammar_rows q) (sym one.tree_is) a.allowed.valid) (ap roots one.tree_is ∙ a.allowed.top) in
    subst (λ (q : Parse). IsTold rows tokens q) (sym same) (record {
      derives = record { derives = subst (λ (q : Trees). IsAllowedTree grammar_rows q (terminals_of tokens)) (sym one.tree_is) a.allowed; bears = all };
      order = sym order;
    })
