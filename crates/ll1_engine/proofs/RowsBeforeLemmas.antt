-- The rows of the nodes that begin before a leaf: of trees side by side, and of a node.
use Rattle.std.proofs.Common.{◌≡◌, ℕ, zero, suc, ◌+◌, ◌-◌, ◌<◌, List, ◌∷◌, ◌++◌, length, refl, sym, ap, ◌∙◌, inl, inr, append_assoc, length-append, arith}
use Rattle.std.proofs.lemmas.Bool.{cond-true, cond-false, lt-ltb, le-ltb, cases_lt}
use Rattle.std.proofs.Math.Dec.{ltb}
use Rattle.ll1_engine.specs.declared.grammar.Row.{Row}
use Rattle.ll1_engine.specs.Trees.{Trees, End, Leaf, Node, leaves, preorder}
use Rattle.ll1_engine.specs.Open.{rows_before}
use Rattle.ll1_engine.proofs.TreesLemmas.{beside}

-- a leaf below a node, or behind it
below_node : (k : ℕ) (r : Row) (c f : Trees) (i : ℕ) → i < length (leaves c) → rows_before (Node k r c f) i ≡ k ∷ rows_before c i
below_node k r c f i lt = ap (λ (ks : List ℕ). k ∷ ks) (cond-true (ltb i (length (leaves c))) _ _ (lt-ltb i (length (leaves c)) lt))

behind_node : (k : ℕ) (r : Row) (c f : Trees) (i n : ℕ) → i ≡ length (leaves c) + n → rows_before (Node k r c f) i ≡ k ∷ (preorder c ++ rows_before f n)
behind_node k r c f i n e =
    let less : i - length (leaves c) ≡ n = omega arith in
    ap (λ (ks : List ℕ). k ∷ ks) (cond-false (ltb i (length (leaves c))) _ _ (le-ltb i (length (leaves c)) (omega arith)))
    ∙ ap (λ (m : ℕ). k ∷ (preorder c ++ rows_before f m)) less

-- a leaf of the first of two lists of trees, or of the second
in_front : (c f : Trees) (i : ℕ) → i < length (leaves c) → rows_before (beside c f) i ≡ rows_before c i
in_front End f i lt = absurd (omega arith)
in_front (Leaf x c) f zero lt = refl
in_front (Leaf x c) f (suc i) lt = in_front c f i (omega arith)
in_front (Node k r d c) f i lt = elim (cases_lt i (length (leaves d))) [
  | inl here ↦ below_node k r d (beside c f) i here ∙ sym (below_node k r d c i here)
  | inr there ↦ (
      let n : ℕ = i - length (leaves d) in
      let e : i ≡ length (leaves d) + n = omega arith in
      let s : length (leaves d ++ leaves c) ≡ length (leaves d) + length (leaves c) = length-append (leaves d) (leaves c) in
      behind_node k r d (beside c f) i n e
      ∙ (ap (λ (ks : List ℕ). k ∷ (preorder d ++ ks)) (in_front c f n (omega arith)) ∙ sym (behind_node k r d c i n e)))
]

in_back : (c f : Trees) (i n : ℕ) → i ≡ length (leaves c) + n → rows_before (beside c f) i ≡ preorder c ++ rows_before f n
in_back End f i n e = ap (rows_before f) (let m : i ≡ n = omega arith in m)
in_back (Leaf x c) f zero n e = absurd (omega arith)
in_back (Leaf x c) f (suc i) n e = in_back c f i n (omega arith)
in_back (Node k r d c) f i n e =
    let s : length (leaves d ++ leaves c) ≡ length (leaves d) + length (leaves c) = length-append (leaves d) (leaves c) in
    let m : i ≡ length (leaves d) + (length (leaves c) + n) = omega arith in
    behind_node k r d (beside c f) i (length (leaves c) + n) m
    ∙ ap (λ (ks : List ℕ). k ∷ ks) (ap (λ (ks : List ℕ). preorder d ++ ks) (in_back c f (length (leaves c) + n) n refl) ∙ sym (append_assoc (preorder d) (preorder c) (rows_before f n)))

-- a node is entered by its row
pub rows_before_node : (k : ℕ) (r : Row) (c f : Trees) (i : ℕ) → rows_before (Node k r c f) i ≡ k ∷ rows_before (beside c f) i
rows_before_node k r c f i = elim (cases_lt i (length (leaves c))) [
  | inl here ↦ below_node k r c f i here ∙ ap (λ (ks : List ℕ). k ∷ ks) (sym (in_front c f i here))
  | inr there ↦ (
      let n : ℕ = i - length (leaves c) in
      let e : i ≡ length (leaves c) + n = omega arith in
      behind_node k r c f i n e ∙ ap (λ (ks : List ℕ). k ∷ ks) (sym (in_back c f i n e)))
]
