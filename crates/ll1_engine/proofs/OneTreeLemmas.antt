-- In a good table a list of tokens has at most one tree that the ranks allow: side by side, from the roots down, each node of
-- the one is by the row of the other.
use Rattle.std.proofs.Common.{◌≡◌, ℕ, List, [], ◌∷◌, ◌++◌, None, refl, sym, ap, ◌∙◌, subst, append_assoc}
use Rattle.std.proofs.lemmas.List.{append_cancel_left, append-nil}
use Rattle.ll1_engine.specs.declared.grammar.Row.{Row}
use Rattle.ll1_engine.specs.Table.{IsRow, IsToken}
use Rattle.ll1_engine.specs.Trees.{Trees, End, Leaf, Node, roots, leaves, AreTrees, Nullable}
use Rattle.ll1_engine.specs.Conditions.{IsGood}
use Rattle.ll1_engine.specs.Parse.{first_or, RanksAllow, IsAllowedTree}
use Rattle.ll1_engine.proofs.TreesLemmas.{beside, roots_beside, leaves_beside, AreTrees_beside, first_or_append, same_row, no_parts}
use Rattle.ll1_engine.proofs.FirstLemmas.{AreTokens, AreTokens_parts, Follows, Follows_start, Follows_row, nullable_trees}
use Rattle.ll1_engine.proofs.PredictionLemmas.{one_nullable}
use Rattle.ll1_engine.proofs.OpenLemmas.{same_node}

-- two lists of trees with the same roots, before e and i, all with the same leaves
record Agree (g : List Row) (ts : List ℕ) (f h e i : Trees) : Type 0 where
  terminal : AreTokens g ts
  valid : AreTrees g f
  other_valid : AreTrees g h
  behind : AreTrees g e
  other_behind : AreTrees g i
  top : roots f ≡ roots h
  top_behind : roots e ≡ roots i
  ranks : RanksAllow g f (first_or (leaves e) None)
  other_ranks : RanksAllow g h (first_or (leaves i) None)
  follows : Follows g (roots f ++ roots e)
  left : leaves f ++ leaves e ≡ ts
  right : leaves h ++ leaves i ≡ ts

module _ (g : List Row) (good : IsGood g) where
  -- two nodes at one place are by one row
  one_row : (ts : List ℕ) (j : ℕ) (r : Row) (c a : Trees) (k : ℕ) (s : Row) (d b e i : Trees) → Agree g ts (Node j r c a) (Node k s d b) e i → (k ≡ j) × (s ≡ r)
  one_row [] j r c a k s d b e i m =
      let v = m.valid in
      let w = m.other_valid in
      let top : r.left ∷ roots a ≡ s.left ∷ roots b = m.top in
      let left : s.left ≡ r.left = cc in
      let none = (no_parts (leaves c) (leaves a) (no_parts (leaves c ++ leaves a) (leaves e) m.left).0).0 in
      let other_none = (no_parts (leaves d) (leaves b) (no_parts (leaves d ++ leaves b) (leaves i) m.right).0).0 in
      let same : k ≡ j = one_nullable g good j k r s v.0 w.0 left (subst (Nullable g) v.1 (nullable_trees g c v.2 none)) (subst (Nullable g) w.1 (nullable_trees g d w.2 other_none)) in
      (same, same_row g j s r (subst (λ (z : ℕ). IsRow g z s) same w.0) v.0)
  one_row (u ∷ us) j r c a k s d b e i m =
      same_node g good u us us [] j r c a k s d b e i (record {
        terminal = (m.terminal.0, tt);
        valid = m.valid;
        other_valid = m.other_valid;
        behind = m.behind;
        other_behind = m.other_behind;
        top = m.top;
        top_behind = m.top_behind;
        ranks = m.ranks;
        other_ranks = m.other_ranks;
        follows = m.follows;
        left = m.left;
        right = m.right;
      })

  -- the trees below two such nodes
  agree_below : (ts : List ℕ) (j : ℕ) (r : Row) (c a : Trees) (k : ℕ) (s : Row) (d b e i : Trees) → s ≡ r → Agree g ts (Node j r c a) (Node k s d b) e i → Agree g ts c d (beside a e) (beside b i)
  agree_below ts j r c a k s d b e i one m =
      let v = m.valid in
      let w = m.other_valid in
      let top : r.left ∷ roots a ≡ s.left ∷ roots b = m.top in
      record {
        terminal = m.terminal;
        valid = v.2;
        other_valid = w.2;
        behind = AreTrees_beside g a e v.3 m.behind;
        other_behind = AreTrees_beside g b i w.3 m.other_behind;
        top = v.1 ∙ (ap (λ (z : Row). z.right) (sym one) ∙ sym w.1);
        top_behind = roots_beside a e ∙ (ap (λ (xs : List ℕ). xs ++ roots e) (cc) ∙ (ap (λ (xs : List ℕ). roots b ++ xs) m.top_behind ∙ sym (roots_beside b i)));
        ranks = subst (RanksAllow g c) (sym (ap (λ (xs : List ℕ). first_or xs None) (leaves_beside a e) ∙ first_or_append (leaves a) (leaves e) None)) m.ranks.1;
        other_ranks = subst (RanksAllow g d) (sym (ap (λ (xs : List ℕ). first_or xs None) (leaves_beside b i) ∙ first_or_append (leaves b) (leaves i) None)) m.other_ranks.1;
        follows = subst (λ (xs : List ℕ). Follows g (roots c ++ xs)) (sym (roots_beside a e)) (subst (λ (xs : List ℕ). Follows g (xs ++ (roots a ++ roots e))) (sym v.1) (Follows_row g j r [] r.right (roots a ++ roots e) v.0 refl m.follows));
        left = ap (λ (xs : List ℕ). leaves c ++ xs) (leaves_beside a e) ∙ (sym (append_assoc (leaves c) (leaves a) (leaves e)) ∙ m.left);
        right = ap (λ (xs : List ℕ). leaves d ++ xs) (leaves_beside b i) ∙ (sym (append_assoc (leaves d) (leaves b) (leaves i)) ∙ m.right);
      }

  -- the trees behind them, where those below are the same
  agree_behind : (ts : List ℕ) (j : ℕ) (r : Row) (c a : Trees) (k : ℕ) (s : Row) (d b e i : Trees) → d ≡ c → Agree g ts (Node j r c a) (Node k s d b) e i → Agree g (leaves a ++ leaves e) a b e i
  agree_behind ts j r c a k s d b e i same m =
      let top : r.left ∷ roots a ≡ s.left ∷ roots b = m.top in
      let whole : leaves c ++ (leaves a ++ leaves e) ≡ ts = sym (append_assoc (leaves c) (leaves a) (leaves e)) ∙ m.left in
      record {
        terminal = (AreTokens_parts g (leaves c) (leaves a ++ leaves e) (subst (AreTokens g) (sym whole) m.terminal)).1;
        valid = m.valid.3;
        other_valid = m.other_valid.3;
        behind = m.behind;
        other_behind = m.other_behind;
        top = cc;
        top_behind = m.top_behind;
        ranks = m.ranks.2;
        other_ranks = m.other_ranks.2;
        follows = m.follows.1;
        left = refl;
        right = append_cancel_left (leaves c) (leaves b ++ leaves i) (leaves a ++ leaves e)
            (ap (λ (x : Trees). leaves x ++ (leaves b ++ leaves i)) (sym same) ∙ (sym (append_assoc (leaves d) (leaves b) (leaves i)) ∙ (m.right ∙ sym whole)));
      }

  agree_leaf : (ts : List ℕ) (x : ℕ) (a : Trees) (y : ℕ) (b e i : Trees) → Agree g ts (Leaf x a) (Leaf y b) e i → (y ≡ x) × Agree g (leaves a ++ leaves e) a b e i
  agree_leaf ts x a y b e i m =
      let top : x ∷ roots a ≡ y ∷ roots b = m.top in
      let left : x ∷ (leaves a ++ leaves e) ≡ ts = m.left in
      let right : y ∷ (leaves b ++ leaves i) ≡ ts = m.right in
      let terminal : AreTokens g (x ∷ (leaves a ++ leaves e)) = subst (AreTokens g) (sym left) m.terminal in (
        cc,
        record {
          terminal = terminal.1;
          valid = m.valid;
          other_valid = m.other_valid;
          behind = m.behind;
          other_behind = m.other_behind;
          top = cc;
          top_behind = m.top_behind;
          ranks = m.ranks;
          other_ranks = m.other_ranks;
          follows = m.follows.1;
          left = refl;
          right = (let both : y ∷ (leaves b ++ leaves i) ≡ x ∷ (leaves a ++ leaves e) = right ∙ sym left in cc);
        },
      )

  -- the first leaf is a token
  first_token : (x : ℕ) (xs ts : List ℕ) → AreTokens g ts → x ∷ xs ≡ ts → IsToken g x
  first_token x xs ts t e = (let all : AreTokens g (x ∷ xs) = subst (AreTokens g) (sym e) t in all.0)

  same_trees : (ts : List ℕ) (f h e i : Trees) → Agree g ts f h e i → h ≡ f
  same_trees ts End End e i m = refl
  same_trees ts End (Leaf y b) e i m = absurd (let t : [] ≡ y ∷ roots b = m.top in cc)
  same_trees ts End (Node k s d b) e i m = absurd (let t : [] ≡ s.left ∷ roots b = m.top in cc)
  same_trees ts (Leaf x a) End e i m = absurd (let t : x ∷ roots a ≡ [] = m.top in cc)
  same_trees ts (Leaf x a) (Leaf y b) e i m =
      let q = agree_leaf ts x a y b e i m in
      ap (λ (z : ℕ). Leaf z b) q.0 ∙ ap (λ (t : Trees). Leaf x t) (same_trees (leaves a ++ leaves e) a b e i q.1)
  same_trees ts (Leaf x a) (Node k s d b) e i m =
      let top : x ∷ roots a ≡ s.left ∷ roots b = m.top in
      absurd (first_token x (leaves a ++ leaves e) ts m.terminal m.left k s m.other_valid.0 (cc))
  same_trees ts (Node j r c a) End e i m = absurd (let t : r.left ∷ roots a ≡ [] = m.top in cc)
  same_trees ts (Node j r c a) (Leaf y b) e i m =
      let top : r.left ∷ roots a ≡ y ∷ roots b = m.top in
      absurd (first_token y (leaves b ++ leaves i) ts m.terminal m.right j r m.valid.0 (cc))
  same_trees ts (Node j r c a) (Node k s d b) e i m =
      let one = one_row ts j r c a k s d b e i m in
      let below = same_trees ts c d (beside a e) (beside b i) (agree_below ts j r c a k s d b e i one.1 m) in
      let after = same_trees (leaves a ++ leaves e) a b e i (agree_behind ts j r c a k s d b e i below m) in
      ap (λ (n : ℕ). Node n s d b) one.0 ∙ (ap (λ (q : Row). Node j q d b) one.1 ∙ (ap (λ (t : Trees). Node j r t b) below ∙ ap (λ (t : Trees). Node j r c t) after))

  pub one_tree : (ts : List ℕ) (tree other : Trees) → IsAllowedTree g tree ts → IsAllowedTree g other ts → other ≡ tree
  one_tree ts tree other a b =
      same_trees ts tree other End End (record {
        terminal = a.terminal;
        valid = a.valid;
        other_valid = b.valid;
        behind = tt;
        other_behind = tt;
        top = a.top ∙ sym b.top;
        top_behind = refl;
        ranks = a.ranks;
        other_ranks = b.ranks;
        follows = subst (λ (xs : List ℕ). Follows g (xs ++ [])) (sym a.top) (Follows_start g);
        left = append-nil (leaves tree) ∙ a.bottom;
        right = append-nil (leaves other) ∙ b.bottom;
      })
