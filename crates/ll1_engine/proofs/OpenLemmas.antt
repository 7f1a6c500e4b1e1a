-- In a good table two allowed trees of lists that begin alike have the same nodes open around each token of the common
-- beginning: side by side, from the roots down, each node of the one is by the row of the other.
use Rattle.std.proofs.Common.{◌≡◌, ℕ, ◌+◌, ◌-◌, ◌<◌, suc, List, [], ◌∷◌, ◌++◌, length, None, Some, refl, sym, ap, ◌∙◌, subst, inl, inr, ◌⊎◌, append_assoc, arith}
use Rattle.std.proofs.lemmas.List.{append_cancel_left, append-nil, length-append}
use Rattle.std.proofs.lemmas.Bool.{cond-true, cond-false, lt-ltb, le-ltb}
use Rattle.std.proofs.Math.Dec.{ltb}
use Rattle.ll1_engine.specs.declared.grammar.Row.{Row}
use Rattle.ll1_engine.specs.Table.{IsRow, IsToken}
use Rattle.ll1_engine.specs.Trees.{Trees, End, Leaf, Node, roots, leaves, AreTrees, Nullable}
use Rattle.ll1_engine.specs.First.{BeginsWith, InFollow}
use Rattle.ll1_engine.specs.Conditions.{IsGood}
use Rattle.ll1_engine.specs.Parse.{first_or, TakesRank, RanksAllow, IsAllowedTree}
use Rattle.ll1_engine.specs.Open.{OpenNode, holder, open_around}
use Rattle.ll1_engine.proofs.TreesLemmas.{beside, roots_beside, leaves_beside, AreTrees_beside, first_or_append, same_row}
use Rattle.ll1_engine.proofs.FirstLemmas.{AreTokens, AreTokens_parts, Follows, Follows_start, Follows_row, begins_trees, nullable_trees}
use Rattle.ll1_engine.proofs.PredictionLemmas.{one_nullable, one_first, nullable_beside_first}

-- both lists of trees have the token behind `before`, in the same open nodes
pub record Within (f h : Trees) (before : List ℕ) : Type 0 where
  pub left : length before < length (leaves f)
  pub right : length before < length (leaves h)
  pub place : holder f (length before) ≡ holder h (length before)
  pub nodes : open_around f (length before) ≡ open_around h (length before)

-- or both end before it, with the same leaves
pub record Past (f h : Trees) (before : List ℕ) : Type 0 where
  pub rest : List ℕ
  pub split : before ≡ leaves f ++ rest
  pub same : leaves h ≡ leaves f

-- two lists of trees with the same roots, before e and i, whose leaves begin with `before` and t
pub record Alike (g : List Row) (before : List ℕ) (t : ℕ) (us vs : List ℕ) (f h e i : Trees) : Type 0 where
  pub terminal : AreTokens g (before ++ t ∷ [])
  pub valid : AreTrees g f
  pub other_valid : AreTrees g h
  pub behind : AreTrees g e
  pub other_behind : AreTrees g i
  pub top : roots f ≡ roots h
  pub top_behind : roots e ≡ roots i
  pub ranks : RanksAllow g f (first_or (leaves e) None)
  pub other_ranks : RanksAllow g h (first_or (leaves i) None)
  pub follows : Follows g (roots f ++ roots e)
  pub left : leaves f ++ leaves e ≡ before ++ t ∷ us
  pub right : leaves h ++ leaves i ≡ before ++ t ∷ vs

-- the first of the common tokens
pub record Head (g : List Row) (before : List ℕ) (t : ℕ) : Type 0 where
  pub token : ℕ
  pub terminal : IsToken g token
  pub rest : List ℕ → List ℕ
  pub parts : (us : List ℕ) → before ++ t ∷ us ≡ token ∷ rest us

head : (g : List Row) (before : List ℕ) (t : ℕ) → AreTokens g (before ++ t ∷ []) → Head g before t
head g [] t a = record { token = t; terminal = a.0; rest = λ us. us; parts = λ us. refl }
head g (u ∷ before) t a = record { token = u; terminal = a.0; rest = λ us. before ++ t ∷ us; parts = λ us. refl }

-- where a leaf below a node, or behind it, is held, and what is open around it
holder_below : (k : ℕ) (r : Row) (c a : Trees) (i : ℕ) → i < length (leaves c) → holder (Node k r c a) i ≡ 0
holder_below k r c a i lt = cond-true (ltb i (length (leaves c))) _ _ (lt-ltb i (length (leaves c)) lt)

open_below : (k : ℕ) (r : Row) (c a : Trees) (i : ℕ) → i < length (leaves c) → open_around (Node k r c a) i ≡ record { row = k; place = holder c i } ∷ open_around c i
open_below k r c a i lt = cond-true (ltb i (length (leaves c))) _ _ (lt-ltb i (length (leaves c)) lt)

holder_behind : (k : ℕ) (r : Row) (c a : Trees) (i rest : ℕ) → i ≡ length (leaves c) + rest → holder (Node k r c a) i ≡ suc (holder a rest)
holder_behind k r c a i rest e =
    let less : i - length (leaves c) ≡ rest = omega arith in
    cond-false (ltb i (length (leaves c))) _ _ (le-ltb i (length (leaves c)) (omega arith)) ∙ ap (λ (n : ℕ). suc (holder a n)) less

open_behind : (k : ℕ) (r : Row) (c a : Trees) (i rest : ℕ) → i ≡ length (leaves c) + rest → open_around (Node k r c a) i ≡ open_around a rest
open_behind k r c a i rest e =
    let less : i - length (leaves c) ≡ rest = omega arith in
    cond-false (ltb i (length (leaves c))) _ _ (le-ltb i (length (leaves c)) (omega arith)) ∙ ap (open_around a) less

-- a node at whose start the token stands: its row begins with it, or derives the empty list and the token follows
starts : (g : List Row) (j : ℕ) (r : Row) (c a e : Trees) (ls : List ℕ) (u : ℕ) (ts : List ℕ) → AreTrees g (Node j r c a) → AreTrees g e → Follows g (r.left ∷ (roots a ++ roots e)) → IsToken g u
    → leaves c ≡ ls → ls ++ leaves (beside a e) ≡ u ∷ ts → BeginsWith g r.right u ⊎ (Nullable g r.right × InFollow g r.left (Some u))
starts g j r c a e [] u ts v w follows token el l =
    inr (
      subst (Nullable g) v.1 (nullable_trees g c v.2 el),
      follows.0 u (subst (λ (xs : List ℕ). BeginsWith g xs u) (roots_beside a e) (begins_trees g (beside a e) u ts (AreTrees_beside g a e v.3 w) l token)),
    )
starts g j r c a e (y ∷ ys) u ts v w follows token el l =
    let same : y ≡ u = cc in
    inl (subst (λ (xs : List ℕ). BeginsWith g xs u) v.1 (begins_trees g c u ys v.2 (el ∙ ap (λ (z : ℕ). z ∷ ys) same) token))

module _ (g : List Row) (good : IsGood g) where
  -- an allowed empty node stands only where no row of its symbol begins with what stands next
  takes_same : (k j : ℕ) (r s : Row) (u : ℕ) → IsRow g k r → IsRow g j s → s.left ≡ r.left → Nullable g r.right → InFollow g r.left (Some u) → BeginsWith g s.right u → TakesRank g k r (Some u) → j ≡ k
  takes_same k j r s u h i left n f b takes =
      elim (nullable_beside_first g good k j r s u (Some j) h i left n b f refl) [
        | inl same ↦ (let e : Some j ≡ Some k = same in cc)
        | inr y ↦ absurd (y.other.apart (takes y.j y.s y.token y.rest y.other.row y.other.left y.ranked y.begins y.stands))
      ]

  one_choice : (j k : ℕ) (r s : Row) (u : ℕ) → IsRow g j r → IsRow g k s → s.left ≡ r.left → TakesRank g j r (Some u) → TakesRank g k s (Some u)
      → BeginsWith g r.right u ⊎ (Nullable g r.right × InFollow g r.left (Some u)) → BeginsWith g s.right u ⊎ (Nullable g s.right × InFollow g s.left (Some u)) → k ≡ j
  one_choice j k r s u h i left p q (inl a) (inl b) = one_first g good j k r s u h i left a b
  one_choice j k r s u h i left p q (inr a) (inr b) = one_nullable g good j k r s h i left a.0 b.0
  one_choice j k r s u h i left p q (inr a) (inl b) = takes_same j k r s u h i left a.0 a.1 b p
  one_choice j k r s u h i left p q (inl a) (inr b) = sym (takes_same k j s r u i h (sym left) b.0 b.1 a q)

  module _ (t : ℕ) (us vs : List ℕ) where
    -- two nodes at one place are by one row
    pub same_node : (before : List ℕ) (j : ℕ) (r : Row) (c a : Trees) (k : ℕ) (s : Row) (d b e i : Trees) → Alike g before t us vs (Node j r c a) (Node k s d b) e i → (k ≡ j) × (s ≡ r)
    same_node before j r c a k s d b e i m =
        let v = m.valid in
        let w = m.other_valid in
        let u = head g before t m.terminal in
        let top : r.left ∷ roots a ≡ s.left ∷ roots b = m.top in
        let left : s.left ≡ r.left = cc in
        let l : leaves c ++ leaves (beside a e) ≡ u.token ∷ u.rest us = ap (λ (xs : List ℕ). leaves c ++ xs) (leaves_beside a e) ∙ (sym (append_assoc (leaves c) (leaves a) (leaves e)) ∙ (m.left ∙ u.parts us)) in
        let q : leaves d ++ leaves (beside b i) ≡ u.token ∷ u.rest vs = ap (λ (xs : List ℕ). leaves d ++ xs) (leaves_beside b i) ∙ (sym (append_assoc (leaves d) (leaves b) (leaves i)) ∙ (m.right ∙ u.parts vs)) in
        let next : first_or (leaves c ++ leaves a) (first_or (leaves e) None) ≡ Some u.token = sym (first_or_append (leaves c ++ leaves a) (leaves e) None) ∙ ap (λ (xs : List ℕ). first_or xs None) (m.left ∙ u.parts us) in
        let other_next : first_or (leaves d ++ leaves b) (first_or (leaves i) None) ≡ Some u.token = sym (first_or_append (leaves d ++ leaves b) (leaves i) None) ∙ ap (λ (xs : List ℕ). first_or xs None) (m.right ∙ u.parts vs) in
        let behind : roots a ++ roots e ≡ roots b ++ roots i = ap (λ (xs : List ℕ). xs ++ roots e) (cc) ∙ ap (λ (xs : List ℕ). roots b ++ xs) m.top_behind in
        let other_follows : Follows g (s.left ∷ (roots b ++ roots i)) = subst (λ (x : ℕ). Follows g (x ∷ (roots b ++ roots i))) (sym left) (subst (λ (xs : List ℕ). Follows g (r.left ∷ xs)) behind m.follows) in
        let same : k ≡ j = one_choice j k r s u.token v.0 w.0 left (subst (TakesRank g j r) next m.ranks.0) (subst (TakesRank g k s) other_next m.other_ranks.0)
        (starts g j r c a e (leaves c) u.token (u.rest us) v m.behind m.follows u.terminal refl l) (starts g k s d b i (leaves d) u.token (u.rest vs) w m.other_behind other_follows u.terminal refl q) in
        (same, same_row g j s r (subst (λ (z : ℕ). IsRow g z s) same w.0) v.0)

    -- the trees below two such nodes
    alike_below : (before : List ℕ) (j : ℕ) (r : Row) (c a : Trees) (k : ℕ) (s : Row) (d b e i : Trees) → s ≡ r → Alike g before t us vs (Node j r c a) (Node k s d b) e i → Alike g before t us vs c d (beside a e) (beside b i)
    alike_below before j r c a k s d b e i one m =
        let v = m.valid in
        let w = m.other_valid in
        let top : r.left ∷ roots a ≡ s.left ∷ roots b = m.top in
        record {
          terminal = m.terminal;
          valid = v.2;
          other_valid = w.2;
          behind = AreTrees_beside g a e v.3 m.behind;
          other_behind = AreTrees_beside g b i w.3 m.other_behind;
          top = v.1 ∙ (ap (λ (z : Row). z.right) (sym one) ∙ sym w.1);
          top_behind = roots_beside a e ∙ (ap (λ (xs : List ℕ). xs ++ roots e) (cc) ∙ (ap (λ (xs : List ℕ). roots b ++ xs) m.top_behind ∙ sym (roots_beside b i)));
          ranks = subst (RanksAllow g c) (sym (ap (λ (xs : List ℕ). first_or xs None) (leaves_beside a e) ∙ first_or_append (leaves a) (leaves e) None)) m.ranks.1;
          other_ranks = subst (RanksAllow g d) (sym (ap (λ (xs : List ℕ). first_or xs None) (leaves_beside b i) ∙ first_or_append (leaves b) (leaves i) None)) m.other_ranks.1;
          follows = subst (λ (xs : List ℕ). Follows g (roots c ++ xs)) (sym (roots_beside a e)) (subst (λ (xs : List ℕ). Follows g (xs ++ (roots a ++ roots e))) (sym v.1) (Follows_row g j r [] r.right (roots a ++ roots e) v.0 refl m.follows));
          left = ap (λ (xs : List ℕ). leaves c ++ xs) (leaves_beside a e) ∙ (sym (append_assoc (leaves c) (leaves a) (leaves e)) ∙ m.left);
          right = ap (λ (xs : List ℕ). leaves d ++ xs) (leaves_beside b i) ∙ (sym (append_assoc (leaves d) (leaves b) (leaves i)) ∙ m.right);
        }

    cancelled : (xs ys zs rest before : List ℕ) (ts : List ℕ) → before ≡ xs ++ rest → (xs ++ ys) ++ zs ≡ before ++ t ∷ ts → ys ++ zs ≡ rest ++ t ∷ ts
    cancelled xs ys zs rest before ts p q =
        append_cancel_left xs (ys ++ zs) (rest ++ t ∷ ts) (sym (append_assoc xs ys zs) ∙ (q ∙ (ap (λ (ws : List ℕ). ws ++ t ∷ ts) p ∙ append_assoc xs rest (t ∷ ts))))

    -- the trees behind them, where what is below them ends before the token
    alike_behind : (before : List ℕ) (j : ℕ) (r : Row) (c a : Trees) (k : ℕ) (s : Row) (d b e i : Trees) → (q : Past c d before) → Alike g before t us vs (Node j r c a) (Node k s d b) e i → Alike g q.rest t us vs a b e i
    alike_behind before j r c a k s d b e i q m =
        let top : r.left ∷ roots a ≡ s.left ∷ roots b = m.top in
        record {
          terminal = (AreTokens_parts g (leaves c) (q.rest ++ t ∷ []) (subst (AreTokens g) (ap (λ (xs : List ℕ). xs ++ t ∷ []) q.split ∙ append_assoc (leaves c) q.rest (t ∷ [])) m.terminal)).1;
          valid = m.valid.3;
          other_valid = m.other_valid.3;
          behind = m.behind;
          other_behind = m.other_behind;
          top = cc;
          top_behind = m.top_behind;
          ranks = m.ranks.2;
          other_ranks = m.other_ranks.2;
          follows = m.follows.1;
          left = cancelled (leaves c) (leaves a) (leaves e) q.rest before us q.split m.left;
          right = cancelled (leaves d) (leaves b) (leaves i) q.rest before vs (q.split ∙ ap (λ (xs : List ℕ). xs ++ q.rest) (sym q.same)) m.right;
        }

    leaf_token : (before : List ℕ) (x : ℕ) (xs ts : List ℕ) → AreTokens g (before ++ t ∷ []) → x ∷ xs ≡ before ++ t ∷ ts → IsToken g x
    leaf_token [] x xs ts a e = let same : x ≡ t = cc in subst (IsToken g) (sym same) a.0
    leaf_token (z ∷ before) x xs ts a e = let same : x ≡ z = cc in subst (IsToken g) (sym same) a.0

    -- two leaves at one place
    by_leaf : (before : List ℕ) (x : ℕ) (a : Trees) (y : ℕ) (b e i : Trees) → Alike g before t us vs (Leaf x a) (Leaf y b) e i
        → ((rest : List ℕ) → Alike g rest t us vs a b e i → Within a b rest ⊎ Past a b rest) → Within (Leaf x a) (Leaf y b) before ⊎ Past (Leaf x a) (Leaf y b) before
    by_leaf [] x a y b e i m further = inl (record { left = omega arith; right = omega arith; place = refl; nodes = refl })
    by_leaf (z ∷ before) x a y b e i m further =
        let top : x ∷ roots a ≡ y ∷ roots b = m.top in
        let left : x ∷ (leaves a ++ leaves e) ≡ z ∷ (before ++ t ∷ us) = m.left in
        let right : y ∷ (leaves b ++ leaves i) ≡ z ∷ (before ++ t ∷ vs) = m.right in
        let same : z ≡ x = cc in
        elim (further before (record {
          terminal = m.terminal.1;
          valid = m.valid;
          other_valid = m.other_valid;
          behind = m.behind;
          other_behind = m.other_behind;
          top = cc;
          top_behind = m.top_behind;
          ranks = m.ranks;
          other_ranks = m.other_ranks;
          follows = m.follows.1;
          left = cc;
          right = cc;
        })) [
          | inl w ↦ inl (record { left = (let lt = w.left in omega arith); right = (let lt = w.right in omega arith); place = ap suc w.place; nodes = w.nodes })
          | inr q ↦ inr (record { rest = q.rest; split = ap (λ (n : ℕ). n ∷ before) same ∙ ap (λ (zs : List ℕ). x ∷ zs) q.split; same = ap (λ (n : ℕ). n ∷ leaves b) (cc) ∙ ap (λ (zs : List ℕ). x ∷ zs) q.same })
        ]

    -- two nodes by one row
    by_node : (before : List ℕ) (j : ℕ) (r : Row) (c a : Trees) (k : ℕ) (s : Row) (d b : Trees) → k ≡ j → Within c d before ⊎ Past c d before
        → ((q : Past c d before) → Within a b q.rest ⊎ Past a b q.rest) → Within (Node j r c a) (Node k s d b) before ⊎ Past (Node j r c a) (Node k s d b) before
    by_node before j r c a k s d b same (inl w) further =
        let m = length-append (leaves c) (leaves a) in
        let n = length-append (leaves d) (leaves b) in
        inl (record {
          left = (let lt = w.left in let e : length (leaves c ++ leaves a) ≡ length (leaves c) + length (leaves a) = m in omega arith);
          right = (let lt = w.right in let e : length (leaves d ++ leaves b) ≡ length (leaves d) + length (leaves b) = n in omega arith);
          place = holder_below j r c a (length before) w.left ∙ sym (holder_below k s d b (length before) w.right);
          nodes = open_below j r c a (length before) w.left
              ∙ (ap (λ (p : ℕ). record { row = j; place = p } ∷ open_around c (length before)) w.place
              ∙ (ap (λ (p : ℕ). record { row = p; place = holder d (length before) } ∷ open_around c (length before)) (sym same)
              ∙ (ap (λ (ns : List OpenNode). record { row = k; place = holder d (length before) } ∷ ns) w.nodes ∙ sym (open_below k s d b (length before) w.right))));
        })
    by_node before j r c a k s d b same (inr q) further = by_rest (further q)
      where
        size : length before ≡ length (leaves c) + length q.rest
        size = ap length q.split ∙ length-append (leaves c) q.rest

        sizes : length (leaves d) ≡ length (leaves c)
        sizes = ap length q.same

        by_rest : Within a b q.rest ⊎ Past a b q.rest → Within (Node j r c a) (Node k s d b) before ⊎ Past (Node j r c a) (Node k s d b) before
        by_rest (inl w) =
            inl (record {
              left = (let lt = w.left in let e : length (leaves c ++ leaves a) ≡ length (leaves c) + length (leaves a) = length-append (leaves c) (leaves a) in omega (arith, size));
              right = (let lt = w.right in let e : length (leaves d ++ leaves b) ≡ length (leaves d) + length (leaves b) = length-append (leaves d) (leaves b) in omega (arith, size, sizes));
              place = holder_behind j r c a (length before) (length q.rest) size ∙ (ap suc w.place ∙ sym (holder_behind k s d b (length before) (length q.rest) (omega (arith, size, sizes))));
              nodes = open_behind j r c a (length before) (length q.rest) size ∙ (w.nodes ∙ sym (open_behind k s d b (length before) (length q.rest) (omega (arith, size, sizes))));
            })
        by_rest (inr p) =
            inr (record {
              rest = p.rest;
              split = q.split ∙ (ap (λ (xs : List ℕ). leaves c ++ xs) p.split ∙ sym (append_assoc (leaves c) (leaves a) p.rest));
              same = ap (λ (xs : List ℕ). xs ++ leaves b) q.same ∙ ap (λ (xs : List ℕ). leaves c ++ xs) p.same;
            })

    sync : (before : List ℕ) (f h e i : Trees) → Alike g before t us vs f h e i → Within f h before ⊎ Past f h before
    sync before End End e i m = inr (record { rest = before; split = refl; same = refl })
    sync before End (Leaf y b) e i m = absurd (let e : [] ≡ y ∷ roots b = m.top in cc)
    sync before End (Node k s d b) e i m = absurd (let e : [] ≡ s.left ∷ roots b = m.top in cc)
    sync before (Leaf x a) End e i m = absurd (let e : x ∷ roots a ≡ [] = m.top in cc)
    sync before (Leaf x a) (Leaf y b) e i m = by_leaf before x a y b e i m (λ rest q. sync rest a b e i q)
    sync before (Leaf x a) (Node k s d b) e i m =
        let top : x ∷ roots a ≡ s.left ∷ roots b = m.top in
        absurd (leaf_token before x (leaves a ++ leaves e) us m.terminal m.left k s m.other_valid.0 (cc))
    sync before (Node j r c a) End e i m = absurd (let e : r.left ∷ roots a ≡ [] = m.top in cc)
    sync before (Node j r c a) (Leaf y b) e i m =
        let top : r.left ∷ roots a ≡ y ∷ roots b = m.top in
        absurd (leaf_token before y (leaves b ++ leaves i) vs m.terminal m.right j r m.valid.0 (cc))
    sync before (Node j r c a) (Node k s d b) e i m =
        let same = same_node before j r c a k s d b e i m in
        by_node before j r c a k s d b same.0 (sync before c d (beside a e) (beside b i) (alike_below before j r c a k s d b e i same.1 m))
        (λ q. sync q.rest a b e i (alike_behind before j r c a k s d b e i q m))

    pub open_determined : (before : List ℕ) (tree other : Trees) → IsAllowedTree g tree (before ++ t ∷ us) → IsAllowedTree g other (before ++ t ∷ vs) → open_around tree (length before) ≡ open_around other (length before)
    open_determined before tree other a b =
        elim (sync before tree other End End (record {
          terminal = (AreTokens_parts g (before ++ t ∷ []) us (subst (AreTokens g) (sym (append_assoc before (t ∷ []) us)) a.terminal)).0;
          valid = a.valid;
          other_valid = b.valid;
          behind = tt;
          other_behind = tt;
          top = a.top ∙ sym b.top;
          top_behind = refl;
          ranks = a.ranks;
          other_ranks = b.ranks;
          follows = subst (λ (xs : List ℕ). Follows g (xs ++ [])) (sym a.top) (Follows_start g);
          left = append-nil (leaves tree) ∙ a.bottom;
          right = append-nil (leaves other) ∙ b.bottom;
        })) [
          | inl w ↦ w.nodes
          | inr q ↦ absurd (
              let e : length (leaves tree) ≡ length before + length (t ∷ us) = ap length a.bottom ∙ length-append before (t ∷ us) in
              let s : length before ≡ length (leaves tree) + length q.rest = ap length q.split ∙ length-append (leaves tree) q.rest in
              let n : length (t ∷ us) ≡ suc (length us) = refl in
              omega arith)
        ]
