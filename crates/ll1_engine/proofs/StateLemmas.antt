-- The state of a parse, and how each step keeps it. The stack holds the symbols that are still to be derived.
use Rattle.std.proofs.Common.{◌≡◌, ℕ, ◌+◌, ◌<◌, suc, arith, List, [], ◌∷◌, ◌++◌, Option, None, Some, refl, sym, ap, ◌∙◌, subst, inl, inr, append_assoc, length, length-append, zero-add}
use Rattle.ll1_engine.specs.declared.grammar.Row.{Row}
use Rattle.ll1_engine.specs.declared.fault.Break.TheVariants.{Rank}
use Rattle.ll1_engine.specs.Table.{IsRow, IsToken}
use Rattle.ll1_engine.specs.Trees.{Trees, End, Leaf, Node, roots, leaves, preorder, AreTrees}
use Rattle.ll1_engine.specs.Conditions.{IsGood}
use Rattle.ll1_engine.specs.Prediction.{Predicts}
use Rattle.ll1_engine.specs.Parse.{first_or, TakesRank, RanksAllow}
use Rattle.ll1_engine.proofs.TreesLemmas.{beside, roots_beside, leaves_beside, preorder_beside, AreTrees_beside, size, size_beside, RanksAllow_beside, RanksAllow_parts, parts, same_row}
use Rattle.ll1_engine.proofs.RowsBeforeLemmas.{rows_before_node}
use Rattle.ll1_engine.specs.Open.{rows_before}
use Rattle.ll1_engine.proofs.FirstLemmas.{Follows, Follows_start, Follows_row}
use Rattle.ll1_engine.proofs.MayRankLemmas.{Lacks, lacks_elsewhere, moved}
use Rattle.ll1_engine.proofs.PredictionLemmas.{Yields, choice_of, TakesRank_predicted}

-- there are trees with these roots and these leaves
pub record Spans (g : List Row) (xs ts : List ℕ) : Type 0 where
  pub trees : Trees
  pub valid : AreTrees g trees
  pub top : roots trees ≡ xs
  pub bottom : leaves trees ≡ ts

-- and they have so many nodes and leaves
pub record SpansIn (g : List Row) (xs ts : List ℕ) (n : ℕ) : Type 0 where
  pub trees : Trees
  pub valid : AreTrees g trees
  pub top : roots trees ≡ xs
  pub bottom : leaves trees ≡ ts
  pub count : size trees ≡ n

-- and they have these rows, and the ranks allow them
pub record Ranked (g : List Row) (xs ts rows : List ℕ) : Type 0 where
  pub trees : Trees
  pub valid : AreTrees g trees
  pub top : roots trees ≡ xs
  pub bottom : leaves trees ≡ ts
  pub order : preorder trees ≡ rows
  pub ranks : RanksAllow g trees None

-- no first token of a row with a rank is among the symbols
abbrev pub IsClean : List Row → List ℕ → Type 0
IsClean g xs = (j : ℕ) (s : Row) (t : ℕ) (rest : List ℕ) → IsRow g j s → 0 < s.rank → s.right ≡ t ∷ rest → Lacks t xs

-- all but the first
abbrev pub behind : List ℕ → List ℕ
behind [] = []
behind (x ∷ xs) = xs

-- What is left of a tree of xs, of which so many leaves are taken and begin behind these rows: trees with the roots on the
-- stack, whose nodes and leaves stand in the tree behind those.
pub record Left (g : List Row) (stack ts : List ℕ) (tree : Trees) (taken : ℕ) (rows : List ℕ) : Type 0 where
  pub trees : Trees
  pub valid : AreTrees g trees
  pub top : roots trees ≡ stack
  pub bottom : leaves trees ≡ ts
  pub ranks : RanksAllow g trees None
  pub behind_rows : (i : ℕ) → rows_before tree (taken + i) ≡ rows ++ rows_before trees i

-- a whole tree of the tokens that were taken and more
pub record Whole (g : List Row) (tree : Trees) (ts : List ℕ) : Type 0 where
  pub valid : AreTrees g tree
  pub top : roots tree ≡ 0 ∷ []
  pub bottom : leaves tree ≡ ts
  pub ranks : RanksAllow g tree None

-- the rest of the tokens comes after the taken ones, the rows are those so far, and the stack is what is to be
-- derived: what the stack derives completes what was taken, and each derivation that goes on with the token
-- that stands next, leads through this stack
pub record State (g : List Row) (taken rest rows stack : List ℕ) : Type 0 where
  pub begun : (ts : List ℕ) → Spans g stack ts → Spans g (0 ∷ []) (taken ++ ts)
  pub grown : (more : List ℕ) → Ranked g stack rest more → Ranked g (0 ∷ []) (taken ++ rest) (rows ++ more)
  pub any : (ts : List ℕ) → first_or ts None ≡ first_or rest None → Spans g (0 ∷ []) (taken ++ ts) → Spans g stack ts
  pub only : (all : List ℕ) → Ranked g (0 ∷ []) (taken ++ rest) all → (more : List ℕ) × Ranked g stack rest more × (all ≡ rows ++ more)
  pub left : (ts : List ℕ) (tree : Trees) → first_or ts None ≡ first_or rest None → Whole g tree (taken ++ ts) → Left g stack ts tree (length taken) rows
  pub follows : Follows g stack
  pub clean : IsClean g (behind stack)

pub State_start : (g : List Row) (tokens : List ℕ) → State g [] tokens [] (0 ∷ [])
State_start g tokens =
    record {
      begun = λ ts h. h;
      grown = λ more h. h;
      any = λ ts e h. h;
      only = λ all h. (all, h, refl);
      left = λ ts tree e w. record { trees = tree; valid = w.valid; top = w.top; bottom = w.bottom; ranks = w.ranks; behind_rows = λ i. ap (rows_before tree) (zero-add i) };
      follows = Follows_start g;
      clean = λ j s t rest h r e. tt;
    }

-- a node above trees for the right side of its row
pub Spans_node : (g : List Row) (k : ℕ) (r : Row) (xs ts : List ℕ) → IsRow g k r → Spans g (r.right ++ xs) ts → Spans g (r.left ∷ xs) ts
Spans_node g k r xs ts h s =
    let p = parts g r.right xs s.trees s.valid s.top in
    record {
      trees = Node k r p.front p.back;
      valid = (h, p.front_top, p.front_valid, p.back_valid);
      top = ap (λ (ys : List ℕ). r.left ∷ ys) p.back_top;
      bottom = sym (leaves_beside p.front p.back) ∙ (ap leaves p.whole ∙ s.bottom);
    }

pub Ranked_node : (g : List Row) (k : ℕ) (r : Row) (xs ts more : List ℕ) → IsRow g k r → TakesRank g k r (first_or ts None) → Ranked g (r.right ++ xs) ts more → Ranked g (r.left ∷ xs) ts (k ∷ more)
Ranked_node g k r xs ts more h takes s =
    let p = parts g r.right xs s.trees s.valid s.top in
    let e : leaves p.front ++ leaves p.back ≡ ts = sym (leaves_beside p.front p.back) ∙ (ap leaves p.whole ∙ s.bottom) in
    let ranks = RanksAllow_parts g p.front p.back None (subst (λ (f : Trees). RanksAllow g f None) (sym p.whole) s.ranks) in
    record {
      trees = Node k r p.front p.back;
      valid = (h, p.front_top, p.front_valid, p.back_valid);
      top = ap (λ (ys : List ℕ). r.left ∷ ys) p.back_top;
      bottom = e;
      order = ap (λ (ys : List ℕ). k ∷ ys) (sym (preorder_beside p.front p.back) ∙ (ap preorder p.whole ∙ s.order));
      ranks = (subst (λ (ys : List ℕ). TakesRank g k r (first_or ys None)) (sym e) takes, ranks.0, ranks.1);
    }

-- the trees below a node, and those behind it
pub Spans_below : (g : List Row) (k : ℕ) (r : Row) (c f : Trees) (xs ts : List ℕ) → AreTrees g (Node k r c f) → roots f ≡ xs → leaves c ++ leaves f ≡ ts → Spans g (r.right ++ xs) ts
Spans_below g k r c f xs ts v top l =
    record {
      trees = beside c f;
      valid = AreTrees_beside g c f v.2 v.3;
      top = roots_beside c f ∙ (ap (λ (ys : List ℕ). ys ++ roots f) v.1 ∙ ap (λ (ys : List ℕ). r.right ++ ys) top);
      bottom = leaves_beside c f ∙ l;
    }

module _ (g : List Row) (good : IsGood g) where
  -- the row with the rank in place of an empty row
  pub Spans_swapped : (k : ℕ) (r : Row) (c f : Trees) (ts : List ℕ) (choice : Option ℕ) → AreTrees g (Node k r c f) → leaves c ++ leaves f ≡ ts → IsClean g (roots f) → (y : Yields g k r (first_or ts None) choice) → SpansIn g (y.s.right ++ roots f) ts (size f)
  Spans_swapped k r End f [] choice v l clean y = absurd (let e : None ≡ Some y.token = y.stands in cc)
  Spans_swapped k r End f (t ∷ ts) choice v l clean y =
      let same : t ≡ y.token = (let e : Some t ≡ Some y.token = y.stands in cc) in
      let m = good y.j y.s Rank y.other.row y.ranked in
      let token : m.token ≡ y.token = (let b : m.token ∷ m.rest ≡ y.token ∷ y.rest = sym m.begins ∙ y.begins in cc) in
      let here = moved g y.j k y.s r y.token y.rest y.other.row y.begins v.0 (sym y.other.left) y.empty (subst (IsToken g) token m.terminal)
      (subst (λ (z : ℕ). (j : ℕ) (s : Row) (before after : List ℕ) → IsRow g j s → s.right ≡ before ++ z ∷ after → (j ≡ y.j) × (before ≡ [])) token m.once)
      f ts v.3 (clean y.j y.s y.token y.rest y.other.row y.ranked y.begins) (l ∙ ap (λ (z : ℕ). z ∷ ts) same) in
      record {
        trees = Leaf y.token (beside here.front here.back);
        valid = AreTrees_beside g here.front here.back here.front_valid here.back_valid;
        top = ap (λ (ys : List ℕ). y.token ∷ ys) (roots_beside here.front here.back ∙ (ap (λ (ys : List ℕ). ys ++ roots here.back) here.front_top ∙ ap (λ (ys : List ℕ). y.rest ++ ys) here.back_top)) ∙ ap (λ (ys : List ℕ). ys ++ roots f) (sym y.begins);
        bottom = ap (λ (ys : List ℕ). y.token ∷ ys) (leaves_beside here.front here.back ∙ here.bottom) ∙ ap (λ (z : ℕ). z ∷ ts) (sym same);
        count = (let e : suc (size here.front + size here.back) ≡ size f = here.count in let b : size (beside here.front here.back) ≡ size here.front + size here.back = size_beside here.front here.back in omega arith);
      }
  Spans_swapped k r (Leaf x c) f ts choice v l clean y = absurd (let e : x ∷ roots c ≡ [] = v.1 ∙ y.empty in cc)
  Spans_swapped k r (Node i q b c) f ts choice v l clean y = absurd (let e : q.left ∷ roots c ≡ [] = v.1 ∙ y.empty in cc)

  -- the trees whose first root is the left of the predicted row k: they take it, or can
  below_choice : (k : ℕ) (r : Row) (xs ts : List ℕ) (f : Trees) → IsRow g k r → ((t : ℕ) (us : List ℕ) → ts ≡ t ∷ us → IsToken g t) → Predicts g r.left (first_or ts None) (Some k) → Follows g (r.left ∷ xs) → IsClean g xs → AreTrees g f → roots f ≡ r.left ∷ xs → leaves f ≡ ts → Spans g (r.right ++ xs) ts
  below_choice k r xs ts End h tok p fol clean v top l = absurd (cc)
  below_choice k r xs ts (Leaf y f) h tok p fol clean v top l =
      absurd (let same : y ≡ r.left = cc in tok r.left (leaves f) (sym l ∙ ap (λ (z : ℕ). z ∷ leaves f) same) k r h refl)
  below_choice k r xs ts (Node i q c f) h tok p fol clean v top l =
      let left : q.left ≡ r.left = cc in
      let rest : roots f ≡ xs = cc in
      let fol' : Follows g (q.left ∷ roots f) = subst (Follows g) (sym top) fol in
      let p' : Predicts g q.left (first_or ts None) (Some k) = subst (λ (x : ℕ). Predicts g x (first_or ts None) (Some k)) (sym left) p in
      elim (choice_of g good i q c f v fol' (Some k) ts tok l p') [
        | inl same ↦ (
            let here : i ≡ k = cc in
            let one : q ≡ r = same_row g k q r (subst (λ (z : ℕ). IsRow g z q) here v.0) h in
            subst (λ (z : Row). Spans g (z.right ++ xs) ts) one (Spans_below g i q c f xs ts v rest l))
        | inr y ↦ (
            let there : y.j ≡ k = (let e : Some k ≡ Some y.j = y.chosen in cc) in
            let one : y.s ≡ r = same_row g k y.s r (subst (λ (z : ℕ). IsRow g z y.s) there y.other.row) h in
            let s = Spans_swapped i q c f ts (Some k) v l (subst (IsClean g) (sym rest) clean) y in
            subst (λ (z : Row). Spans g (z.right ++ xs) ts) one (subst (λ (zs : List ℕ). Spans g (y.s.right ++ zs) ts) rest (record { trees = s.trees; valid = s.valid; top = s.top; bottom = s.bottom })))
      ]

  -- where the ranks allow the trees, they take it, and their other rows come after it
  below_ranked : (k : ℕ) (r : Row) (xs ts rows : List ℕ) (f : Trees) → IsRow g k r → ((t : ℕ) (us : List ℕ) → ts ≡ t ∷ us → IsToken g t) → Predicts g r.left (first_or ts None) (Some k) → Follows g (r.left ∷ xs) → AreTrees g f → roots f ≡ r.left ∷ xs → leaves f ≡ ts → preorder f ≡ rows → RanksAllow g f None
      → (more : List ℕ) × Ranked g (r.right ++ xs) ts more × (rows ≡ k ∷ more)
  unfolding Spans_below
  below_ranked k r xs ts rows End h tok p fol v top l o ranks = absurd (cc)
  below_ranked k r xs ts rows (Leaf y f) h tok p fol v top l o ranks =
      absurd (let same : y ≡ r.left = cc in tok r.left (leaves f) (sym l ∙ ap (λ (z : ℕ). z ∷ leaves f) same) k r h refl)
  below_ranked k r xs ts rows (Node i q c f) h tok p fol v top l o ranks =
      let left : q.left ≡ r.left = cc in
      let rest : roots f ≡ xs = cc in
      let fol' : Follows g (q.left ∷ roots f) = subst (Follows g) (sym top) fol in
      let p' : Predicts g q.left (first_or ts None) (Some k) = subst (λ (x : ℕ). Predicts g x (first_or ts None) (Some k)) (sym left) p in
      let same : i ≡ k = elim (choice_of g good i q c f v fol' (Some k) ts tok l p') [
        | inl same ↦ (cc)
        | inr y ↦ absurd (y.other.apart (ranks.0 y.j y.s y.token y.rest y.other.row y.other.left y.ranked y.begins (ap (λ (zs : List ℕ). first_or zs None) l ∙ y.stands)))
      ] in
      let one : q ≡ r = same_row g k q r (subst (λ (z : ℕ). IsRow g z q) same v.0) h in
      let s = Spans_below g i q c f xs ts v rest l in (
        preorder (beside c f),
        record {
          trees = beside c f;
          valid = AreTrees_beside g c f v.2 v.3;
          top = subst (λ (z : Row). roots (beside c f) ≡ z.right ++ xs) one s.top;
          bottom = s.bottom;
          order = refl;
          ranks = RanksAllow_beside g c f None ranks.1 ranks.2;
        },
        sym o ∙ (ap (λ (z : ℕ). z ∷ (preorder c ++ preorder f)) same ∙ ap (λ (zs : List ℕ). k ∷ zs) (sym (preorder_beside c f))),
      )

  -- and the nodes below it, and those behind it, begin behind its row
  below_left : (k : ℕ) (r : Row) (xs ts rows : List ℕ) (tree : Trees) (taken : ℕ) (f : Trees) → IsRow g k r → ((t : ℕ) (us : List ℕ) → ts ≡ t ∷ us → IsToken g t) → Predicts g r.left (first_or ts None) (Some k) → Follows g (r.left ∷ xs)
      → AreTrees g f → roots f ≡ r.left ∷ xs → leaves f ≡ ts → RanksAllow g f None → ((i : ℕ) → rows_before tree (taken + i) ≡ rows ++ rows_before f i) → Left g (r.right ++ xs) ts tree taken (rows ++ k ∷ [])
  unfolding Spans_below
  below_left k r xs ts rows tree taken End h tok p fol v top l ranks b = absurd (cc)
  below_left k r xs ts rows tree taken (Leaf y f) h tok p fol v top l ranks b =
      absurd (let same : y ≡ r.left = cc in tok r.left (leaves f) (sym l ∙ ap (λ (z : ℕ). z ∷ leaves f) same) k r h refl)
  below_left k r xs ts rows tree taken (Node i q c f) h tok p fol v top l ranks b =
      let left : q.left ≡ r.left = cc in
      let rest : roots f ≡ xs = cc in
      let fol' : Follows g (q.left ∷ roots f) = subst (Follows g) (sym top) fol in
      let p' : Predicts g q.left (first_or ts None) (Some k) = subst (λ (x : ℕ). Predicts g x (first_or ts None) (Some k)) (sym left) p in
      let same : i ≡ k = elim (choice_of g good i q c f v fol' (Some k) ts tok l p') [
        | inl same ↦ (cc)
        | inr y ↦ absurd (y.other.apart (ranks.0 y.j y.s y.token y.rest y.other.row y.other.left y.ranked y.begins (ap (λ (zs : List ℕ). first_or zs None) l ∙ y.stands)))
      ] in
      let one : q ≡ r = same_row g k q r (subst (λ (z : ℕ). IsRow g z q) same v.0) h in
      let s = Spans_below g i q c f xs ts v rest l in
      record {
        trees = beside c f;
        valid = AreTrees_beside g c f v.2 v.3;
        top = subst (λ (z : Row). roots (beside c f) ≡ z.right ++ xs) one s.top;
        bottom = s.bottom;
        ranks = RanksAllow_beside g c f None ranks.1 ranks.2;
        behind_rows = λ j. b j ∙ (ap (λ (zs : List ℕ). rows ++ zs) (rows_before_node i q c f j)
            ∙ (ap (λ (z : ℕ). rows ++ z ∷ rows_before (beside c f) j) same ∙ sym (append_assoc rows (k ∷ []) (rows_before (beside c f) j))));
      }

  Lacks_append : (t : ℕ) (xs ys : List ℕ) → Lacks t xs → Lacks t ys → Lacks t (xs ++ ys)
  Lacks_append t [] ys a b = b
  Lacks_append t (x ∷ xs) ys a b = (a.0, Lacks_append t xs ys a.1 b)

  pub Lacks_behind : (t : ℕ) (xs : List ℕ) → Lacks t xs → Lacks t (behind xs)
  Lacks_behind t [] a = tt
  Lacks_behind t (x ∷ xs) a = a.1

  pub clean_row : (j k : ℕ) (s r : Row) (t : ℕ) (rest ys xs : List ℕ) → IsRow g j s → 0 < s.rank → s.right ≡ t ∷ rest → IsRow g k r → r.right ≡ ys → Lacks t xs → Lacks t (behind (ys ++ xs))
  clean_row j k s r t rest [] xs hj ranked begins h e lacks = Lacks_behind t xs lacks
  clean_row j k s r t rest (y ∷ ys) xs hj ranked begins h e lacks =
      let m = good j s Rank hj ranked in
      let token : m.token ≡ t = (let b : m.token ∷ m.rest ≡ t ∷ rest = sym m.begins ∙ begins in cc) in
      Lacks_append t ys xs (subst (λ (z : ℕ). Lacks z ys) token (lacks_elsewhere g m.token j k r (y ∷ []) ys m.once h e (λ i n. cc))) lacks

  -- the predicted row in place of its symbol
  pub State_expand : (taken rest rows xs : List ℕ) (k : ℕ) (r : Row) → IsRow g k r → ((t : ℕ) (us : List ℕ) → rest ≡ t ∷ us → IsToken g t) → Predicts g r.left (first_or rest None) (Some k) → State g taken rest rows (r.left ∷ xs) → State g taken rest (rows ++ k ∷ []) (r.right ++ xs)
  State_expand taken rest rows xs k r h tok p st =
      record {
        begun = λ ts s. st.begun ts (Spans_node g k r xs ts h s);
        grown = λ more s. subst (Ranked g (0 ∷ []) (taken ++ rest)) (sym (append_assoc rows (k ∷ []) more)) (st.grown (k ∷ more) (Ranked_node g k r xs rest more h (TakesRank_predicted g good r.left k r (first_or rest None) h refl p) s));
        any = λ ts e s. let q = st.any ts e s in below_choice k r xs ts q.trees h (λ t us i. token_first ts t us e i) (subst (λ (z : Option ℕ). Predicts g r.left z (Some k)) (sym e) p) st.follows st.clean q.valid q.top q.bottom;
        only = λ all s. let q = st.only all s in let b = below_ranked k r xs rest q.0 q.1.trees h tok p st.follows q.1.valid q.1.top q.1.bottom q.1.order q.1.ranks in
            (b.0, b.1, q.2 ∙ (ap (λ (zs : List ℕ). rows ++ zs) b.2 ∙ sym (append_assoc rows (k ∷ []) b.0)));
        left = λ ts tree e w. let q = st.left ts tree e w in
            below_left k r xs ts rows tree (length taken) q.trees h (λ t us i. token_first ts t us e i) (subst (λ (z : Option ℕ). Predicts g r.left z (Some k)) (sym e) p) st.follows q.valid q.top q.bottom q.ranks q.behind_rows;
        follows = Follows_row g k r [] r.right xs h refl st.follows;
        clean = λ j s t more hj ranked begins. clean_row j k s r t more r.right xs hj ranked begins h refl (st.clean j s t more hj ranked begins);
      }
    where
      head_of : (zs : List ℕ) (t : ℕ) → Some t ≡ first_or zs None → ((u : ℕ) (us : List ℕ) → zs ≡ u ∷ us → IsToken g u) → IsToken g t
      head_of [] t e f = absurd (let i : Some t ≡ None = e in cc)
      head_of (z ∷ zs) t e f = (let same : z ≡ t = cc in subst (IsToken g) same (f z zs refl))

      token_first : (ts : List ℕ) (t : ℕ) (us : List ℕ) → first_or ts None ≡ first_or rest None → ts ≡ t ∷ us → IsToken g t
      token_first ts t us e i = head_of rest t (sym (ap (λ (zs : List ℕ). first_or zs None) i) ∙ e) tok

  -- no row is predicted: nothing goes on with what stands next
  stuck_trees : (x : ℕ) (xs ts : List ℕ) (f : Trees) → ¬ IsToken g x → ((t : ℕ) (us : List ℕ) → ts ≡ t ∷ us → IsToken g t) → Predicts g x (first_or ts None) None → Follows g (x ∷ xs) → AreTrees g f → roots f ≡ x ∷ xs → leaves f ≡ ts → ⊥
  stuck_trees x xs ts End inner tok p fol v top l = cc
  stuck_trees x xs ts (Leaf y f) inner tok p fol v top l = inner (let same : y ≡ x = cc in tok x (leaves f) (sym l ∙ ap (λ (z : ℕ). z ∷ leaves f) same))
  stuck_trees x xs ts (Node i q c f) inner tok p fol v top l =
      let left : q.left ≡ x = cc in
      elim (choice_of g good i q c f v (subst (Follows g) (sym top) fol) None ts tok l (subst (λ (z : ℕ). Predicts g z (first_or ts None) None) (sym left) p)) [
        | inl same ↦ (cc)
        | inr y ↦ (let e : None ≡ Some y.j = y.chosen in cc)
      ]

  pub stuck_choice : (x : ℕ) (xs ts : List ℕ) → ¬ IsToken g x → ((t : ℕ) (us : List ℕ) → ts ≡ t ∷ us → IsToken g t) → Predicts g x (first_or ts None) None → Follows g (x ∷ xs) → ¬ Spans g (x ∷ xs) ts
  stuck_choice x xs ts inner tok p fol s = stuck_trees x xs ts s.trees inner tok p fol s.valid s.top s.bottom

-- a leaf in front
pub Spans_leaf : (g : List Row) (t : ℕ) (xs ts : List ℕ) → Spans g xs ts → Spans g (t ∷ xs) (t ∷ ts)
Spans_leaf g t xs ts s = record { trees = Leaf t s.trees; valid = s.valid; top = ap (λ (zs : List ℕ). t ∷ zs) s.top; bottom = ap (λ (zs : List ℕ). t ∷ zs) s.bottom }

pub Ranked_leaf : (g : List Row) (t : ℕ) (xs ts rows : List ℕ) → Ranked g xs ts rows → Ranked g (t ∷ xs) (t ∷ ts) rows
Ranked_leaf g t xs ts rows s = record { trees = Leaf t s.trees; valid = s.valid; top = ap (λ (zs : List ℕ). t ∷ zs) s.top; bottom = ap (λ (zs : List ℕ). t ∷ zs) s.bottom; order = s.order; ranks = s.ranks }

-- a token at the root is the first leaf
pub Ranked_token : (g : List Row) (t : ℕ) (xs : List ℕ) (u : ℕ) (ts rows : List ℕ) → IsToken g t → Ranked g (t ∷ xs) (u ∷ ts) rows → (t ≡ u) × Ranked g xs ts rows
Ranked_token g t xs u ts rows h s = from s.trees s.valid s.top s.bottom s.order s.ranks
  where
    from : (f : Trees) → AreTrees g f → roots f ≡ t ∷ xs → leaves f ≡ u ∷ ts → preorder f ≡ rows → RanksAllow g f None → (t ≡ u) × Ranked g xs ts rows
    from End v top l o r = absurd (cc)
    from (Leaf y f) v top l o r = (cc, record { trees = f; valid = v; top = cc; bottom = cc; order = o; ranks = r })
    from (Node k q c f) v top l o r = absurd (h k q v.0 (cc))

pub Left_token : (g : List Row) (t : ℕ) (xs ts : List ℕ) (tree : Trees) (taken next : ℕ) (rows : List ℕ) → IsToken g t → next ≡ taken + 1 → Left g (t ∷ xs) (t ∷ ts) tree taken rows → Left g xs ts tree next rows
Left_token g t xs ts tree taken next rows h n s = from s.trees s.valid s.top s.bottom s.ranks s.behind_rows
  where
    from : (f : Trees) → AreTrees g f → roots f ≡ t ∷ xs → leaves f ≡ t ∷ ts → RanksAllow g f None → ((i : ℕ) → rows_before tree (taken + i) ≡ rows ++ rows_before f i) → Left g xs ts tree next rows
    from End v top l r b = absurd (cc)
    from (Leaf y f) v top l r b =
        record { trees = f; valid = v; top = cc; bottom = cc; ranks = r; behind_rows = λ i. ap (rows_before tree) (let e : next + i ≡ taken + suc i = omega arith in e) ∙ b (suc i) }
    from (Node k q c f) v top l r b = absurd (h k q v.0 (cc))

pub Spans_token : (g : List Row) (t : ℕ) (xs ts : List ℕ) → IsToken g t → Spans g (t ∷ xs) ts → (us : List ℕ) × (ts ≡ t ∷ us) × Spans g xs us
Spans_token g t xs ts h s = from s.trees s.valid s.top s.bottom
  where
    from : (f : Trees) → AreTrees g f → roots f ≡ t ∷ xs → leaves f ≡ ts → (us : List ℕ) × (ts ≡ t ∷ us) × Spans g xs us
    from End v top l = absurd (cc)
    from (Leaf y f) v top l = (leaves f, (let same : y ≡ t = cc in sym l ∙ ap (λ (z : ℕ). z ∷ leaves f) same), record { trees = f; valid = v; top = cc; bottom = refl })
    from (Node k q c f) v top l = absurd (h k q v.0 (cc))

-- the token on the stack stands next
pub State_take : (g : List Row) (taken rest rows xs : List ℕ) (t : ℕ) → IsToken g t → State g taken (t ∷ rest) rows (t ∷ xs) → State g (taken ++ t ∷ []) rest rows xs
State_take g taken rest rows xs t h st =
    record {
      begun = λ ts s. subst (Spans g (0 ∷ [])) (sym (append_assoc taken (t ∷ []) ts)) (st.begun (t ∷ ts) (Spans_leaf g t xs ts s));
      grown = λ more s. subst (λ (zs : List ℕ). Ranked g (0 ∷ []) zs (rows ++ more)) (sym (append_assoc taken (t ∷ []) rest)) (st.grown more (Ranked_leaf g t xs rest more s));
      any = λ ts e s. (let q = Spans_token g t xs (t ∷ ts) h (st.any (t ∷ ts) refl (subst (Spans g (0 ∷ [])) (append_assoc taken (t ∷ []) ts) s)) in
          subst (Spans g xs) (let i : t ∷ ts ≡ t ∷ q.0 = q.1 in cc) q.2);
      only = λ all s. (let q = st.only all (subst (λ (zs : List ℕ). Ranked g (0 ∷ []) zs all) (append_assoc taken (t ∷ []) rest) s) in
          (q.0, (Ranked_token g t xs t rest q.0 h q.1).1, q.2));
      left = λ ts tree e w. Left_token g t xs ts tree (length taken) (length (taken ++ t ∷ [])) rows h (length-append taken (t ∷ []))
          (st.left (t ∷ ts) tree refl (subst (Whole g tree) (append_assoc taken (t ∷ []) ts) w));
      follows = st.follows.1;
      clean = λ j s u more i ranked begins. lacks_tail u xs (st.clean j s u more i ranked begins);
    }
  where
    lacks_tail : (u : ℕ) (zs : List ℕ) → Lacks u zs → Lacks u (behind zs)
    lacks_tail u [] a = tt
    lacks_tail u (z ∷ zs) a = a.1
