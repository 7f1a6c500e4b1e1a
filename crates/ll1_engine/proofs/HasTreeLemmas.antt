-- In an accepted table each list that is derived has a tree that the ranks allow: at each node that a rank forbids, the
-- row with the rank changes places with the empty row.
use Rattle.std.proofs.Common.{◌≡◌, ℕ, ◌+◌, ◌<◌, zero, suc, List, [], ◌∷◌, ◌++◌, Option, None, Some, refl, sym, ap, ◌∙◌, subst, inl, inr, ◌⊎◌, arith}
use Rattle.std.proofs.lemmas.Bool.{cases_eq}
use Rattle.ll1_engine.specs.declared.grammar.Row.{Row}
use Rattle.ll1_engine.specs.declared.fault.Break.TheVariants.{Rank}
use Rattle.ll1_engine.specs.Table.{IsRow, IsToken}
use Rattle.ll1_engine.specs.Trees.{Trees, End, Leaf, Node, roots, leaves, AreTrees, Nullable, Derives}
use Rattle.ll1_engine.specs.First.{BeginsWith}
use Rattle.ll1_engine.specs.Conditions.{IsOther, IsGood}
use Rattle.ll1_engine.specs.Parse.{first_or, TakesRank, HasTree}
use Rattle.ll1_engine.proofs.TreesLemmas.{beside, roots_beside, leaves_beside, AreTrees_beside, size, size_beside, same_row}
use Rattle.ll1_engine.proofs.FirstLemmas.{AreTokens, begins_trees, nullable_trees, BeginsWith_head, InFirst_itself, token_not_nullable}
use Rattle.ll1_engine.proofs.PredictionLemmas.{Yields, one_first, rank_or_none}
use Rattle.ll1_engine.proofs.StateLemmas.{Ranked, Ranked_node, Ranked_leaf, IsClean, behind, Lacks_behind, clean_row, Spans_swapped}

-- a row that has a rank and begins with the token that stands next
pub record TakesNext (s : Row) (x : ℕ) (next : Option ℕ) : Type 0 where
  pub token : ℕ
  pub rest : List ℕ
  pub left : s.left ≡ x
  pub ranked : 0 < s.rank
  pub begins : s.right ≡ token ∷ rest
  pub stands : next ≡ Some token

takes_next : (s : Row) (x : ℕ) (next : Option ℕ) → TakesNext s x next ⊎ (TakesNext s x next → ⊥)
takes_next s x next =
    elim (cases_eq s.left x) [
      | inr apart ↦ inr (λ h. apart h.left)
      | inl left ↦ elim (rank_or_none s.rank) [
        | inl plain ↦ inr (λ h. let lt : 0 < s.rank = h.ranked in omega arith)
        | inr ranked ↦ by_right s.right refl next left ranked
      ]
    ]
  where
    by_next : (y : ℕ) (ys : List ℕ) → s.right ≡ y ∷ ys → (n : Option ℕ) → s.left ≡ x → 0 < s.rank → TakesNext s x n ⊎ (TakesNext s x n → ⊥)
    by_next y ys e None left ranked = inr (λ h. let i : None ≡ Some h.token = h.stands in cc)
    by_next y ys e (Some t) left ranked =
        elim (cases_eq t y) [
          | inl same ↦ inl (record { token = y; rest = ys; left = left; ranked = ranked; begins = e; stands = ap (λ (z : ℕ). Some z) same })
          | inr apart ↦ inr (λ h. apart (let i : Some t ≡ Some h.token = h.stands in let j : y ∷ ys ≡ h.token ∷ h.rest = sym e ∙ h.begins in cc))
        ]

    by_right : (ys : List ℕ) → s.right ≡ ys → (n : Option ℕ) → s.left ≡ x → 0 < s.rank → TakesNext s x n ⊎ (TakesNext s x n → ⊥)
    by_right [] e n left ranked = inr (λ h. let j : [] ≡ h.token ∷ h.rest = sym e ∙ h.begins in cc)
    by_right (y ∷ ys) e n left ranked = by_next y ys e n left ranked

-- such a row of the table
pub record HasTaker (g : List Row) (x : ℕ) (next : Option ℕ) : Type 0 where
  pub j : ℕ
  pub s : Row
  pub row : IsRow g j s
  pub takes : TakesNext s x next

has_taker : (g : List Row) (x : ℕ) (next : Option ℕ) → HasTaker g x next ⊎ ((j : ℕ) (s : Row) → IsRow g j s → TakesNext s x next → ⊥)
has_taker [] x next = inr (λ j s h t. absurd (let i : None ≡ Some s = h in cc))
has_taker (q ∷ g) x next =
    elim (takes_next q x next) [
      | inl here ↦ inl (record { j = 0; s = q; row = refl; takes = here })
      | inr none ↦ elim (has_taker g x next) [
        | inl later ↦ inl (record { j = suc later.j; s = later.s; row = later.row; takes = later.takes })
        | inr never ↦ inr (neither none never)
      ]
    ]
  where
    neither : (TakesNext q x next → ⊥) → ((j : ℕ) (s : Row) → IsRow g j s → TakesNext s x next → ⊥) → (j : ℕ) (s : Row) → IsRow (q ∷ g) j s → TakesNext s x next → ⊥
    neither none never zero s h t = none (subst (λ (z : Row). TakesNext z x next) (let e : s ≡ q = cc in e) t)
    neither none never (suc j) s h t = never j s h t

module _ (g : List Row) (good : IsGood g) where
  -- a row with a rank begins with its token
  begins_ranked : (j : ℕ) (s : Row) (t : ℕ) (rest : List ℕ) → IsRow g j s → 0 < s.rank → s.right ≡ t ∷ rest → BeginsWith g s.right t × IsToken g t
  begins_ranked j s t rest i ranked begins =
      let m = good j s Rank i ranked in
      let e : m.token ≡ t = (let b : m.token ∷ m.rest ≡ t ∷ rest = sym m.begins ∙ begins in cc) in
      let token : IsToken g t = subst (IsToken g) e m.terminal in
      (subst (λ (xs : List ℕ). BeginsWith g xs t) (sym begins) (BeginsWith_head g t rest t (InFirst_itself g t token)), token)

  -- the row that begins with what stands next is the one that a rank asks for
  takes_first : (k : ℕ) (r : Row) (t : ℕ) → IsRow g k r → BeginsWith g r.right t → TakesRank g k r (Some t)
  takes_first k r t h b = λ j s u rest i same ranked begins stands.
      let e : u ≡ t = (let e : Some t ≡ Some u = stands in cc) in
      one_first g good k j r s t h i same b (subst (λ (z : ℕ). BeginsWith g s.right z) e (begins_ranked j s u rest i ranked begins).0)

  -- row k derives the empty list where the row with the rank can be taken
  yields : (k : ℕ) (r : Row) (next : Option ℕ) → IsRow g k r → Nullable g r.right → (h : HasTaker g r.left next) → Yields g k r next (Some h.j)
  yields k r next i n h =
      let t = h.takes in
      let m = good h.j h.s Rank h.row t.ranked in
      let apart : h.j ≡ k → ⊥ = λ same.
      let one : h.s ≡ r = same_row g k h.s r (subst (λ (z : ℕ). IsRow g z h.s) same h.row) i in
      let e : r.right ≡ t.token ∷ t.rest = ap (λ (z : Row). z.right) (sym one) ∙ t.begins in
      token_not_nullable g t.token t.rest (begins_ranked h.j h.s t.token t.rest h.row t.ranked t.begins).1 (subst (Nullable g) e n) in
      let back : IsOther g h.j h.s k r = record { row = i; left = sym t.left; apart = λ same. apart (sym same) } in
      let one : r ≡ m.s = same_row g m.j r m.s (subst (λ (z : ℕ). IsRow g z r) (m.only k r back) i) m.other.row in
      record {
        j = h.j;
        s = h.s;
        other = record { row = h.row; left = t.left; apart = apart };
        chosen = refl;
        token = t.token;
        rest = t.rest;
        begins = t.begins;
        ranked = t.ranked;
        stands = t.stands;
        empty = ap (λ (q : Row). q.right) one ∙ m.empty;
      }

  -- trees of fewer nodes and leaves have others in their place, which the ranks allow
  abbrev SmallerAllowed : ℕ → Type 0
  SmallerAllowed n = (h : Trees) → size h < n → AreTrees g h → AreTokens g (leaves h) → IsClean g (behind (roots h)) → (rows : List ℕ) × Ranked g (roots h) (leaves h) rows

  -- the node stays
  kept : (n k : ℕ) (r : Row) (c f : Trees) → SmallerAllowed n → size c + size f < n → AreTrees g (Node k r c f) → AreTokens g (leaves c ++ leaves f) → IsClean g (roots f)
      → TakesRank g k r (first_or (leaves c ++ leaves f) None) → (rows : List ℕ) × Ranked g (r.left ∷ roots f) (leaves c ++ leaves f) rows
  kept n k r c f smaller lt v tokens clean takes =
      let top : roots (beside c f) ≡ r.right ++ roots f = roots_beside c f ∙ ap (λ (ys : List ℕ). ys ++ roots f) v.1 in
      let bottom : leaves (beside c f) ≡ leaves c ++ leaves f = leaves_beside c f in
      let q = smaller (beside c f) (let e : size (beside c f) ≡ size c + size f = size_beside c f in omega arith) (AreTrees_beside g c f v.2 v.3) (subst (AreTokens g) (sym bottom) tokens)
      (subst (λ (ys : List ℕ). IsClean g (behind ys)) (sym top) (λ j s t rest h ranked begins. clean_row g good j k s r t rest r.right (roots f) h ranked begins v.0 refl (clean j s t rest h ranked begins))) in
      (k ∷ q.0, Ranked_node g k r (roots f) (leaves c ++ leaves f) q.0 v.0 takes (subst (λ (ys : List ℕ). Ranked g ys (leaves c ++ leaves f) q.0) top (subst (λ (ys : List ℕ). Ranked g (roots (beside c f)) ys q.0) bottom q.1)))

  -- the row with the rank comes in place of the empty row
  swapped : (n k : ℕ) (r : Row) (c f : Trees) → SmallerAllowed n → size f < n → AreTrees g (Node k r c f) → AreTokens g (leaves c ++ leaves f) → IsClean g (roots f)
      → (choice : Option ℕ) → Yields g k r (first_or (leaves c ++ leaves f) None) choice → (rows : List ℕ) × Ranked g (r.left ∷ roots f) (leaves c ++ leaves f) rows
  swapped n k r c f smaller lt v tokens clean choice y =
      let ts = leaves c ++ leaves f in
      let w = Spans_swapped g good k r c f ts choice v refl clean y in
      let q = smaller w.trees (let e : size w.trees ≡ size f = w.count in omega arith) w.valid (subst (AreTokens g) (sym w.bottom) tokens)
      (subst (λ (ys : List ℕ). IsClean g (behind ys)) (sym w.top) (λ j s t rest h ranked begins. clean_row g good j y.j s y.s t rest y.s.right (roots f) h ranked begins y.other.row refl (clean j s t rest h ranked begins))) in
      let takes : TakesRank g y.j y.s (first_or ts None) = subst (TakesRank g y.j y.s) (sym y.stands) (takes_first y.j y.s y.token y.other.row (begins_ranked y.j y.s y.token y.rest y.other.row y.ranked y.begins).0) in
      let whole = Ranked_node g y.j y.s (roots f) ts q.0 y.other.row takes (subst (λ (ys : List ℕ). Ranked g ys ts q.0) w.top (subst (λ (ys : List ℕ). Ranked g (roots w.trees) ys q.0) w.bottom q.1)) in
      (y.j ∷ q.0, subst (λ (x : ℕ). Ranked g (x ∷ roots f) ts (y.j ∷ q.0)) y.other.left whole)

  node_allowed : (n k : ℕ) (r : Row) (c f : Trees) (ls : List ℕ) → SmallerAllowed n → size c + size f < n → AreTrees g (Node k r c f) → AreTokens g (leaves c ++ leaves f) → IsClean g (roots f)
      → leaves c ≡ ls → (rows : List ℕ) × Ranked g (r.left ∷ roots f) (leaves c ++ leaves f) rows
  node_allowed n k r c f [] smaller lt v tokens clean e =
      elim (has_taker g r.left (first_or (leaves c ++ leaves f) None)) [
        | inl h ↦ swapped n k r c f smaller (omega arith) v tokens clean (Some h.j) (yields k r (first_or (leaves c ++ leaves f) None) v.0 (subst (Nullable g) v.1 (nullable_trees g c v.2 e)) h)
        | inr none ↦ kept n k r c f smaller lt v tokens clean (λ j s t rest i same ranked begins stands. absurd (none j s i (record { token = t; rest = rest; left = same; ranked = ranked; begins = begins; stands = stands })))
      ]
  node_allowed n k r c f (t ∷ us) smaller lt v tokens clean e =
      let next : Some t ≡ first_or (leaves c ++ leaves f) None = ap (λ (ys : List ℕ). first_or (ys ++ leaves f) None) (sym e) in
      let token : IsToken g t = (subst (λ (ys : List ℕ). AreTokens g (ys ++ leaves f)) e tokens).0 in
      kept n k r c f smaller lt v tokens clean (subst (TakesRank g k r) next (takes_first k r t v.0 (subst (λ (xs : List ℕ). BeginsWith g xs t) v.1 (begins_trees g c t us v.2 e token))))

  allowed : (n : ℕ) → SmallerAllowed n
  allowed zero f lt v tokens clean = absurd (omega arith)
  allowed (suc n) End lt v tokens clean = ([], record { trees = End; valid = tt; top = refl; bottom = refl; order = refl; ranks = tt })
  allowed (suc n) (Leaf x f) lt v tokens clean =
      let q = allowed n f (omega arith) v tokens.1 (λ j s t rest h ranked begins. Lacks_behind g good t (roots f) (clean j s t rest h ranked begins)) in
      (q.0, Ranked_leaf g x (roots f) (leaves f) q.0 q.1)
  allowed (suc n) (Node k r c f) lt v tokens clean = node_allowed n k r c f (leaves c) (allowed n) (omega arith) v tokens clean refl

  -- a list that is derived has a tree that the ranks allow
  pub derived_has_tree : (tokens : List ℕ) → Derives g (0 ∷ []) tokens → HasTree g tokens
  derived_has_tree tokens d =
      let q = allowed (suc (size d.trees)) d.trees (omega arith) d.valid (subst (AreTokens g) (sym d.bottom) d.terminal)
      (subst (λ (ys : List ℕ). IsClean g (behind ys)) (sym d.top) (λ j s t rest h ranked begins. tt)) in
      let t = subst (λ (ys : List ℕ). Ranked g ys tokens q.0) d.top (subst (λ (ys : List ℕ). Ranked g (roots d.trees) ys q.0) d.bottom q.1) in
      record { rows = q.0; tree = record { tree = t.trees; allowed = record { valid = t.valid; top = t.top; bottom = t.bottom; terminal = d.terminal; ranks = t.ranks }; order = t.order } }

  pub tree_derives : (tokens : List ℕ) → HasTree g tokens → Derives g (0 ∷ []) tokens
  tree_derives tokens h = let t = h.tree.allowed in record { trees = h.tree.tree; valid = t.valid; top = t.top; bottom = t.bottom; terminal = t.terminal }
