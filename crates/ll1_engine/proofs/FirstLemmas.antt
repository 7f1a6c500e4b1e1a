-- What derivations begin with is in FIRST; which lists derive the empty list; what follows the symbols of a row.
use Rattle.std.proofs.Common.{◌≡◌, ℕ, Bool, true, false, ◌||◌, eqb, List, [], ◌∷◌, ◌++◌, Some, refl, sym, ap, ◌∙◌, subst, inl, inr, ◌⊎◌, append_assoc, zero, suc}
use Rattle.std.proofs.lemmas.Bool.{eqb-true, eq-eqb, or_cases, or_left, or_right}
use Rattle.std.specs.List.{AllByRecursion}
use Rattle.ll1_engine.specs.declared.grammar.Row.{Row}
use Rattle.ll1_engine.specs.Table.{IsRow, IsToken}
use Rattle.ll1_engine.specs.Trees.{Trees, End, Leaf, Node, roots, leaves, AreTrees, Nullable}
use Rattle.ll1_engine.specs.First.{InFirst, BeginsWith, InFollow}
use Rattle.ll1_engine.proofs.TreesLemmas.{beside, roots_beside, leaves_beside, AreTrees_beside, parts, no_parts}

-- trees without a leaf show that their roots derive the empty list
pub nullable_trees : (g : List Row) (f : Trees) → AreTrees g f → leaves f ≡ [] → Nullable g (roots f)
nullable_trees g f v e = record { trees = f; valid = v; top = refl; bottom = e; terminal = tt }

pub Nullable_nil : (g : List Row) → Nullable g []
Nullable_nil g = record { trees = End; valid = tt; top = refl; bottom = refl; terminal = tt }

pub Nullable_append : (g : List Row) (xs ys : List ℕ) → Nullable g xs → Nullable g ys → Nullable g (xs ++ ys)
Nullable_append g xs ys a b =
    record {
      trees = beside a.trees b.trees;
      valid = AreTrees_beside g a.trees b.trees a.valid b.valid;
      top = roots_beside a.trees b.trees ∙ (let i : roots a.trees ≡ xs = a.top in let j : roots b.trees ≡ ys = b.top in cc);
      bottom = leaves_beside a.trees b.trees ∙ (let i : leaves a.trees ≡ [] = a.bottom in let j : leaves b.trees ≡ [] = b.bottom in rw (i, j) refl);
      terminal = tt;
    }

pub Nullable_parts : (g : List Row) (xs ys : List ℕ) → Nullable g (xs ++ ys) → Nullable g xs × Nullable g ys
Nullable_parts g xs ys n =
    let p = parts g xs ys n.trees n.valid n.top in
    let e : leaves p.front ++ leaves p.back ≡ [] = sym (leaves_beside p.front p.back) ∙ (ap leaves p.whole ∙ n.bottom) in
    let z = no_parts (leaves p.front) (leaves p.back) e in (
      record { trees = p.front; valid = p.front_valid; top = p.front_top; bottom = z.0; terminal = tt },
      record { trees = p.back; valid = p.back_valid; top = p.back_top; bottom = z.1; terminal = tt },
    )

-- each symbol of the list is a token
abbrev pub AreTokens : List Row → List ℕ → Type 0
AreTokens g ts = AllByRecursion (IsToken g) ts

pub AreTokens_append : (g : List Row) (xs ys : List ℕ) → AreTokens g xs → AreTokens g ys → AreTokens g (xs ++ ys)
AreTokens_append g [] ys a b = b
AreTokens_append g (x ∷ xs) ys a b = (a.0, AreTokens_append g xs ys a.1 b)

pub AreTokens_parts : (g : List Row) (xs ys : List ℕ) → AreTokens g (xs ++ ys) → AreTokens g xs × AreTokens g ys
AreTokens_parts g [] ys a = (tt, a)
AreTokens_parts g (x ∷ xs) ys a = (let p = AreTokens_parts g xs ys a.1 in ((a.0, p.0), p.1))

-- FIRST and FOLLOW are closed under their own rules
pub InFirst_itself : (g : List Row) (t : ℕ) → IsToken g t → InFirst g t t
InFirst_itself g t h = λ p c. c.itself h

pub InFirst_row : (g : List Row) (k : ℕ) (r : Row) (t : ℕ) → IsRow g k r → BeginsWith g r.right t → InFirst g r.left t
InFirst_row g k r t h b = λ p c. c.row k r b.before b.symbol b.after h b.parts b.skipped (b.first p c)

pub InFollow_next : (g : List Row) (k : ℕ) (r : Row) (before : List ℕ) (y : ℕ) (after : List ℕ) (t : ℕ) → IsRow g k r → r.right ≡ before ++ y ∷ after → BeginsWith g after t → InFollow g y (Some t)
InFollow_next g k r before y after t h e b = λ p c. c.next k r before y after t h e refl b

pub InFollow_left : (g : List Row) (k : ℕ) (r : Row) (before : List ℕ) (y : ℕ) (after : List ℕ) (t : ℕ) → IsRow g k r → r.right ≡ before ++ y ∷ after → Nullable g after → InFollow g r.left (Some t) → InFollow g y (Some t)
InFollow_left g k r before y after t h e n f = λ p c. c.left k r before y after h e n (f p c)

-- a list begins with what its first symbol begins with
pub BeginsWith_head : (g : List Row) (x : ℕ) (xs : List ℕ) (t : ℕ) → InFirst g x t → BeginsWith g (x ∷ xs) t
BeginsWith_head g x xs t h = record { before = []; symbol = x; after = xs; parts = refl; skipped = Nullable_nil g; first = h }

-- and with what the rest begins with, where the first symbol derives the empty list
pub BeginsWith_skip : (g : List Row) (x : ℕ) (xs : List ℕ) (t : ℕ) → Nullable g (x ∷ []) → BeginsWith g xs t → BeginsWith g (x ∷ xs) t
BeginsWith_skip g x xs t n b =
    record { before = x ∷ b.before; symbol = b.symbol; after = b.after; parts = ap (λ (ys : List ℕ). x ∷ ys) b.parts; skipped = Nullable_append g (x ∷ []) b.before n b.skipped; first = b.first }

-- the leaves of trees begin with a token that is in FIRST of the roots
begins_node : (g : List Row) (k : ℕ) (r : Row) (c f : Trees) (t : ℕ) (ts ls : List ℕ) → AreTrees g (Node k r c f) → leaves c ≡ ls → ls ++ leaves f ≡ t ∷ ts → IsToken g t
    → ((us : List ℕ) → leaves c ≡ t ∷ us → BeginsWith g (roots c) t) → ((us : List ℕ) → leaves f ≡ t ∷ us → BeginsWith g (roots f) t) → BeginsWith g (r.left ∷ roots f) t
begins_node g k r c f t ts [] v e l h in_c in_f =
    BeginsWith_skip g r.left (roots f) t (record { trees = Node k r c End; valid = (v.0, v.1, v.2, tt); top = refl; bottom = rw e refl; terminal = tt }) (in_f ts l)
begins_node g k r c f t ts (u ∷ us) v e l h in_c in_f =
    let same : u ≡ t = cc in
    BeginsWith_head g r.left (roots f) t (InFirst_row g k r t v.0 (subst (λ (ys : List ℕ). BeginsWith g ys t) v.1 (in_c us (cc))))

pub begins_trees : (g : List Row) (f : Trees) (t : ℕ) (ts : List ℕ) → AreTrees g f → leaves f ≡ t ∷ ts → IsToken g t → BeginsWith g (roots f) t
begins_trees g End t ts v l h = absurd (cc)
begins_trees g (Leaf x f) t ts v l h =
    let same : x ≡ t = cc in
    BeginsWith_head g x (roots f) t (subst (λ (y : ℕ). InFirst g y t) (sym same) (InFirst_itself g t h))
begins_trees g (Node k r c f) t ts v l h =
    begins_node g k r c f t ts (leaves c) v refl l h (λ us e. begins_trees g c t us v.2 e h) (λ us e. begins_trees g f t us v.3 e h)

-- a list of two parts begins with what its first part begins with, or, where that derives the empty list, with
-- what the second begins with
begins_split : (g : List Row) (xs ys before : List ℕ) (symbol : ℕ) (after : List ℕ) (t : ℕ) → xs ++ ys ≡ before ++ symbol ∷ after → Nullable g before → InFirst g symbol t → BeginsWith g xs t ⊎ (Nullable g xs × BeginsWith g ys t)
begins_split g [] ys before symbol after t e n h =
    inr (Nullable_nil g, record { before = before; symbol = symbol; after = after; parts = e; skipped = n; first = h })
begins_split g (x ∷ xs) ys [] symbol after t e n h =
    let same : symbol ≡ x = cc in
    inl (BeginsWith_head g x xs t (subst (λ (y : ℕ). InFirst g y t) same h))
begins_split g (x ∷ xs) ys (z ∷ before) symbol after t e n h =
    let same : z ≡ x = cc in
    let both = Nullable_parts g (z ∷ []) before n in
    let first : Nullable g (x ∷ []) = subst (λ (y : ℕ). Nullable g (y ∷ [])) same both.0 in
    elim (begins_split g xs ys before symbol after t (cc) both.1 h) [
      | inl b ↦ inl (BeginsWith_skip g x xs t first b)
      | inr b ↦ inr (Nullable_append g (x ∷ []) xs first b.0, b.1)
    ]

pub BeginsWith_append : (g : List Row) (xs ys : List ℕ) (t : ℕ) → BeginsWith g (xs ++ ys) t → BeginsWith g xs t ⊎ (Nullable g xs × BeginsWith g ys t)
BeginsWith_append g xs ys t b = begins_split g xs ys b.before b.symbol b.after t b.parts b.skipped b.first

-- what follows each symbol of a list, from the symbols behind it in the list, is in its FOLLOW
abbrev pub Follows : List Row → List ℕ → Type 0
Follows g [] = Unit {0}
Follows g (x ∷ xs) = ((t : ℕ) → BeginsWith g xs t → InFollow g x (Some t)) × Follows g xs

-- nothing follows the start symbol alone
pub Follows_start : (g : List Row) → Follows g (0 ∷ [])
Follows_start g = (λ t b. absurd (not_nil b.before b.symbol b.after b.parts), tt)
  where
    not_nil : (before : List ℕ) (x : ℕ) (after : List ℕ) → [] ≡ before ++ x ∷ after → ⊥
    not_nil [] x after e = cc
    not_nil (z ∷ before) x after e = cc

-- a row in place of its left symbol keeps that
pub Follows_row : (g : List Row) (k : ℕ) (r : Row) (before ys xs : List ℕ) → IsRow g k r → r.right ≡ before ++ ys → Follows g (r.left ∷ xs) → Follows g (ys ++ xs)
Follows_row g k r before [] xs h e f = f.1
Follows_row g k r before (y ∷ ys) xs h e f = (
  λ t b. elim (BeginsWith_append g ys xs t b) [
    | inl here ↦ InFollow_next g k r before y ys t h e here
    | inr past ↦ InFollow_left g k r before y ys t h e past.0 (f.0 t past.1)
  ],
  Follows_row g k r (before ++ y ∷ []) ys xs h (e ∙ sym (append_assoc before (y ∷ []) ys)) f,
)

-- the symbols at the left of a row
abbrev pub is_left : List Row → ℕ → Bool
is_left [] x = false
is_left (r ∷ g) x = eqb r.left x || is_left g x

pub left_is : (g : List Row) (k : ℕ) (r : Row) → IsRow g k r → is_left g r.left ≡ true
left_is [] k r h = absurd (cc)
left_is (s ∷ g) zero r h = let e : s ≡ r = cc in or_left (eqb s.left r.left) (is_left g r.left) (eq-eqb s.left r.left (ap (λ (q : Row). q.left) e))
left_is (s ∷ g) (suc k) r h = or_right (eqb s.left r.left) (is_left g r.left) (left_is g k r h)

pub row_of_left : (g : List Row) (x : ℕ) → is_left g x ≡ true → (k : ℕ) × (r : Row) × IsRow g k r × (r.left ≡ x)
row_of_left [] x h = absurd (cc)
row_of_left (s ∷ g) x h =
    elim (or_cases (eqb s.left x) (is_left g x) h) [
      | inl here ↦ (0, s, refl, eqb-true s.left x here)
      | inr there ↦ (let p = row_of_left g x there in (suc p.0, p.1, p.2, p.3))
    ]

-- a token has no other token in its FIRST
pub InFirst_token : (g : List Row) (x t : ℕ) → IsToken g x → InFirst g x t → x ≡ t
InFirst_token g x t h f =
    elim (or_cases (eqb x t) (is_left g x) (f (λ y. eqb y t || is_left g y) (record {
      itself = λ tok. or_left (eqb t t) (is_left g t) (eq-eqb t t refl);
      row = λ k r before y after i e n p. or_right (eqb r.left t) (is_left g r.left) (left_is g k r i);
    }))) [
      | inl same ↦ eqb-true x t same
      | inr left ↦ (let p = row_of_left g x left in absurd (h p.0 p.1 p.2 p.3))
    ]

-- a token derives no empty list
token_tree : (g : List Row) (x : ℕ) (xs : List ℕ) (f : Trees) → IsToken g x → AreTrees g f → roots f ≡ x ∷ xs → leaves f ≡ [] → ⊥
token_tree g x xs End h v e l = cc
token_tree g x xs (Leaf y f) h v e l = cc
token_tree g x xs (Node k r c f) h v e l = h k r v.0 (cc)

pub token_not_nullable : (g : List Row) (x : ℕ) (xs : List ℕ) → IsToken g x → ¬ Nullable g (x ∷ xs)
token_not_nullable g x xs h n = token_tree g x xs n.trees h n.valid n.top n.bottom

-- a list that begins with a token begins with no other
begins_token : (g : List Row) (x : ℕ) (xs before : List ℕ) (symbol : ℕ) (after : List ℕ) (t : ℕ) → IsToken g x → x ∷ xs ≡ before ++ symbol ∷ after → Nullable g before → InFirst g symbol t → x ≡ t
begins_token g x xs [] symbol after t h e n f = let same : symbol ≡ x = cc in InFirst_token g x t h (subst (λ (y : ℕ). InFirst g y t) same f)
begins_token g x xs (z ∷ before) symbol after t h e n f = let same : z ≡ x = cc in absurd (token_not_nullable g x before h (subst (λ (y : ℕ). Nullable g (y ∷ before)) same n))

pub BeginsWith_token : (g : List Row) (x : ℕ) (xs : List ℕ) (t : ℕ) → IsToken g x → BeginsWith g (x ∷ xs) t → x ≡ t
BeginsWith_token g x xs t h b = begins_token g x xs b.before b.symbol b.after t h b.parts b.skipped b.first
