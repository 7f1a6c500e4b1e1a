-- The marks that the passes leave are those of the definitions.
use Rattle.std.proofs.Common.{◌≡◌, ℕ, zero, suc, ◌<◌, Bool, true, false, ◌&&◌, List, [], ◌∷◌, ◌++◌, length, get_or, set, take, drop, Some, refl, sym, ap, ◌∙◌, subst, inl, inr, arith}
use Rattle.std.specs.Prelude.{IsTrue, replicate, ◌↔◌}
use Rattle.std.specs.List.{AllByRecursion}
use Rattle.std.proofs.lemmas.List.{get_or-set_same, get_or-set_other, get_or_past}
use Rattle.std.proofs.lemmas.Bool.{cases_eq, cases_lt, and_parts, and_from, or_cases, or_left, or_right, false≢true}
use Rattle.ll1_engine.specs.declared.grammar.Row.{Row}
use Rattle.ll1_engine.specs.Table.{IsRow, IsToken}
use Rattle.ll1_engine.specs.Trees.{Trees, End, Leaf, Node, roots, leaves, AreTrees, Nullable}
use Rattle.ll1_engine.specs.First.{BeginsWith, InFirst, IsFollowSet}
use Rattle.ll1_engine.specs.Marks.{marked, Has, all_in, begins_in, DerivesWithin}
use Rattle.ll1_engine.specs.Relations.{BeginsDirectly, StandsBefore, EndsDirectly, Represents}
use Rattle.ll1_engine.specs.Analysis.{HasRowWithin, AreBelow, MarksTokens, MarksProductive, MarksNullable, MarksFirst, MarksFollow}
use Rattle.ll1_engine.proofs.MarksLemmas.{closure_grows, closure_closed, closure_least}
use Rattle.ll1_engine.proofs.FirstLemmas.{Nullable_nil, Nullable_append, Nullable_parts}

-- a mark stands within the list
pub has_within : (marks : List Bool) (x : ℕ) → Has marks x → x < length marks
has_within marks x h =
    elim (cases_lt x (length marks)) [
      | inl lt ↦ lt
      | inr past ↦ absurd (false≢true (sym (get_or_past marks x false past) ∙ h))
    ]

pub none_marked : (n x : ℕ) → ¬ Has (replicate n false) x
none_marked zero x h = false≢true h
none_marked (suc n) zero h = false≢true h
none_marked (suc n) (suc x) h = none_marked n x h

-- the leaves of trees over the symbols below a number are below it
pub leaves_below : (size : ℕ) (g : List Row) → AreBelow size g → (f : Trees) → AreTrees g f → AllByRecursion (λ y. y < size) (roots f) → AllByRecursion (λ y. y < size) (leaves f)
leaves_below size g below End v h = tt
leaves_below size g below (Leaf x f) v h = (h.0, leaves_below size g below f v h.1)
leaves_below size g below (Node k r c f) v h =
    joined (leaves c) (leaves f) (leaves_below size g below c v.2 (subst (AllByRecursion (λ y. y < size)) (sym v.1) (below k r v.0).right)) (leaves_below size g below f v.3 h.1)
  where
    joined : (xs ys : List ℕ) → AllByRecursion (λ y. y < size) xs → AllByRecursion (λ y. y < size) ys → AllByRecursion (λ y. y < size) (xs ++ ys)
    joined [] ys a b = b
    joined (x ∷ xs) ys a b = (a.0, joined xs ys a.1 b)

terminal_marks : (size : ℕ) (g : List Row) (tokens : List Bool) → length tokens ≡ size → MarksTokens size g tokens → (xs : List ℕ) → AllByRecursion (Has tokens) xs → AllByRecursion (IsToken g) xs
terminal_marks size g tokens e t [] h = tt
terminal_marks size g tokens e t (x ∷ xs) h = ((t x (let lt = has_within tokens x h.0 in omega arith)).0 h.0, terminal_marks size g tokens e t xs h.1)

marks_terminal : (size : ℕ) (g : List Row) (tokens : List Bool) → MarksTokens size g tokens → (xs : List ℕ) → AllByRecursion (λ y. y < size) xs → AllByRecursion (IsToken g) xs → AllByRecursion (Has tokens) xs
marks_terminal size g tokens t [] b h = tt
marks_terminal size g tokens t (x ∷ xs) b h = ((t x b.0).1 h.0, marks_terminal size g tokens t xs b.1 h.1)

pub productive_exact : (g : List Row) (tokens new : List Bool) → AreBelow (length tokens) g → MarksTokens (length tokens) g tokens → ((x : ℕ) → Has new x ↔ DerivesWithin g tokens (x ∷ [])) → MarksProductive (length tokens) g new
productive_exact g tokens new below t exact = λ x lt. (
  λ h. let d = (exact x).0 h in
      record { tokens = leaves d.trees; derives = record { trees = d.trees; valid = d.valid; top = d.top; bottom = refl; terminal = terminal_marks (length tokens) g tokens refl t (leaves d.trees) d.bottom } },
  λ d. (exact x).1 (record {
    trees = d.derives.trees;
    valid = d.derives.valid;
    top = d.derives.top;
    bottom = marks_terminal (length tokens) g tokens t (leaves d.derives.trees) (leaves_below (length tokens) g below d.derives.trees d.derives.valid (subst (AllByRecursion (λ y. y < length tokens)) (sym d.derives.top) (lt, tt)))
        (subst (AllByRecursion (IsToken g)) (sym d.derives.bottom) d.derives.terminal);
  }),
)

none_has : (n : ℕ) (xs : List ℕ) → AllByRecursion (Has (replicate n false)) xs → xs ≡ []
none_has n [] h = refl
none_has n (x ∷ xs) h = absurd (none_marked n x h.0)

pub nullable_exact : (g : List Row) (n : ℕ) (new : List Bool) → ((x : ℕ) → Has new x ↔ DerivesWithin g (replicate n false) (x ∷ [])) → MarksNullable g new
nullable_exact g n new exact = λ x. (
  λ h. let d = (exact x).0 h in record { trees = d.trees; valid = d.valid; top = d.top; bottom = none_has n (leaves d.trees) d.bottom; terminal = tt },
  λ d. (exact x).1 (record { trees = d.trees; valid = d.valid; top = d.top; bottom = subst (AllByRecursion (Has (replicate n false))) (sym d.bottom) tt }),
)

-- a list derives the empty list where each of its symbols does
pub all_nullable : (g : List Row) (nullable : List Bool) → MarksNullable g nullable → (xs : List ℕ) → IsTrue (all_in (marked nullable) xs) ↔ Nullable g xs
all_nullable g nullable m [] = (λ h. Nullable_nil g, λ n. refl)
all_nullable g nullable m (x ∷ xs) =
    let rest = all_nullable g nullable m xs in (
      λ h. let both = and_parts (marked nullable x) (all_in (marked nullable) xs) h in Nullable_append g (x ∷ []) xs ((m x).0 both.0) (rest.0 both.1),
      λ n. let both = Nullable_parts g (x ∷ []) xs n in and_from (marked nullable x) (all_in (marked nullable) xs) ((m x).1 both.0) (rest.1 both.1),
    )

-- where a list begins with a symbol of the set
pub record Beginning (p nullable : ℕ → Bool) (xs : List ℕ) : Type 0 where
  pub before : List ℕ
  pub symbol : ℕ
  pub after : List ℕ
  pub parts : xs ≡ before ++ symbol ∷ after
  pub skipped : IsTrue (all_in nullable before)
  pub here : IsTrue (p symbol)

pub begins_parts : (p nullable : ℕ → Bool) (xs : List ℕ) → IsTrue (begins_in p nullable xs) → Beginning p nullable xs
begins_parts p nullable [] h = absurd (false≢true h)
begins_parts p nullable (x ∷ xs) h =
    elim (or_cases (p x) (nullable x && begins_in p nullable xs) h) [
      | inl first ↦ record { before = []; symbol = x; after = xs; parts = refl; skipped = refl; here = first }
      | inr past ↦ (
          let both = and_parts (nullable x) (begins_in p nullable xs) past in
          let b = begins_parts p nullable xs both.1 in
          record { before = x ∷ b.before; symbol = b.symbol; after = b.after; parts = ap (λ (zs : List ℕ). x ∷ zs) b.parts; skipped = and_from (nullable x) (all_in nullable b.before) both.0 b.skipped; here = b.here })
    ]

pub begins_from : (p nullable : ℕ → Bool) (before : List ℕ) (y : ℕ) (after : List ℕ) → IsTrue (all_in nullable before) → IsTrue (p y) → IsTrue (begins_in p nullable (before ++ y ∷ after))
begins_from p nullable [] y after n h = or_left (p y) (nullable y && begins_in p nullable after) h
begins_from p nullable (x ∷ before) y after n h =
    let both = and_parts (nullable x) (all_in nullable before) n in
    or_right (p x) (nullable x && begins_in p nullable (before ++ y ∷ after)) (and_from (nullable x) (begins_in p nullable (before ++ y ∷ after)) both.0 (begins_from p nullable before y after both.1 h))

-- a list begins with the token where the marks say so
pub begins_exact : (g : List Row) (t : ℕ) (first nullable : List Bool) → MarksFirst g t first → MarksNullable g nullable → (xs : List ℕ) → IsTrue (begins_in (marked first) (marked nullable) xs) ↔ BeginsWith g xs t
begins_exact g t first nullable f m xs = (
  λ h. let b = begins_parts (marked first) (marked nullable) xs h in
      record { before = b.before; symbol = b.symbol; after = b.after; parts = b.parts; skipped = (all_nullable g nullable m b.before).0 b.skipped; first = (f b.symbol).0 b.here },
  λ b. subst (λ (zs : List ℕ). IsTrue (begins_in (marked first) (marked nullable) zs)) (sym b.parts) (begins_from (marked first) (marked nullable) b.before b.symbol b.after ((all_nullable g nullable m b.before).1 b.skipped) ((f b.symbol).1 b.first)),
)

pub first_exact : (g : List Row) (t : ℕ) (begins : List Row) (old new : List Bool) → Represents begins (BeginsDirectly g) → ((x : ℕ) → Has old x → (x ≡ t) × IsToken g t) → (IsToken g t → Has old t)
    → ((x : ℕ) → Has new x ↔ DerivesWithin begins old (x ∷ [])) → MarksFirst g t new
first_exact g t begins old new rep only seed exact = λ x. (
  λ h p c. closure_least begins old new exact p
      (λ k r i all. let s = rep.sound k r i in let b = s.2 in
      subst (λ (z : ℕ). IsTrue (p z)) b.left (c.row b.k b.r b.before s.0 b.after b.row b.parts b.skipped (and_parts (p s.0) true (subst (λ (zs : List ℕ). IsTrue (all_in p zs)) s.1 all)).0))
      (λ y o. let e = only y o in subst (λ (z : ℕ). IsTrue (p z)) (sym e.0) (c.itself e.1)) x h,
  λ f. f (marked new) (record {
    itself = λ tok. closure_grows begins old new exact t (seed tok);
    row = λ k r before y after i e n h.
        let q = rep.whole r.left y (record { k = k; r = r; before = before; after = after; row = i; left = refl; parts = e; skipped = n }) in
        subst (Has new) q.3 (closure_closed begins old new exact q.0 q.1 y q.2 q.4 h);
  }),
)

-- the seed of FIRST: the token alone, where it is one
pub first_seed : (g : List Row) (n t : ℕ) (b : Bool) → (IsTrue b ↔ IsToken g t) → (x : ℕ) → Has (set (replicate n false) t b) x → (x ≡ t) × IsToken g t
first_seed g n t b tok x h =
    elim (cases_eq x t) [
      | inl same ↦ (
          let lt : x < length (set (replicate n false) t b) = has_within (set (replicate n false) t b) x h in
          let len : length (set (replicate n false) t b) ≡ length (replicate n false) = Rattle.std.proofs.lemmas.List.length-set (replicate n false) t b in
          let here : get_or (set (replicate n false) t b) t false ≡ b = get_or-set_same (replicate n false) t b false (omega arith) in
          (same, tok.0 (sym here ∙ subst (λ (z : ℕ). get_or (set (replicate n false) t b) z false ≡ true) same h)))
      | inr apart ↦ absurd (none_marked n x (sym (get_or-set_other (replicate n false) t x b false apart) ∙ h))
    ]

pub first_start : (g : List Row) (n t : ℕ) (b : Bool) → t < n → (IsTrue b ↔ IsToken g t) → IsToken g t → Has (set (replicate n false) t b) t
first_start g n t b lt tok h = get_or-set_same (replicate n false) t b false (let e : length (replicate n false) ≡ n = Rattle.std.proofs.lemmas.List.length-replicate n false in omega arith) ∙ tok.1 h

pub follow_exact : (g : List Row) (t : ℕ) (next ends : List Row) (first old new : List Bool) → MarksFirst g t first → Represents next (StandsBefore g) → Represents ends (EndsDirectly g) → ((x : ℕ) → Has old x ↔ HasRowWithin next first x)
    → ((x : ℕ) → Has new x ↔ DerivesWithin ends old (x ∷ [])) → MarksFollow g t new
follow_exact g t next ends first old new f rep_next rep_ends seed exact = λ x. (
  λ h p c. closure_least ends old new exact p
      (λ k r i all. let s = rep_ends.sound k r i in let b = s.2 in
      c.left b.k b.r b.before r.left b.after b.row b.parts b.skipped (subst (λ (z : ℕ). IsTrue (p z)) (sym b.left) (and_parts (p s.0) true (subst (λ (zs : List ℕ). IsTrue (all_in p zs)) s.1 all)).0))
      (λ y o. let w = (seed y).0 o in subst (λ (z : ℕ). IsTrue (p z)) w.3 (seeded p c w.0 w.1 w.2 w.4)) x h,
  λ fol. fol (marked new) (record {
    start = λ e. absurd (cc);
    next = λ k r before y after u row e et b.
        let same : t ≡ u = (let z : Some t ≡ Some u = et in cc) in
        let q = rep_next.whole y b.symbol (record { k = k; r = r; before = before; between = b.before; after = b.after; row = row; parts = e ∙ ap (λ (zs : List ℕ). before ++ y ∷ zs) b.parts; skipped = b.skipped }) in
        let here : IsTrue (all_in (marked first) q.1.right) = subst (λ (zs : List ℕ). IsTrue (all_in (marked first) zs)) (sym q.4) (and_from (marked first b.symbol) true ((f b.symbol).1 (subst (InFirst g b.symbol) (sym same) b.first)) refl) in
        closure_grows ends old new exact y ((seed y).1 (q.0, q.1, q.2, q.3, here));
    left = λ k r before y after row e null h.
        let q = rep_ends.whole y r.left (record { k = k; r = r; before = before; after = after; row = row; left = refl; parts = e; skipped = null }) in
        subst (Has new) q.3 (closure_closed ends old new exact q.0 q.1 r.left q.2 q.4 h);
  }),
)
  where
    seeded : (p : ℕ → Bool) → IsFollowSet g (Some t) p → (k : ℕ) (r : Row) → IsRow next k r → IsTrue (all_in (marked first) r.right) → IsTrue (p r.left)
    seeded p c k r i all =
        let s = rep_next.sound k r i in
        let b = s.2 in
        let here : Has first s.0 = (and_parts (marked first s.0) true (subst (λ (zs : List ℕ). IsTrue (all_in (marked first) zs)) s.1 all)).0 in
        c.next b.k b.r b.before r.left (b.between ++ s.0 ∷ b.after) t b.row b.parts refl (record { before = b.between; symbol = s.0; after = b.after; parts = refl; skipped = b.skipped; first = (f s.0).0 here })

-- what a slice that was lent whole leaves in its list
pub written : (n : ℕ) (new old : List Bool) → length new ≡ n → take n (new ++ drop (length new) old) ≡ new
written n new old e = Rattle.std.proofs.lemmas.List.take_at new (drop (length new) old) n e
