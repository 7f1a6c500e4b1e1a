-- The pairs of a table are those of its relations.
use Rattle.std.proofs.Common.{◌≡◌, ◌<◌, ℕ, zero, suc, Bool, true, false, List, [], ◌∷◌, ◌++◌, drop, Some, refl, sym, ap, ◌∙◌, subst, inl, inr, ◌⊎◌, append_assoc, add-one, ◌+◌, ◌≤◌, length}
use Rattle.std.specs.Prelude.{IsTrue, if◌then◌else◌}
use Rattle.std.specs.List.{AllByRecursion}
use Rattle.std.proofs.lemmas.Bool.{and_parts}
use Rattle.std.proofs.lemmas.List.{append-nil, drop_all}
use Rattle.ll1_engine.specs.declared.grammar.Row.{Row}
use Rattle.ll1_engine.specs.Table.{IsRow}
use Rattle.ll1_engine.specs.Trees.{Nullable}
use Rattle.ll1_engine.specs.Marks.{marked, all_in}
use Rattle.ll1_engine.specs.Relations.{BeginsDirectly, StandsBefore, EndsDirectly, Represents, pair, begin_pairs, next_pairs, end_pairs, over}
use Rattle.ll1_engine.specs.Analysis.{AreBelow, MarksNullable}
use Rattle.ll1_engine.proofs.FirstLemmas.{Nullable_nil, Nullable_append}
use Rattle.ll1_engine.proofs.MarksLemmas.{all_append, all_parts}
use Rattle.ll1_engine.proofs.LeastSetLemmas.{all_nullable}

-- the row stands in the list
abbrev pub StandsIn : Row → List Row → Type 0
StandsIn q [] = ⊥
StandsIn q (r ∷ rows) = (r ≡ q) ⊎ StandsIn q rows

stands_left : (q : Row) (xs ys : List Row) → StandsIn q xs → StandsIn q (xs ++ ys)
stands_left q [] ys h = absurd h
stands_left q (r ∷ xs) ys (inl e) = inl e
stands_left q (r ∷ xs) ys (inr h) = inr (stands_left q xs ys h)

stands_right : (q : Row) (xs ys : List Row) → StandsIn q ys → StandsIn q (xs ++ ys)
stands_right q [] ys h = h
stands_right q (r ∷ xs) ys h = inr (stands_right q xs ys h)

stands_at : (q : Row) (rows : List Row) → StandsIn q rows → (k : ℕ) × IsRow rows k q
stands_at q [] h = absurd h
stands_at q (r ∷ rows) (inl e) = (0, ap (λ (z : Row). Some z) e)
stands_at q (r ∷ rows) (inr h) = (let p = stands_at q rows h in (suc p.0, p.1))

stands_over : (f : Row → List Row) (g : List Row) (k : ℕ) (r q : Row) → IsRow g k r → StandsIn q (f r) → StandsIn q (over f g)
stands_over f [] k r q h m = absurd (cc)
stands_over f (s ∷ g) zero r q h m = let e : s ≡ r = cc in stands_left q (f s) (over f g) (subst (λ (z : Row). StandsIn q (f z)) (sym e) m)
stands_over f (s ∷ g) (suc k) r q h m = stands_right q (f s) (over f g) (stands_over f g k r q h m)

-- what holds of each row of each part holds of each row
all_at : (P : Row → Type 0) (rows : List Row) → AllByRecursion P rows → (k : ℕ) (r : Row) → IsRow rows k r → P r
all_at P [] a k r h = absurd (let e : Rattle.std.proofs.Common.None ≡ Some r = h in cc)
all_at P (s ∷ rows) a zero r h = (let e : s ≡ r = cc in subst P e a.0)
all_at P (s ∷ rows) a (suc k) r h = all_at P rows a.1 k r h

all_over : (P : Row → Type 0) (f : Row → List Row) (g : List Row) → ((k : ℕ) (r : Row) → IsRow g k r → AllByRecursion P (f r)) → AllByRecursion P (over f g)
all_over P f [] a = tt
all_over P f (r ∷ g) a = all_append P (f r) (over f g) (a 0 r refl) (all_over P f g (λ k s h. a (suc k) s h))

all_if : (P : Row → Type 0) (b : Bool) (xs : List Row) → (b ≡ true → AllByRecursion P xs) → AllByRecursion P (if b then xs else [])
all_if P true xs a = a refl
all_if P false xs a = tt

stands_if : (q : Row) (b : Bool) (xs : List Row) → b ≡ true → StandsIn q xs → StandsIn q (if b then xs else [])
stands_if q true xs e h = h
stands_if q false xs e h = absurd (cc)

-- one step of a loop over rows
pub over_step : (f : Row → List Row) (rows : List Row) (i : ℕ) (r : Row) → IsRow rows i r → over f (drop i rows) ≡ f r ++ over f (drop (suc i) rows)
over_step f [] i r h = absurd (let e : Rattle.std.proofs.Common.None ≡ Some r = h in cc)
over_step f (s ∷ rows) zero r h = (let e : s ≡ r = cc in ap (λ (z : Row). f z ++ over f rows) e)
over_step f (s ∷ rows) (suc i) r h = over_step f rows i r h

pub pushed : (f : Row → List Row) (rows : List Row) (i : ℕ) (r : Row) (pairs whole more pairs' : List Row) → IsRow rows i r → pairs ++ over f (drop i rows) ≡ whole → more ≡ f r → pairs' ≡ pairs ++ more → pairs' ++ over f (drop (i + 1) rows) ≡ whole
pushed f rows i r pairs whole more pairs' h e m p =
    ap (λ (zs : List Row). zs ++ over f (drop (i + 1) rows)) (p ∙ ap (λ (zs : List Row). pairs ++ zs) m)
    ∙ (append_assoc pairs (f r) (over f (drop (i + 1) rows)) ∙ (ap (λ (zs : List Row). pairs ++ zs) (ap (λ (j : ℕ). f r ++ over f (drop j rows)) (add-one i) ∙ sym (over_step f rows i r h)) ∙ e))

pub finished : (f : Row → List Row) (rows : List Row) (i : ℕ) (pairs : List Row) → pairs ++ over f (drop i rows) ≡ over f rows → length rows ≤ i → pairs ≡ over f rows
finished f rows i pairs e ge = sym (append-nil pairs) ∙ (ap (λ (zs : List Row). pairs ++ over f zs) (sym (drop_all i rows ge)) ∙ e)

-- each pair that stands in a right side
begins_stand : (n : ℕ → Bool) (x : ℕ) (before : List ℕ) (y : ℕ) (after : List ℕ) → IsTrue (all_in n before) → StandsIn (pair x y) (begin_pairs n x (before ++ y ∷ after))
begins_stand n x [] y after h = inl refl
begins_stand n x (z ∷ before) y after h =
    let both = and_parts (n z) (all_in n before) h in
    inr (stands_if (pair x y) (n z) (begin_pairs n x (before ++ y ∷ after)) both.0 (begins_stand n x before y after both.1))

next_stand : (n : ℕ → Bool) (before : List ℕ) (x : ℕ) (between : List ℕ) (y : ℕ) (after : List ℕ) → IsTrue (all_in n between) → StandsIn (pair x y) (next_pairs n (before ++ x ∷ (between ++ y ∷ after)))
next_stand n [] x between y after h = stands_left (pair x y) (begin_pairs n x (between ++ y ∷ after)) (next_pairs n (between ++ y ∷ after)) (begins_stand n x between y after h)
next_stand n (z ∷ before) x between y after h =
    let rest = before ++ x ∷ (between ++ y ∷ after) in
    stands_right (pair x y) (begin_pairs n z rest) (next_pairs n rest) (next_stand n before x between y after h)

ends_stand : (n : ℕ → Bool) (before : List ℕ) (x y : ℕ) (after : List ℕ) → IsTrue (all_in n after) → StandsIn (pair x y) (end_pairs n y (before ++ x ∷ after))
ends_stand n [] x y after h = stands_left (pair x y) (if all_in n after then pair x y ∷ [] else []) (end_pairs n y after) (stands_if (pair x y) (all_in n after) (pair x y ∷ []) h (inl refl))
ends_stand n (z ∷ before) x y after h =
    let rest = before ++ x ∷ after in
    stands_right (pair x y) (if all_in n rest then pair z y ∷ [] else []) (end_pairs n y rest) (ends_stand n before x y after h)

-- the row is a pair of the relation
abbrev pub IsPair : (ℕ → ℕ → Type 0) → Row → Type 0
IsPair R r = (y : ℕ) × (r.right ≡ y ∷ []) × R r.left y

represents : (R : ℕ → ℕ → Type 0) (pairs : List Row) → AllByRecursion (IsPair R) pairs → ((x y : ℕ) → R x y → StandsIn (pair x y) pairs) → Represents pairs R
represents R pairs sound whole =
    record {
      sound = λ k r h. all_at (IsPair R) pairs sound k r h;
      whole = λ x y h. (let p = stands_at (pair x y) pairs (whole x y h) in (p.0, pair x y, p.1, refl, refl));
    }

-- the symbols of the pairs are symbols of the table
pub pairs_below : (size : ℕ) (R : ℕ → ℕ → Type 0) (pairs : List Row) → ((x y : ℕ) → R x y → (x < size) × (y < size)) → Represents pairs R → AreBelow size pairs
pairs_below size R pairs below rep = λ k r h.
    let s = rep.sound k r h in
    let b = below r.left s.0 s.2 in
    record { left = b.0; right = subst (AllByRecursion (λ y. y < size)) (sym s.1) (b.1, tt) }

module _ (g : List Row) (nullable : List Bool) (m : MarksNullable g nullable) where
  -- the pairs of a part of a row
  begins_sound : (k : ℕ) (r : Row) (before ys : List ℕ) → IsRow g k r → r.right ≡ before ++ ys → Nullable g before → AllByRecursion (IsPair (BeginsDirectly g)) (begin_pairs (marked nullable) r.left ys)
  begins_sound k r before [] h e skipped = tt
  begins_sound k r before (y ∷ ys) h e skipped = (
    (y, refl, record { k = k; r = r; before = before; after = ys; row = h; left = refl; parts = e; skipped = skipped }),
    all_if (IsPair (BeginsDirectly g)) (marked nullable y) (begin_pairs (marked nullable) r.left ys)
        (λ i. begins_sound k r (before ++ y ∷ []) ys h (e ∙ sym (append_assoc before (y ∷ []) ys)) (Nullable_append g before (y ∷ []) skipped ((m y).0 i))),
  )

  after_sound : (k : ℕ) (r : Row) (x : ℕ) (before between ys : List ℕ) → IsRow g k r → r.right ≡ before ++ x ∷ (between ++ ys) → Nullable g between → AllByRecursion (IsPair (StandsBefore g)) (begin_pairs (marked nullable) x ys)
  after_sound k r x before between [] h e skipped = tt
  after_sound k r x before between (y ∷ ys) h e skipped = (
    (y, refl, record { k = k; r = r; before = before; between = between; after = ys; row = h; parts = e; skipped = skipped }),
    all_if (IsPair (StandsBefore g)) (marked nullable y) (begin_pairs (marked nullable) x ys)
        (λ i. after_sound k r x before (between ++ y ∷ []) ys h (e ∙ ap (λ (zs : List ℕ). before ++ x ∷ zs) (sym (append_assoc between (y ∷ []) ys))) (Nullable_append g between (y ∷ []) skipped ((m y).0 i))),
  )

  next_sound : (k : ℕ) (r : Row) (before ys : List ℕ) → IsRow g k r → r.right ≡ before ++ ys → AllByRecursion (IsPair (StandsBefore g)) (next_pairs (marked nullable) ys)
  next_sound k r before [] h e = tt
  next_sound k r before (y ∷ ys) h e =
      all_append (IsPair (StandsBefore g)) (begin_pairs (marked nullable) y ys) (next_pairs (marked nullable) ys) (after_sound k r y before [] ys h e (Nullable_nil g))
      (next_sound k r (before ++ y ∷ []) ys h (e ∙ sym (append_assoc before (y ∷ []) ys)))

  ends_sound : (k : ℕ) (r : Row) (before ys : List ℕ) → IsRow g k r → r.right ≡ before ++ ys → AllByRecursion (IsPair (EndsDirectly g)) (end_pairs (marked nullable) r.left ys)
  ends_sound k r before [] h e = tt
  ends_sound k r before (y ∷ ys) h e =
      all_append (IsPair (EndsDirectly g)) (if all_in (marked nullable) ys then pair y r.left ∷ [] else []) (end_pairs (marked nullable) r.left ys)
      (all_if (IsPair (EndsDirectly g)) (all_in (marked nullable) ys) (pair y r.left ∷ [])
      (λ i. ((r.left, refl, record { k = k; r = r; before = before; after = ys; row = h; left = refl; parts = e; skipped = (all_nullable g nullable m ys).0 i }), tt)))
      (ends_sound k r (before ++ y ∷ []) ys h (e ∙ sym (append_assoc before (y ∷ []) ys)))

  pub begins_represent : (pairs : List Row) → pairs ≡ over (λ r. begin_pairs (marked nullable) r.left r.right) g → Represents pairs (BeginsDirectly g)
  begins_represent pairs e =
      subst (λ (zs : List Row). Represents zs (BeginsDirectly g)) (sym e) (represents (BeginsDirectly g) _ (all_over (IsPair (BeginsDirectly g)) (λ r. begin_pairs (marked nullable) r.left r.right) g (λ k r h. begins_sound k r [] r.right h refl (Nullable_nil g)))
      (λ x y b. stands_over (λ r. begin_pairs (marked nullable) r.left r.right) g b.k b.r (pair x y) b.row (subst (λ (z : ℕ). StandsIn (pair x y) (begin_pairs (marked nullable) z b.r.right)) (sym b.left)
      (subst (λ (zs : List ℕ). StandsIn (pair x y) (begin_pairs (marked nullable) x zs)) (sym b.parts) (begins_stand (marked nullable) x b.before y b.after ((all_nullable g nullable m b.before).1 b.skipped))))))

  pub next_represent : (pairs : List Row) → pairs ≡ over (λ r. next_pairs (marked nullable) r.right) g → Represents pairs (StandsBefore g)
  next_represent pairs e =
      subst (λ (zs : List Row). Represents zs (StandsBefore g)) (sym e) (represents (StandsBefore g) _ (all_over (IsPair (StandsBefore g)) (λ r. next_pairs (marked nullable) r.right) g (λ k r h. next_sound k r [] r.right h refl))
      (λ x y b. stands_over (λ r. next_pairs (marked nullable) r.right) g b.k b.r (pair x y) b.row
      (subst (λ (zs : List ℕ). StandsIn (pair x y) (next_pairs (marked nullable) zs)) (sym b.parts) (next_stand (marked nullable) b.before x b.between y b.after ((all_nullable g nullable m b.between).1 b.skipped)))))

  pub ends_represent : (pairs : List Row) → pairs ≡ over (λ r. end_pairs (marked nullable) r.left r.right) g → Represents pairs (EndsDirectly g)
  ends_represent pairs e =
      subst (λ (zs : List Row). Represents zs (EndsDirectly g)) (sym e) (represents (EndsDirectly g) _ (all_over (IsPair (EndsDirectly g)) (λ r. end_pairs (marked nullable) r.left r.right) g (λ k r h. ends_sound k r [] r.right h refl))
      (λ x y b. stands_over (λ r. end_pairs (marked nullable) r.left r.right) g b.k b.r (pair x y) b.row (subst (λ (z : ℕ). StandsIn (pair x y) (end_pairs (marked nullable) z b.r.right)) (sym b.left)
      (subst (λ (zs : List ℕ). StandsIn (pair x y) (end_pairs (marked nullable) y zs)) (sym b.parts) (ends_stand (marked nullable) b.before x y b.after ((all_nullable g nullable m b.after).1 b.skipped))))))

-- the symbols of related pairs stand in the table
module _ (size : ℕ) (g : List Row) (below : AreBelow size g) where
  symbol_below : (before : List ℕ) (y : ℕ) (after : List ℕ) → AllByRecursion (λ z. z < size) (before ++ y ∷ after) → y < size
  symbol_below before y after a = (all_parts (λ z. z < size) before (y ∷ after) a).1.0

  behind_below : (before between : List ℕ) (x y : ℕ) (after : List ℕ) → AllByRecursion (λ z. z < size) (before ++ x ∷ (between ++ y ∷ after)) → y < size
  behind_below before between x y after a = symbol_below between y after (all_parts (λ z. z < size) before (x ∷ (between ++ y ∷ after)) a).1.1

  pub begins_below : (x y : ℕ) → BeginsDirectly g x y → (x < size) × (y < size)
  begins_below x y b = (
    subst (λ (z : ℕ). z < size) b.left (below b.k b.r b.row).left,
    symbol_below b.before y b.after (subst (AllByRecursion (λ z. z < size)) b.parts (below b.k b.r b.row).right),
  )

  pub next_below : (x y : ℕ) → StandsBefore g x y → (x < size) × (y < size)
  next_below x y b =
      let a = subst (AllByRecursion (λ z. z < size)) b.parts (below b.k b.r b.row).right in
      (symbol_below b.before x (b.between ++ y ∷ b.after) a, behind_below b.before b.between x y b.after a)

  pub ends_below : (x y : ℕ) → EndsDirectly g x y → (x < size) × (y < size)
  ends_below x y b = (
    symbol_below b.before x b.after (subst (AllByRecursion (λ z. z < size)) b.parts (below b.k b.r b.row).right),
    subst (λ (z : ℕ). z < size) b.left (below b.k b.r b.row).left,
  )
