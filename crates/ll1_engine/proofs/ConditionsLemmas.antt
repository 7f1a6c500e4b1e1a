-- Laws of the checks of a row.
use Rattle.std.proofs.Common.{◌≡◌, ◌≢◌, ℕ, zero, suc, ◌+◌, ◌<◌, ◌≤◌, Bool, true, false, eqb, leb, cond, List, [], ◌∷◌, ◌++◌, length, get_or, take, drop, refl, sym, ap, ◌∙◌, subst, inl, inr, arith}
use Rattle.std.specs.Prelude.{IsTrue, ◌↔◌}
use Rattle.std.specs.List.{AllByRecursion}
use Rattle.std.proofs.lemmas.Bool.{cases_lt, leb-true, le-leb, eqb-true, eq-eqb, false≢true}
use Rattle.std.proofs.lemmas.List.{take-append-drop, drop_more, length-take-le, get_or_at, length-append}
use Rattle.std.proofs.lemmas.Option.{get_or_from_slice_get}
use Rattle.ll1_engine.specs.declared.grammar.Row.{Row}
use Rattle.ll1_engine.specs.declared.fault.Break.{Break}
use Rattle.ll1_engine.specs.declared.fault.Break.TheVariants.{Barren, Rank, Nullable as NullableTwice, First, Follow}
use Rattle.ll1_engine.specs.Table.{IsRow, IsToken}
use Rattle.ll1_engine.specs.First.{InFirst, BeginsWith}
use Rattle.ll1_engine.specs.Conditions.{StandsOnlyFirstIn, MayRank, BothNullable, SharesFirst, MeetsFollow, place_of}
use Rattle.ll1_engine.specs.Marks.{Has}
use Rattle.ll1_engine.specs.Analysis.{AreBelow, MarksNullableRows, MarksFirstRows, OtherMarked, HasPlainTwin, BeginsAndFollows}

-- the row that was read at a place is the row of the table there
pub row_read : (g : List Row) (k : ℕ) (r x : Row) → IsRow g k r → x ≡ get_or g k x → x ≡ r
row_read g k r x h e = e ∙ get_or_from_slice_get g k r x h

-- the row does not have t at place 0, unless it is row k, nor at a later place
abbrev pub LacksPast : ℕ → ℕ → ℕ → Row → Type 0
LacksPast t k j s = (i : ℕ) → cond (eqb j k) 1 0 ≤ i → i < length s.right → get_or s.right i 0 ≢ t

at_place : (xs : List ℕ) (i : ℕ) → i < length xs → xs ≡ take i xs ++ get_or xs i 0 ∷ drop (i + 1) xs
at_place xs i lt = sym (take-append-drop i xs) ∙ ap (λ (zs : List ℕ). take i xs ++ zs) (drop_more xs i 0 lt)

empty_front : (xs : List ℕ) → length xs < 1 → xs ≡ []
empty_front [] lt = refl
empty_front (x ∷ xs) lt = absurd (omega arith)

pub stands_from_lacks : (g : List Row) (t k : ℕ) → ((j : ℕ) (s : Row) → IsRow g j s → LacksPast t k j s) → StandsOnlyFirstIn g t k
stands_from_lacks g t k lacks = λ j s before after h e. by_place j s before after h e (eqb j k) refl
  where
    here : (s : Row) (before after : List ℕ) → s.right ≡ before ++ t ∷ after → get_or s.right (length before) 0 ≡ t
    here s before after e = ap (λ (zs : List ℕ). get_or zs (length before) 0) e ∙ get_or_at before t after 0 (length before) refl

    within : (s : Row) (before after : List ℕ) → s.right ≡ before ++ t ∷ after → length before < length s.right
    within s before after e = (let len : length s.right ≡ length before + length (t ∷ after) = ap (length {A = ℕ}) e ∙ length-append before (t ∷ after) in let l : length (t ∷ after) ≡ suc (length after) = refl in omega arith)

    by_place : (j : ℕ) (s : Row) (before after : List ℕ) → IsRow g j s → s.right ≡ before ++ t ∷ after → (b : Bool) → eqb j k ≡ b → (j ≡ k) × (before ≡ [])
    by_place j s before after h e true is = (
      eqb-true j k is,
      elim (cases_lt (length before) 1) [
        | inl short ↦ empty_front before short
        | inr long ↦ absurd (lacks j s h (length before) (subst (λ (b : Bool). cond b 1 0 ≤ length before) (sym is) long) (within s before after e) (here s before after e))
      ],
    )
    by_place j s before after h e false is = absurd (lacks j s h (length before) (subst (λ (b : Bool). cond b 1 0 ≤ length before) (sym is) (omega arith)) (within s before after e) (here s before after e))

pub lacks_from_stands : (g : List Row) (t k : ℕ) → StandsOnlyFirstIn g t k → (j : ℕ) (s : Row) → IsRow g j s → LacksPast t k j s
lacks_from_stands g t k once j s h = λ i from lt same.
    let found = once j s (take i s.right) (drop (i + 1) s.right) h (at_place s.right i lt ∙ ap (λ (z : ℕ). take i s.right ++ z ∷ drop (i + 1) s.right) same) in
    let len : length (take i s.right) ≡ i = length-take-le i s.right (omega arith) in
    let none : length (take i s.right) ≡ 0 = ap (length {A = ℕ}) found.1 in
    let from' : 1 ≤ i = subst (λ (b : Bool). cond b 1 0 ≤ i) (eq-eqb j k found.0) from in
    omega arith

-- what a list over the symbols of the table begins with is one of them
pub first_below : (size : ℕ) (g : List Row) → AreBelow size g → (x t : ℕ) → x < size → InFirst g x t → t < size
first_below size g below x t lt f =
    elim (cases_lt t size) [
      | inl less ↦ less
      | inr past ↦ (let h : size ≤ x = leb-true size x (f (λ y. leb size y) (record {
        itself = λ tok. le-leb size t past;
        row = λ k r before y after i e n p. absurd (let y_below = part_below before y after (subst (AllByRecursion (λ z. z < size)) e (below k r i).right) in let y_above = leb-true size y p in omega arith);
      })) in omega arith)
    ]
  where
    part_below : (before : List ℕ) (y : ℕ) (after : List ℕ) → AllByRecursion (λ z. z < size) (before ++ y ∷ after) → y < size
    part_below [] y after h = h.0
    part_below (z ∷ before) y after h = part_below before y after h.1

pub begins_below : (size : ℕ) (g : List Row) → AreBelow size g → (k : ℕ) (r : Row) → IsRow g k r → (t : ℕ) → BeginsWith g r.right t → t < size
begins_below size g below k r h t b = first_below size g below b.symbol t (part_below b.before b.symbol b.after (subst (AllByRecursion (λ z. z < size)) b.parts (below k r h).right)) b.first
  where
    part_below : (before : List ℕ) (y : ℕ) (after : List ℕ) → AllByRecursion (λ z. z < size) (before ++ y ∷ after) → y < size
    part_below [] y after h = h.0
    part_below (z ∷ before) y after h = part_below before y after h.1

pub shares_marked : (g : List Row) (k : ℕ) (r : Row) (marks : List Bool) (s : SharesFirst g k r) → MarksFirstRows g s.token marks → OtherMarked g k r marks
shares_marked g k r marks s m = (s.j, s.s, s.other, (m s.j s.s s.other.row).1 s.there)

-- a row and another one that derive the empty list
pub nullable_unmarked : (g : List Row) (k : ℕ) (r : Row) (marks : List Bool) → MarksNullableRows g marks → IsRow g k r → get_or marks k false ≡ false → ¬ BothNullable g k r
nullable_unmarked g k r marks m h e b = false≢true (sym e ∙ (m k r h).1 b.here)

pub nullable_match : (g : List Row) (k : ℕ) (r : Row) (marks : List Bool) (b : Bool) → MarksNullableRows g marks → IsRow g k r → Has marks k → (IsTrue b ↔ OtherMarked g k r marks) → Rattle.std.specs.Prelude.MatchBool b (BothNullable g k r) (¬ BothNullable g k r)
nullable_match g k r marks true m h here o = (let p = o.0 refl in record { j = p.0; s = p.1; other = p.2; here = (m k r h).0 here; there = (m p.0 p.1 p.2.row).0 p.3 })
nullable_match g k r marks false m h here o = λ b. false≢true (o.1 (b.j, b.s, b.other, (m b.j b.s b.other.row).1 b.there))

-- a row beside an empty one, with a token in its FIRST and in FOLLOW of its symbol
pub follow_unmarked : (g : List Row) (k : ℕ) (r : Row) (marks : List Bool) (b : Bool) → MarksNullableRows g marks → b ≡ false → (IsTrue b ↔ OtherMarked g k r marks) → ¬ MeetsFollow g k r
follow_unmarked g k r marks b m e o f = false≢true (sym e ∙ o.1 (f.j, f.s, f.other, (m f.j f.s f.other.row).1 f.empty))

pub follow_match : (g : List Row) (k : ℕ) (r : Row) (marks : List Bool) (b : Bool) → MarksNullableRows g marks → r.rank ≡ 0 → OtherMarked g k r marks → (IsTrue b ↔ BeginsAndFollows g r) → Rattle.std.specs.Prelude.MatchBool b (MeetsFollow g k r) (¬ MeetsFollow g k r)
follow_match g k r marks true m plain o h = (let p = h.0 refl in record { plain = plain; token = p.0; j = o.0; s = o.1; other = o.2; empty = (m o.0 o.1 o.2.row).0 o.3; here = p.1; behind = p.2 })
follow_match g k r marks false m plain o h = λ f. false≢true (h.1 (f.token, f.here, f.behind))

-- a loop's step over the tokens
pub token_step : (P : ℕ → Type 0) (n t : ℕ) → ((u : ℕ) → u < n → P u) → P n → t < n + 1 → P t
token_step P n t before here lt =
    elim (cases_lt t n) [
      | inl less ↦ before t less
      | inr more ↦ (let same : t ≡ n = omega arith in subst P (sym same) here)
    ]

pub not_first_row : (g : List Row) (k : ℕ) (r : Row) (t : ℕ) (marks read : List Bool) → MarksFirstRows g t marks → IsRow g k r → read ≡ marks → get_or read k false ≡ false → ¬ BeginsWith g r.right t
not_first_row g k r t marks read m h same e b = false≢true (sym e ∙ (ap (λ (z : List Bool). get_or z k false) same ∙ (m k r h).1 b))

pub first_row_here : (g : List Row) (k : ℕ) (r : Row) (t : ℕ) (marks read : List Bool) → MarksFirstRows g t marks → IsRow g k r → read ≡ marks → get_or read k false ≡ true → BeginsWith g r.right t
first_row_here g k r t marks read m h same e = (m k r h).0 (ap (λ (z : List Bool). get_or z k false) (sym same) ∙ e)

-- a row that may have a rank, from its parts
pub may_rank_match : (g : List Row) (k : ℕ) (r : Row) (token : ℕ) (rest : List ℕ) (b : Bool) → r.right ≡ token ∷ rest → IsToken g token → StandsOnlyFirstIn g token k → (IsTrue b ↔ HasPlainTwin g k r) → IsTrue b ↔ MayRank g k r
may_rank_match g k r token rest b e terminal once twin = (
  λ h. let t = twin.0 h in record { token = token; rest = rest; begins = e; terminal = terminal; once = once; j = t.j; s = t.s; other = t.other; empty = t.empty; plain = t.plain; only = t.only },
  λ m. twin.1 (record { j = m.j; s = m.s; other = m.other; empty = m.empty; plain = m.plain; only = m.only }),
)

-- the first symbol of a list that is not empty, and the rest
pub first_of_right : (xs : List ℕ) → eqb (length xs) 0 ≡ false → xs ≡ get_or xs 0 0 ∷ drop 1 xs
first_of_right [] e = absurd (cc)
first_of_right (y ∷ xs) e = refl

pub head_below : (n : ℕ) (xs : List ℕ) (x : ℕ) (ys : List ℕ) → xs ≡ x ∷ ys → AllByRecursion (λ y. y < n) xs → x < n
head_below n xs x ys e h = (subst (AllByRecursion (λ y. y < n)) e h).0

-- the conditions before one
pub before_rank : (P : Break → Type 0) → P Barren → (a : Break) → place_of a < 1 → P a
before_rank P p Barren lt = p
before_rank P p Rank lt = absurd (omega arith)
before_rank P p NullableTwice lt = absurd (omega arith)
before_rank P p First lt = absurd (omega arith)
before_rank P p Follow lt = absurd (omega arith)

pub before_follow : (P : Break → Type 0) → P Barren → P Rank → P NullableTwice → P First → (a : Break) → place_of a < 4 → P a
before_follow P p q u v Barren lt = p
before_follow P p q u v Rank lt = q
before_follow P p q u v NullableTwice lt = u
before_follow P p q u v First lt = v
before_follow P p q u v Follow lt = absurd (omega arith)

-- the row at a place within the table
pub row_at : (g : List Row) (k : ℕ) → k < length g → (r : Row) × IsRow g k r
row_at [] k lt = absurd (omega arith)
row_at (r ∷ g) zero lt = (r, refl)
row_at (s ∷ g) (suc k) lt = row_at g k (omega arith)
