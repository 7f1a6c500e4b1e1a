-- A table that passes the tests meets the five conditions.
use Rattle.std.proofs.Common.{◌≡◌, ◌≢◌, ℕ, zero, suc, ◌+◌, ◌-◌, ◌<◌, ◌≤◌, Bool, true, false, not, ◌||◌, eqb, ltb, List, [], ◌∷◌, ◌++◌, refl, sym, ap, ◌∙◌, subst, inl, inr, ◌⊎◌, arith}
use Rattle.std.specs.Prelude.{IsTrue, Option, None, Some, slice_get}
use Rattle.std.proofs.lemmas.Bool.{and_parts, eqb-true, eq-eqb, ltb-true, lt-ltb, le-ltb, ltb-false, cases_Bool, cases_eq, cases_lt, false≢true}
use Rattle.ll1_engine.specs.declared.grammar.Row.{Row}
use Rattle.ll1_engine.specs.Table.{IsRow, IsToken}
use Rattle.ll1_engine.specs.Marks.{marked, Has, all_in, begins_in}
use Rattle.ll1_engine.specs.Trees.{Productive}
use Rattle.ll1_engine.specs.Closed.{AreClosed}
use Rattle.ll1_engine.specs.Conditions.{StandsOnlyFirstIn, MayRank, BothNullable, SharesFirst, MeetsFollow}
use Rattle.ll1_engine.proofs.ClosedLemmas.{nullable_within, begins_within, follow_within}
use Rattle.ll1_engine.proofs.ProductiveLemmas.{Productive_nil, Productive_append, Productive_token, Productive_row}
use Rattle.p4_grammar.proofs.TableTests.{Certificate, union, within, apart, single, nullable_in, first_marks, first_in, follow_marks, follow_in, list_marks, null_ok, first_ok, behind_ok, follow_ok, row_ok, plain_ok, one_nullable, pair_ok, against, pairs_ok, all_from, rows_ok, is_left, lefts_ok, lacks, rest_of, rank_ok, all_known, mark_at, lefts_known, walk_ok}

-- Marks.

marked_none : (i : ℕ) → marked [] i ≡ true → ⊥
marked_none i h = cc

union_left : (a b : List Bool) (i : ℕ) → marked a i ≡ true → marked (union a b) i ≡ true
union_left [] b i h = absurd (cc)
union_left (x ∷ a) [] i h = h
union_left (x ∷ a) (y ∷ b) zero h = rw h refl
union_left (x ∷ a) (y ∷ b) (suc i) h = union_left a b i h

or_true : (x : Bool) → (x || true) ≡ true
or_true true = refl
or_true false = refl

union_right : (a b : List Bool) (i : ℕ) → marked b i ≡ true → marked (union a b) i ≡ true
union_right [] b i h = h
union_right (x ∷ a) [] i h = absurd (cc)
union_right (x ∷ a) (y ∷ b) zero h = ap (λ (z : Bool). x || z) h ∙ or_true x
union_right (x ∷ a) (y ∷ b) (suc i) h = union_right a b i h

within_at : (a b : List Bool) (i : ℕ) → within a b ≡ true → marked a i ≡ true → marked b i ≡ true
within_at [] b i w h = absurd (cc)
within_at (true ∷ a) [] i w h = absurd (cc)
within_at (false ∷ a) [] zero w h = absurd (cc)
within_at (false ∷ a) [] (suc i) w h = absurd (marked_none i (within_at a [] i w h))
within_at (true ∷ a) (false ∷ b) i w h = absurd (cc)
within_at (true ∷ a) (true ∷ b) zero w h = refl
within_at (true ∷ a) (true ∷ b) (suc i) w h = within_at a b i w h
within_at (false ∷ a) (y ∷ b) zero w h = absurd (cc)
within_at (false ∷ a) (y ∷ b) (suc i) w h = within_at a b i w h

apart_at : (a b : List Bool) (i : ℕ) → apart a b ≡ true → marked a i ≡ true → marked b i ≡ true → ⊥
apart_at [] b i w h k = cc
apart_at (x ∷ a) [] i w h k = cc
apart_at (true ∷ a) (true ∷ b) i w h k = cc
apart_at (true ∷ a) (false ∷ b) zero w h k = cc
apart_at (true ∷ a) (false ∷ b) (suc i) w h k = apart_at a b i w h k
apart_at (false ∷ a) (y ∷ b) zero w h k = cc
apart_at (false ∷ a) (y ∷ b) (suc i) w h k = apart_at a b i w h k

single_at : (i : ℕ) → marked (single i) i ≡ true
single_at zero = refl
single_at (suc i) = single_at i

-- Rows by their number.

at_row : (p : ℕ → Row → Bool) (i : ℕ) (g : List Row) (k : ℕ) (r : Row) → all_from p i g ≡ true → IsRow g k r → p (i + k) r ≡ true
at_row p i [] k r h e = absurd (cc)
at_row p i (s ∷ g) zero r h e =
    let same : s ≡ r = cc in
    let place : i ≡ i + 0 = omega arith in
    subst (λ (n : ℕ). p n r ≡ true) place (subst (λ (q : Row). p i q ≡ true) same (and_parts (p i s) (all_from p (suc i) g) h).0)
at_row p i (s ∷ g) (suc k) r h e =
    let place : suc i + k ≡ i + suc k = omega arith in
    subst (λ (n : ℕ). p n r ≡ true) place (at_row p (suc i) g k r (and_parts (p i s) (all_from p (suc i) g) h).1 e)

pub at_row_zero : (p : ℕ → Row → Bool) (g : List Row) (k : ℕ) (r : Row) → all_from p 0 g ≡ true → IsRow g k r → p k r ≡ true
at_row_zero p g k r h e = let place : 0 + k ≡ k = omega arith in subst (λ (n : ℕ). p n r ≡ true) place (at_row p 0 g k r h e)

against_at : (c : Certificate) (r : Row) (g : List Row) (j : ℕ) (s : Row) → against c r g ≡ true → IsRow g j s → pair_ok c r s ≡ true
against_at c r [] j s h e = absurd (cc)
against_at c r (q ∷ g) zero s h e = let same : q ≡ s = cc in subst (λ (x : Row). pair_ok c r x ≡ true) same (and_parts (pair_ok c r q) (against c r g) h).0
against_at c r (q ∷ g) (suc j) s h e = against_at c r g j s (and_parts (pair_ok c r q) (against c r g) h).1 e

-- two rows are tested in one order or the other
pair_at : (c : Certificate) (g : List Row) (k j : ℕ) (r s : Row) → pairs_ok c g ≡ true → IsRow g k r → IsRow g j s → j ≢ k → (pair_ok c r s ≡ true) ⊎ (pair_ok c s r ≡ true)
pair_at c [] k j r s h e f d = absurd (cc)
pair_at c (q ∷ g) zero zero r s h e f d = absurd (d refl)
pair_at c (q ∷ g) zero (suc j) r s h e f d = let same : q ≡ r = cc in inl (against_at c r g j s (subst (λ (x : Row). against c x g ≡ true) same (and_parts (against c q g) (pairs_ok c g) h).0) f)
pair_at c (q ∷ g) (suc k) zero r s h e f d = let same : q ≡ s = cc in inr (against_at c s g k r (subst (λ (x : Row). against c x g ≡ true) same (and_parts (against c q g) (pairs_ok c g) h).0) e)
pair_at c (q ∷ g) (suc k) (suc j) r s h e f d = pair_at c g k j r s (and_parts (against c q g) (pairs_ok c g) h).1 e f (λ same. d (ap suc same))

-- Words and forms.

left_row : (g : List Row) (x : ℕ) → is_left g x ≡ true → (k : ℕ) × (r : Row) × IsRow g k r × (r.left ≡ x)
left_row [] x h = absurd (cc)
left_row (s ∷ g) x h = by_test (eqb s.left x) refl (λ m. left_row g x m)
  where
    by_test : (b : Bool) → eqb s.left x ≡ b → (is_left g x ≡ true → (k : ℕ) × (r : Row) × IsRow g k r × (r.left ≡ x)) → (k : ℕ) × (r : Row) × IsRow (s ∷ g) k r × (r.left ≡ x)
    by_test true e again = (0, s, refl, eqb-true s.left x e)
    by_test false e again =
        let p = again (rw (e, is_left) at h) in
        (suc p.0, p.1, p.2, p.3)

form_is_left : (g : List Row) (n x : ℕ) → lefts_ok g n ≡ true → x < n → is_left g x ≡ true
form_is_left g zero x h lt = absurd (omega arith)
form_is_left g (suc n) x h lt =
    elim (cases_eq x n) [
      | inl same ↦ subst (λ (z : ℕ). is_left g z ≡ true) (sym same) (and_parts (is_left g n) (lefts_ok g n) h).0
      | inr other ↦ form_is_left g n x (and_parts (is_left g n) (lefts_ok g n) h).1 (omega arith)
    ]

token_past : (g : List Row) (n t : ℕ) → lefts_ok g n ≡ true → IsToken g t → n ≤ t
token_past g n t h token =
    elim (cases_lt t n) [
      | inl lt ↦ (let p = left_row g t (form_is_left g n t h lt) in absurd (token p.0 p.1 p.2 p.3))
      | inr past ↦ past
    ]

-- FIRST of a list.

first_past : (c : Certificate) (t : ℕ) → c.count ≤ t → first_in c t t ≡ true
first_past c t past = rw (le-ltb t c.count past, first_in, first_marks) (single_at (t - c.count))

begins_marks : (c : Certificate) (t : ℕ) (xs : List ℕ) → begins_in (first_in c t) (nullable_in c) xs ≡ true → marked (list_marks c xs) (t - c.count) ≡ true
begins_marks c t [] h = absurd (cc)
begins_marks c t (x ∷ xs) h = by_tests (nullable_in c x) (first_in c t x) refl refl (λ m. begins_marks c t xs m)
  where
    by_tests : (n f : Bool) → nullable_in c x ≡ n → first_in c t x ≡ f → (begins_in (first_in c t) (nullable_in c) xs ≡ true → marked (list_marks c xs) (t - c.count) ≡ true) → marked (list_marks c (x ∷ xs)) (t - c.count) ≡ true
    by_tests true true n f again = rw (n, list_marks) (union_left (first_marks c x) (list_marks c xs) (t - c.count) f)
    by_tests false true n f again = rw (n, list_marks) f
    by_tests true false n f again =
        let more : begins_in (first_in c t) (nullable_in c) xs ≡ true = rw (f, n) at h in
        rw (n, list_marks) (union_right (first_marks c x) (list_marks c xs) (t - c.count) (again more))
    by_tests false false n f again = absurd (false≢true (rw (f, n) at h))

-- The sets are closed.

follow_word : (c : Certificate) (t y : ℕ) → c.count ≤ y → follow_in c t y ≡ true
follow_word c t y past = rw (le-ltb y c.count past, follow_in) refl

follow_form : (c : Certificate) (t y : ℕ) → y < c.count → marked (follow_marks c y) (t - c.count) ≡ true → follow_in c t y ≡ true
follow_form c t y form h = rw (lt-ltb y c.count form, follow_in) h

form_follow : (c : Certificate) (t y : ℕ) → y < c.count → follow_in c t y ≡ true → marked (follow_marks c y) (t - c.count) ≡ true
form_follow c t y form h = rw (lt-ltb y c.count form, follow_in) at h

null_at : (c : Certificate) (r : Row) → null_ok c r ≡ true → IsTrue (all_in (nullable_in c) r.right) → IsTrue (nullable_in c r.left)
null_at c r ok h = rw (h, null_ok) at ok

first_at : (c : Certificate) (r : Row) (t : ℕ) → first_ok c r ≡ true → IsTrue (begins_in (first_in c t) (nullable_in c) r.right) → IsTrue (first_in c t r.left)
first_at c r t ok h = within_at (list_marks c r.right) (first_marks c r.left) (t - c.count) ok (begins_marks c t r.right h)

behind_at : (c : Certificate) (left : ℕ) (before : List ℕ) (y : ℕ) (after : List ℕ) → follow_ok c left (before ++ y ∷ after) ≡ true → behind_ok c left y after ≡ true
behind_at c left [] y after h = (and_parts (behind_ok c left y after) (follow_ok c left after) h).0
behind_at c left (x ∷ before) y after h = behind_at c left before y after (and_parts (behind_ok c left x (before ++ y ∷ after)) (follow_ok c left (before ++ y ∷ after)) h).1

behind_parts : (c : Certificate) (left y : ℕ) (after : List ℕ) → y < c.count → behind_ok c left y after ≡ true →
    (within (list_marks c after) (follow_marks c y) ≡ true) × (all_in (nullable_in c) after ≡ true → within (follow_marks c left) (follow_marks c y) ≡ true)
behind_parts c left y after form h =
    let parts = and_parts (within (list_marks c after) (follow_marks c y)) _ (rw (lt-ltb y c.count form, behind_ok) at h) in
    (parts.0, λ e. rw e at parts.1)

next_at : (c : Certificate) (left : ℕ) (before : List ℕ) (y : ℕ) (after : List ℕ) (t : ℕ) → follow_ok c left (before ++ y ∷ after) ≡ true →
    IsTrue (begins_in (first_in c t) (nullable_in c) after) → IsTrue (follow_in c t y)
next_at c left before y after t ok h =
    elim (cases_lt y c.count) [
      | inl form ↦ follow_form c t y form (within_at (list_marks c after) (follow_marks c y) (t - c.count) (behind_parts c left y after form (behind_at c left before y after ok)).0 (begins_marks c t after h))
      | inr word ↦ follow_word c t y word
    ]

left_at : (c : Certificate) (left : ℕ) (before : List ℕ) (y : ℕ) (after : List ℕ) (t : ℕ) → left < c.count → follow_ok c left (before ++ y ∷ after) ≡ true →
    IsTrue (all_in (nullable_in c) after) → IsTrue (follow_in c t left) → IsTrue (follow_in c t y)
left_at c left before y after t lt ok e h =
    elim (cases_lt y c.count) [
      | inl form ↦ follow_form c t y form (within_at (follow_marks c left) (follow_marks c y) (t - c.count) ((behind_parts c left y after form (behind_at c left before y after ok)).1 e) (form_follow c t left lt h))
      | inr word ↦ follow_word c t y word
    ]

-- what the test of a row says
pub record RowFacts (c : Certificate) (r : Row) : Type 0 where
  pub form : r.left < c.count
  pub null : null_ok c r ≡ true
  pub first : first_ok c r ≡ true
  pub follow : follow_ok c r.left r.right ≡ true

row_facts : (c : Certificate) (g : List Row) (k : ℕ) (r : Row) → rows_ok c g ≡ true → IsRow g k r → RowFacts c r
row_facts c g k r h e =
    let a = and_parts (ltb r.left c.count) _ (at_row_zero (λ i q. row_ok c q) g k r h e) in
    let b = and_parts (null_ok c r) _ a.1 in
    let d = and_parts (first_ok c r) (follow_ok c r.left r.right) b.1 in
    record { form = ltb-true r.left c.count a.0; null = b.0; first = d.0; follow = d.1 }

closed : (c : Certificate) (g : List Row) → rows_ok c g ≡ true → lefts_ok g c.count ≡ true → AreClosed g (nullable_in c) (first_in c) (follow_in c)
closed c g rows lefts = record {
  nullable_row = λ k r e h. null_at c r (row_facts c g k r rows e).null h;
  first_token = λ t token. first_past c t (token_past g c.count t lefts token);
  first_row = λ k r t e h. first_at c r t (row_facts c g k r rows e).first h;
  follow_next = λ k r before y after t e parts h. next_at c r.left before y after t (subst (λ (xs : List ℕ). follow_ok c r.left xs ≡ true) parts (row_facts c g k r rows e).follow) h;
  follow_left = λ k r before y after t e parts n h. left_at c r.left before y after t (row_facts c g k r rows e).form (subst (λ (xs : List ℕ). follow_ok c r.left xs ≡ true) parts (row_facts c g k r rows e).follow) n h;
}

-- Two rows of one form.

pub record TwinFacts (c : Certificate) (r s : Row) : Type 0 where
  pub one : all_in (nullable_in c) r.right ≡ true → all_in (nullable_in c) s.right ≡ true → ⊥
  pub firsts : apart (list_marks c r.right) (list_marks c s.right) ≡ true
  pub plain : r.rank ≡ 0 → all_in (nullable_in c) s.right ≡ true → apart (list_marks c r.right) (follow_marks c r.left) ≡ true
  pub other : s.rank ≡ 0 → all_in (nullable_in c) r.right ≡ true → apart (list_marks c s.right) (follow_marks c s.left) ≡ true

plain_at : (c : Certificate) (r s : Row) → plain_ok c r s ≡ true → r.rank ≡ 0 → all_in (nullable_in c) s.right ≡ true → apart (list_marks c r.right) (follow_marks c r.left) ≡ true
plain_at c r s ok z n = rw n at (rw (eq-eqb r.rank 0 z, plain_ok) at ok)

twin_facts : (c : Certificate) (r s : Row) → r.left ≡ s.left → pair_ok c r s ≡ true → TwinFacts c r s
twin_facts c r s same h =
    let a = and_parts (one_nullable c r s) _ (rw (eq-eqb r.left s.left same, pair_ok) at h) in
    let b = and_parts (apart (list_marks c r.right) (list_marks c s.right)) _ a.1 in
    let d = and_parts (plain_ok c r s) (plain_ok c s r) b.1 in
    record {
      one = λ x y. false≢true (rw (x, y, one_nullable) at a.0);
      firsts = b.0;
      plain = λ z n. plain_at c r s d.0 z n;
      other = λ z n. plain_at c s r d.1 z n;
    }

-- What two rows of one form may not do, whichever of them is tested first.
pub record Apart (c : Certificate) (r s : Row) : Type 0 where
  pub one : all_in (nullable_in c) r.right ≡ true → all_in (nullable_in c) s.right ≡ true → ⊥
  pub firsts : (i : ℕ) → marked (list_marks c r.right) i ≡ true → marked (list_marks c s.right) i ≡ true → ⊥
  pub plain : (i : ℕ) → r.rank ≡ 0 → all_in (nullable_in c) s.right ≡ true → marked (list_marks c r.right) i ≡ true → marked (follow_marks c r.left) i ≡ true → ⊥

apart_rows : (c : Certificate) (g : List Row) (k j : ℕ) (r s : Row) → pairs_ok c g ≡ true → IsRow g k r → IsRow g j s → j ≢ k → s.left ≡ r.left → Apart c r s
apart_rows c g k j r s h e f d same =
    elim (pair_at c g k j r s h e f d) [
      | inl here ↦ (let t = twin_facts c r s (sym same) here in record {
        one = t.one;
        firsts = λ i x y. apart_at (list_marks c r.right) (list_marks c s.right) i t.firsts x y;
        plain = λ i z n x y. apart_at (list_marks c r.right) (follow_marks c r.left) i (t.plain z n) x y;
      })
      | inr there ↦ (let t = twin_facts c s r same there in record {
        one = λ x y. t.one y x;
        firsts = λ i x y. apart_at (list_marks c s.right) (list_marks c r.right) i t.firsts y x;
        plain = λ i z n x y. apart_at (list_marks c r.right) (follow_marks c r.left) i (t.other z n) x y;
      })
    ]

module _ (c : Certificate) (g : List Row) (rows : rows_ok c g ≡ true) (lefts : lefts_ok g c.count ≡ true) (pairs : pairs_ok c g ≡ true) where
  is_closed : AreClosed g (nullable_in c) (first_in c) (follow_in c)
  is_closed = closed c g rows lefts

  pub not_both_nullable : (k : ℕ) (r : Row) → IsRow g k r → ¬ BothNullable g k r
  not_both_nullable k r e b =
      (apart_rows c g k b.j r b.s pairs e b.other.row b.other.apart b.other.left).one
      (nullable_within g (nullable_in c) (first_in c) (follow_in c) is_closed r.right b.here)
      (nullable_within g (nullable_in c) (first_in c) (follow_in c) is_closed b.s.right b.there)

  pub no_shared_first : (k : ℕ) (r : Row) → IsRow g k r → ¬ SharesFirst g k r
  no_shared_first k r e b =
      (apart_rows c g k b.j r b.s pairs e b.other.row b.other.apart b.other.left).firsts (b.token - c.count)
      (begins_marks c b.token r.right (begins_within g (nullable_in c) (first_in c) (follow_in c) is_closed b.token r.right b.here))
      (begins_marks c b.token b.s.right (begins_within g (nullable_in c) (first_in c) (follow_in c) is_closed b.token b.s.right b.there))

  pub no_follow_met : (k : ℕ) (r : Row) → IsRow g k r → ¬ MeetsFollow g k r
  no_follow_met k r e b =
      (apart_rows c g k b.j r b.s pairs e b.other.row b.other.apart b.other.left).plain (b.token - c.count) b.plain
      (nullable_within g (nullable_in c) (first_in c) (follow_in c) is_closed b.s.right b.empty)
      (begins_marks c b.token r.right (begins_within g (nullable_in c) (first_in c) (follow_in c) is_closed b.token r.right b.here))
      (form_follow c b.token r.left (row_facts c g k r rows e).form (follow_within g (nullable_in c) (first_in c) (follow_in c) is_closed b.token r.left b.behind))

  pub word_is_token : (x : ℕ) → c.count ≤ x → IsToken g x
  word_is_token x past k r e same = (let form = (row_facts c g k r rows e).form in let form' : x < c.count = subst (λ (z : ℕ). z < c.count) same form in omega arith)

  -- The row with a rank.

  lacks_at : (t : ℕ) (before after : List ℕ) → lacks t (before ++ t ∷ after) ≡ true → ⊥
  lacks_at t [] after h = false≢true (rw (eq-eqb t t refl) at (and_parts (not (eqb t t)) (lacks t after) h).0)
  lacks_at t (x ∷ before) after h = lacks_at t before after (and_parts (not (eqb x t)) (lacks t (before ++ t ∷ after)) h).1

  -- what the test says of a row
  rank_other : (t left k j i : ℕ) (q : Row) → rank_ok t left k j i q ≡ true → i ≢ k → (q.rank ≡ 0) × (lacks t q.right ≡ true) × (q.left ≡ left → i ≡ j)
  rank_other t left k j i q h d =
      elim (cases_Bool (eqb i k)) [
        | inl same ↦ absurd (d (eqb-true i k same))
        | inr other ↦ (
            let a = and_parts (eqb q.rank 0) _ (rw (other, rank_ok) at h) in
            let b = and_parts (lacks t q.right) _ a.1 in
            (eqb-true q.rank 0 a.0, b.0, λ l. eqb-true i j (rw (eq-eqb q.left left l) at b.1)))
      ]

  rank_here : (t left k j : ℕ) (q : Row) → rank_ok t left k j k q ≡ true → lacks t (rest_of q.right) ≡ true
  rank_here t left k j q h = rw (eq-eqb k k refl, rank_ok) at h

  only_first : (t left k j : ℕ) → all_from (rank_ok t left k j) 0 g ≡ true → StandsOnlyFirstIn g t k
  only_first t left k j h i s before after e parts =
      elim (cases_eq i k) [
        | inl same ↦ (same, empty before (subst (λ (xs : List ℕ). lacks t (rest_of xs) ≡ true) parts (rank_here t left k j s (subst (λ (n : ℕ). rank_ok t left k j n s ≡ true) same (at_row_zero (rank_ok t left k j) g i s h e)))))
        | inr other ↦ absurd (lacks_at t before after (subst (λ (xs : List ℕ). lacks t xs ≡ true) parts (rank_other t left k j i s (at_row_zero (rank_ok t left k j) g i s h e) other).1))
      ]
    where
      empty : (xs : List ℕ) → lacks t (rest_of (xs ++ t ∷ after)) ≡ true → xs ≡ []
      empty [] l = refl
      empty (x ∷ xs) l = absurd (lacks_at t xs after l)

  pub may_rank : (t left k j : ℕ) (rest : List ℕ) (r s : Row) → all_from (rank_ok t left k j) 0 g ≡ true → IsRow g k r → IsRow g j s → j ≢ k →
      r.left ≡ left → s.left ≡ left → r.right ≡ t ∷ rest → c.count ≤ t → s.right ≡ [] → MayRank g k r
  may_rank t left k j rest r s h e f d l m begins past empty = record {
    token = t;
    rest = rest;
    begins = begins;
    terminal = word_is_token t past;
    once = only_first t left k j h;
    j = j;
    s = s;
    other = record { row = f; left = m ∙ sym l; apart = d };
    empty = empty;
    plain = (rank_other t left k j j s (at_row_zero (rank_ok t left k j) g j s h f) d).0;
    only = λ i q o. (rank_other t left k j i q (at_row_zero (rank_ok t left k j) g i q h o.row) o.apart).2 (o.left ∙ l);
  }

  pub plain_besides : (t left k j i : ℕ) (q : Row) → all_from (rank_ok t left k j) 0 g ≡ true → IsRow g i q → i ≢ k → q.rank ≡ 0
  plain_besides t left k j i q h e d = (rank_other t left k j i q (at_row_zero (rank_ok t left k j) g i q h e) d).0

  -- What derives something.

  known_list : (known : List Bool) → ((x : ℕ) → Has known x → Productive g (x ∷ [])) → (xs : List ℕ) → all_known c.count known xs ≡ true → Productive g xs
  known_list known k [] h = Productive_nil g
  known_list known k (x ∷ xs) h =
      let a = and_parts (elim (ltb x c.count) as (λ _. Bool) [ true ↦ marked known x | false ↦ true ]) (all_known c.count known xs) h in
      let first : Productive g (x ∷ []) = elim (cases_Bool (ltb x c.count)) [
        | inl form ↦ k x (rw form at a.0)
        | inr word ↦ Productive_token g x (word_is_token x (ltb-false x c.count word))
      ] in
      Productive_append g (x ∷ []) xs first (known_list known k xs a.1)

  marked_more : (known : List Bool) (i x : ℕ) → Has (mark_at known i) x → (x ≡ i) ⊎ Has known x
  marked_more [] zero zero h = inl refl
  marked_more [] zero (suc x) h = absurd (cc)
  marked_more [] (suc i) zero h = absurd (cc)
  marked_more [] (suc i) (suc x) h = elim (marked_more [] i x h) [ inl same ↦ inl (ap suc same) | inr old ↦ absurd (marked_none x old) ]
  marked_more (b ∷ known) zero zero h = inl refl
  marked_more (b ∷ known) zero (suc x) h = inr h
  marked_more (b ∷ known) (suc i) zero h = inr h
  marked_more (b ∷ known) (suc i) (suc x) h = elim (marked_more known i x h) [ inl same ↦ inl (ap suc same) | inr old ↦ inr old ]

  known_left : (known : List Bool) → ((x : ℕ) → Has known x → Productive g (x ∷ [])) → (rs : List Row) (k : ℕ) (r : Row) → lefts_known known rs ≡ true → IsRow rs k r → Productive g (r.left ∷ [])
  known_left known p [] k r h e = absurd (cc)
  known_left known p (s ∷ rs) zero r h e = let same : s ≡ r = cc in subst (λ (q : Row). Productive g (q.left ∷ [])) same (p s.left (and_parts (marked known s.left) (lefts_known known rs) h).0)
  known_left known p (s ∷ rs) (suc k) r h e = known_left known p rs k r (and_parts (marked known s.left) (lefts_known known rs) h).1 e

  pub walked : (order : List ℕ) (known : List Bool) → ((x : ℕ) → Has known x → Productive g (x ∷ [])) → walk_ok c.count g order known ≡ true → (k : ℕ) (r : Row) → IsRow g k r → Productive g (r.left ∷ [])
  walked [] known p h k r e = known_left known p g k r h e
  walked (n ∷ order) known p h k r e = by_row (slice_get g n) refl (λ more q w. walked order more q w k r e)
    where
      by_row : (o : Option Row) → slice_get g n ≡ o → ((more : List Bool) → ((x : ℕ) → Has more x → Productive g (x ∷ [])) → walk_ok c.count g order more ≡ true → Productive g (r.left ∷ [])) → Productive g (r.left ∷ [])
      by_row None is again = absurd (false≢true (rw (is, walk_ok) at h))
      by_row (Some s) is again =
          let a = and_parts (all_known c.count known s.right) (walk_ok c.count g order (mark_at known s.left)) (rw (is, walk_ok) at h) in
          again (mark_at known s.left) (λ x m. elim (marked_more known s.left x m) [
            | inl same ↦ subst (λ (z : ℕ). Productive g (z ∷ [])) (sym same) (Productive_row g n s is (known_list known p s.right a.0))
            | inr old ↦ p x old
          ]) a.1
