-- Where a comment closes: at the first `*/`.
use Rattle.std.proofs.Common.{◌≡◌, ℕ, ◌+◌, ◌<◌, ◌≤◌, zero, suc, Bool, true, false, List, [], ◌∷◌, ◌++◌, length, take, drop, sym, refl, ap, ◌∙◌, arith, subst, append_assoc, take-append-drop, ◌==◌, if◌then◌else◌, Option, None, Some, ◌⊎◌, inl, inr}
use Rattle.std.specs.Option.{option_map}
use Rattle.std.proofs.lemmas.List.{take-append-le}
use Rattle.std.proofs.lemmas.Bool.{and_parts, eqb-true, cases_Bool, cases_lt, both_ways}
use Rattle.p4_lexer.specs.Bytes.{star, slash}
use Rattle.p4_lexer.specs.Words.{HasClose}
use Rattle.p4_lexer.specs.Lengths.{begins_close, close_at}

-- the first `*/` of a text with one more byte in front
none_behind : (b : Bool) (o : Option ℕ) → (if b then Some 0 else option_map (λ n. n + 1) o) ≡ None → o ≡ None
none_behind true o e = absurd cc
none_behind false None e = refl
none_behind false (Some n) e = absurd cc

some_behind : (o : Option ℕ) (n : ℕ) → option_map (λ m. m + 1) o ≡ Some n → (m : ℕ) × (o ≡ Some m) × (n ≡ m + 1)
some_behind None n e = absurd cc
some_behind (Some m) n e = (m, refl, cc)

close_there : (before after : List ℕ) → close_at (before ++ star ∷ slash ∷ after) ≡ None → ⊥
close_there [] after e = cc
close_there (c ∷ before) after e = close_there before after (none_behind (begins_close (c ∷ before ++ star ∷ slash ∷ after)) (close_at (before ++ star ∷ slash ∷ after)) e)

-- where none is found there is none
pub close_none : (text : List ℕ) → close_at text ≡ None → HasClose text → ⊥
close_none text e h = close_there h.before h.after (subst (λ xs. close_at xs ≡ None) h.spelled e)

pub more_close : (c : ℕ) (w : List ℕ) → HasClose w → HasClose (c ∷ w)
more_close c w h = record { before = c ∷ h.before; after = h.after; spelled = ap (λ xs. c ∷ xs) h.spelled }

close_first : (w : List ℕ) → begins_close w ≡ true → HasClose w
close_first [] e = absurd cc
close_first (c ∷ []) e = absurd (both_ways false refl (and_parts (c == star) false e).1)
close_first (c ∷ d ∷ w) e =
    let both = and_parts (c == star) (d == slash) e in
    record { before = []; after = w; spelled = rw (eqb-true c star both.0, eqb-true d slash both.1) refl }

-- a `*/` that begins a text and not its front
seam : (w rest : List ℕ) → (HasClose w → ⊥) → begins_close (w ++ star ∷ rest) ≡ true → w ≡ []
seam [] rest open_ e = refl
seam (c ∷ []) rest open_ e = absurd (both_ways false refl (and_parts (c == star) false e).1)
seam (c ∷ d ∷ w) rest open_ e = absurd (open_ (close_first (c ∷ d ∷ w) e))

pub close_exact : (inside rest : List ℕ) → (HasClose inside → ⊥) → close_at (inside ++ star ∷ slash ∷ rest) ≡ Some (length inside)
close_exact [] rest open_ = refl
close_exact (c ∷ inside) rest open_ =
    let behind : close_at (inside ++ star ∷ slash ∷ rest) ≡ Some (length inside) = close_exact inside rest (λ h. open_ (more_close c inside h)) in
    elim (cases_Bool (begins_close (c ∷ inside ++ star ∷ slash ∷ rest))) [
      | inl holds ↦ absurd (let h : c ∷ inside ≡ [] = seam (c ∷ inside) (slash ∷ rest) open_ holds in cc)
      | inr fails ↦ rw (fails, behind) (ap Some (omega arith))
    ]

-- the place of the first `*/`
pub record ClosesAt (text : List ℕ) (n : ℕ) : Type 0 where
  pub within : n + 2 ≤ length text
  pub spelled : take (n + 2) text ≡ take n text ++ star ∷ slash ∷ []
  pub next : HasClose (take n text) → ⊥

no_close : HasClose [] → ⊥
no_close h = empty h.before h.spelled where
  empty : (before : List ℕ) → [] ≡ before ++ star ∷ slash ∷ h.after → ⊥
  empty [] e = cc
  empty (c ∷ before) e = cc

closes_first : (text : List ℕ) → begins_close text ≡ true → ClosesAt text 0
closes_first [] e = absurd cc
closes_first (c ∷ []) e = absurd (both_ways false refl (and_parts (c == star) false e).1)
closes_first (c ∷ d ∷ text) e =
    let both = and_parts (c == star) (d == slash) e in
    record { within = omega arith; spelled = rw (eqb-true c star both.0, eqb-true d slash both.1) refl; next = no_close }

front_close : (c : ℕ) (w : List ℕ) → HasClose (c ∷ w) → (begins_close (c ∷ w) ≡ true) ⊎ HasClose w
front_close c w h = split h.before h.spelled where
  split : (before : List ℕ) → c ∷ w ≡ before ++ star ∷ slash ∷ h.after → (begins_close (c ∷ w) ≡ true) ⊎ HasClose w
  split [] e = inl (subst (λ xs. begins_close xs ≡ true) (sym e) refl)
  split (d ∷ before) e = inr (record { before = before; after = h.after; spelled = cc })

begins_longer : (c : ℕ) (text : List ℕ) (n : ℕ) → begins_close (c ∷ take n text) ≡ true → begins_close (c ∷ text) ≡ true
begins_longer c [] zero e = e
begins_longer c [] (suc n) e = e
begins_longer c (d ∷ text) zero e = absurd (both_ways false refl (and_parts (c == star) false e).1)
begins_longer c (d ∷ text) (suc n) e = e

closes_behind : (c : ℕ) (text : List ℕ) (m : ℕ) → begins_close (c ∷ text) ≡ false → ClosesAt text m → ClosesAt (c ∷ text) (m + 1)
closes_behind c text m first at =
    let one : m + 1 ≡ suc m = omega arith in
    let three : m + 1 + 2 ≡ suc (m + 2) = omega arith in
    record {
      within = omega (arith, at.within);
      spelled = rw (three, one) (ap (λ xs. c ∷ xs) at.spelled);
      next = rw one (λ h. elim (front_close c (take m text) h) [
        | inl here ↦ both_ways (begins_close (c ∷ text)) first (begins_longer c text m here)
        | inr there ↦ at.next there
      ]);
    }

pub close_spelled : (text : List ℕ) (n : ℕ) → close_at text ≡ Some n → ClosesAt text n
close_spelled [] n e = absurd cc
close_spelled (c ∷ text) n e = elim (cases_Bool (begins_close (c ∷ text))) [
  | inl holds ↦ let zero_is : 0 ≡ n = (let h : Some 0 ≡ Some n = rw holds at e in cc) in subst (λ k. ClosesAt (c ∷ text) k) zero_is (closes_first (c ∷ text) holds)
  | inr fails ↦
      let p = some_behind (close_at text) n (rw fails at e) in
      subst (λ k. ClosesAt (c ∷ text) k) (sym p.2) (closes_behind c text p.0 fails (close_spelled text p.0 p.1))
]

-- a comment that is not ended goes no further than one that is
pub close_longest : (inside rest : List ℕ) (n : ℕ) → (HasClose inside → ⊥) → close_at (inside ++ rest) ≡ Some n → length inside < n + 2
close_longest inside rest n open_ e = elim (cases_lt (length inside) (n + 2)) [
  | inl below ↦ below
  | inr past ↦
      let at = close_spelled (inside ++ rest) n e in
      let front : take (n + 2) inside ≡ take n (inside ++ rest) ++ star ∷ slash ∷ [] = sym (take-append-le (n + 2) inside rest past) ∙ at.spelled in
      absurd (open_ (record {
        before = take n (inside ++ rest);
        after = drop (n + 2) inside;
        spelled = sym (take-append-drop (n + 2) inside) ∙ ap (λ xs. xs ++ drop (n + 2) inside) front ∙ append_assoc (take n (inside ++ rest)) (star ∷ slash ∷ []) (drop (n + 2) inside);
      }))
]
