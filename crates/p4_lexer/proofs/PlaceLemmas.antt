-- The place behind one more byte.
use Rattle.std.proofs.Common.{◌≡◌, ℕ, ◌+◌, ◌<◌, Bool, true, false, not, List, [], ◌∷◌, ◌++◌, length, take, get_or, append_assoc, sym, refl, ap, ◌∙◌, arith, ◌==◌, if◌then◌else◌, count_by, add-one}
use Rattle.std.specs.List.{prefix_len, suffix_len}
use Rattle.std.proofs.Math.Seq.{take-suc}
use Rattle.std.proofs.lemmas.List.{reverse-append}
use Rattle.std.proofs.lemmas.List.Sums.{sum_by-append}
use Rattle.tg_base.specs.declared.place.Span.{Span}
use Rattle.p4_lexer.specs.Bytes.{line_feed}
use Rattle.p4_lexer.specs.Places.{place_after, next_place}

suffix_push : (p : ℕ → Bool) (xs : List ℕ) (c : ℕ) → suffix_len p (xs ++ c ∷ []) ≡ (if p c then 1 + suffix_len p xs else 0)
suffix_push p xs c = ap (prefix_len p) (reverse-append xs (c ∷ []))

count_push : (p : ℕ → Bool) (xs : List ℕ) (c : ℕ) → count_by p (xs ++ c ∷ []) ≡ count_by p xs + (if p c then 1 else 0)
count_push p xs c =
    let last : 0 + (if p c then 1 else 0) ≡ (if p c then 1 else 0) = omega arith in
    sum_by-append (λ x. if p x then 1 else 0) xs (c ∷ []) ∙ ap (λ n. count_by p xs + n) last

abbrev span : ℕ → ℕ → Span
span line column = record { line = line; column = column }

span_is : (line column l k : ℕ) → line ≡ l → column ≡ k → span line column ≡ span l k
span_is line column l k e f = ap (λ n. span n column) e ∙ ap (λ n. span l n) f

place_by : (b : Bool) (count run more longer : ℕ) → more ≡ count + (if b then 1 else 0) → longer ≡ (if not b then 1 + run else 0)
    → span (1 + more) (1 + longer) ≡ (if b then span (1 + count + 1) 1 else span (1 + count) (1 + run + 1))
place_by true count run more longer e f = span_is (1 + more) (1 + longer) (1 + count + 1) 1 (omega arith) (omega arith)
place_by false count run more longer e f = span_is (1 + more) (1 + longer) (1 + count) (1 + run + 1) (omega arith) (omega arith)

pub place_push : (before : List ℕ) (c : ℕ) → place_after (before ++ c ∷ []) ≡ next_place (place_after before) c
place_push before c =
    place_by (c == line_feed) (count_by (λ b. b == line_feed) before) (suffix_len (λ b. not (b == line_feed)) before) (count_by (λ b. b == line_feed) (before ++ c ∷ [])) (suffix_len (λ b. not (b == line_feed)) (before ++ c ∷ []))
    (count_push (λ b. b == line_feed) before c) (suffix_push (λ b. not (b == line_feed)) before c)

-- the place behind the first bytes and one more
pub place_more : (before bytes : List ℕ) (i : ℕ) (behind next : Span) → i < length bytes → behind ≡ place_after (before ++ take i bytes) → next ≡ next_place behind (get_or bytes i 0) → next ≡ place_after (before ++ take (i + 1) bytes)
place_more before bytes i behind next below e f =
    let more : take (i + 1) bytes ≡ take i bytes ++ get_or bytes i 0 ∷ [] = rw (add-one, take-suc bytes i 0) refl in
    let whole : before ++ take (i + 1) bytes ≡ (before ++ take i bytes) ++ get_or bytes i 0 ∷ [] = ap (λ xs. before ++ xs) more ∙ sym (append_assoc before (take i bytes) (get_or bytes i 0 ∷ [])) in
    f ∙ ap (λ p. next_place p (get_or bytes i 0)) e ∙ sym (place_push (before ++ take i bytes) (get_or bytes i 0)) ∙ ap place_after (sym whole)
