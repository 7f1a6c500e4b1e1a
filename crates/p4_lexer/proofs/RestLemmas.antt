-- The blanks before the `#` of a line, and the rest of a line.
use Rattle.std.proofs.Common.{◌≡◌, ℕ, ◌+◌, ◌<◌, ◌≤◌, zero, suc, true, false, not, ◌==◌, List, [], ◌∷◌, ◌++◌, length, take, drop, Contains, IsTrue, take-append-drop, append_assoc, sym, refl, ap, ◌∙◌, arith, subst, ◌⊎◌, inl, inr}
use Rattle.std.specs.List.{prefix_len, list_all}
use Rattle.std.proofs.lemmas.Bool.{and_parts, and_from, eqb-true, cases_Bool}
use Rattle.std.proofs.Math.ListN.{drop_of_length-le}
use Rattle.std.proofs.lemmas.List.{length-take-le, length-append, append-nil}
use Rattle.std.proofs.Math.Seq.{drop-append_seam}
use Rattle.p4_lexer.specs.declared.classes.Class.TheVariants.{InLine, InLead}
use Rattle.p4_lexer.specs.Bytes.{hash, line_feed}
use Rattle.p4_lexer.specs.Lengths.{has, begins_with}
use Rattle.p4_lexer.specs.Parts.{BeginsWithHash, IsRestOfLine}
use Rattle.p4_lexer.proofs.RunLemmas.{run_exact, run_passes, run_longest}

abbrev run : List ℕ → ℕ
run text = prefix_len (has InLead) text

head_rest : (text : List ℕ) → begins_with hash text ≡ true → (rest : List ℕ) × (text ≡ hash ∷ rest)
head_rest [] e = absurd cc
head_rest (c ∷ text) e = (text, ap (λ d. d ∷ text) (eqb-true c hash e))

pub hash_found : (text : List ℕ) (len : ℕ) → len ≡ run text → len ≤ length text → begins_with hash (drop len text) ≡ true → (begins : BeginsWithHash text) × (length begins.lead ≡ len)
hash_found text len e within found =
    let behind = head_rest (drop len text) found in (
      record {
        lead = take len text;
        rest = behind.0;
        spelled = sym (take-append-drop len text) ∙ ap (λ xs. take len text ++ xs) behind.1;
        blank = subst (λ n. IsTrue (list_all (has InLead) (take n text))) (sym e) (run_passes (has InLead) text);
      },
      length-take-le len text within,
    )

pub lead_is_run : (text : List ℕ) (begins : BeginsWithHash text) → length begins.lead ≡ run text
lead_is_run text begins = sym (ap run begins.spelled ∙ run_exact (has InLead) begins.lead hash begins.rest begins.blank refl)

pub hash_missing : (text : List ℕ) (len : ℕ) → len ≡ run text → begins_with hash (drop len text) ≡ false → BeginsWithHash text → ⊥
hash_missing text len e missing begins =
    let behind : drop len text ≡ hash ∷ begins.rest = ap (λ n. drop n text) (e ∙ sym (lead_is_run text begins)) ∙ ap (drop (length begins.lead)) begins.spelled ∙ drop-append_seam begins.lead (hash ∷ begins.rest) in
    let found : true ≡ false = sym (ap (begins_with hash) behind) ∙ missing in cc

abbrev line_run : List ℕ → ℕ
line_run text = prefix_len (has InLine) text

-- no line feed is among bytes that pass for a line's, and none else are without one
no_feed : (xs : List ℕ) → IsTrue (list_all (has InLine) xs) → ¬ Contains xs line_feed
no_feed [] all (k, below, at) = absurd (omega (arith, below))
no_feed (c ∷ xs) all (zero, below, at) =
    let first : not (line_feed == line_feed) ≡ true = subst (λ d. not (d == line_feed) ≡ true) at (and_parts (not (c == line_feed)) (list_all (has InLine) xs) all).0 in cc
no_feed (c ∷ xs) all (suc k, below, at) = no_feed xs (and_parts (not (c == line_feed)) (list_all (has InLine) xs) all).1 (k, omega (arith, below), at)

all_in_line : (xs : List ℕ) → ¬ Contains xs line_feed → IsTrue (list_all (has InLine) xs)
all_in_line [] none = refl
all_in_line (c ∷ xs) none = elim (cases_Bool (c == line_feed)) [
  | inl is_feed ↦ absurd (none (0, omega arith, eqb-true c line_feed is_feed))
  | inr is_other ↦ and_from (not (c == line_feed)) (list_all (has InLine) xs) (rw is_other refl) (all_in_line xs (λ found. none (suc found.0, omega (arith, found.1), found.2)))
]

feed_at : (text : List ℕ) → line_run text < length text → take (line_run text + 1) text ≡ take (line_run text) text ++ line_feed ∷ []
feed_at [] below = absurd (omega (arith, below))
feed_at (c ∷ text) below = elim (cases_Bool (c == line_feed)) [
  | inl is_feed ↦ rw is_feed (ap (λ d. d ∷ []) (eqb-true c line_feed is_feed))
  | inr is_other ↦
      let one : 1 + line_run text ≡ suc (line_run text) = omega arith in
      let two : suc (line_run text) + 1 ≡ suc (line_run text + 1) = omega arith in
      let short : suc (1 + line_run text) ≤ suc (length text) = rw is_other at below in
      rw (is_other, one, two) (ap (λ xs. c ∷ xs) (feed_at text (omega (arith, short))))
]

-- a line that has its line feed
pub rest_ended : (text : List ℕ) (len : ℕ) → len ≡ line_run text → len < length text → IsRestOfLine (take (len + 1) text) (drop (len + 1) text)
rest_ended text len e below = inl (
  take len text,
  subst (λ n. n < length text → take (n + 1) text ≡ take n text ++ line_feed ∷ []) (sym e) (feed_at text) below,
  subst (λ n. ¬ Contains (take n text) line_feed) (sym e) (no_feed (take (line_run text) text) (run_passes (has InLine) text)),
)

-- the last line, which has none
pub rest_whole : (text : List ℕ) (len : ℕ) → len ≡ line_run text → 0 < length text → len ≤ length text → length text ≤ len → IsRestOfLine (take len text) (drop len text)
rest_whole text len e some within past = inr (
  (λ none. absurd (omega (arith, some, past, length-take-le len text within, ap length none))),
  drop_of_length-le text past,
  subst (λ n. ¬ Contains (take n text) line_feed) (sym e) (no_feed (take (line_run text) text) (run_passes (has InLine) text)),
)

-- what the rest of the line may be, by the run
abbrev Runs : ℕ → List ℕ → List ℕ → Type 0
Runs len text bytes = ((len < length text) × (length bytes ≡ len + 1)) ⊎ ((length text ≤ len) × (length bytes ≡ len))

rest_runs : (text bytes left : List ℕ) (len : ℕ) → len ≡ line_run text → len ≤ length text → text ≡ bytes ++ left → IsRestOfLine bytes left → Runs len text bytes
rest_runs text bytes left len e within spelled (inl (inside, same, none)) =
    let all : text ≡ inside ++ line_feed ∷ left = spelled ∙ ap (λ xs. xs ++ left) same ∙ append_assoc inside (line_feed ∷ []) left in
    let run_is : len ≡ length inside = e ∙ ap line_run all ∙ run_exact (has InLine) inside line_feed left (all_in_line inside none) refl in
    let long : length text ≡ length inside + suc (length left) = ap length all ∙ length-append inside (line_feed ∷ left) in
    let short : length bytes ≡ length inside + 1 = ap length same ∙ length-append inside (line_feed ∷ []) in
    inl (omega (arith, run_is, long), omega (arith, run_is, short))
rest_runs text bytes left len e within spelled (inr (some, ended, none)) =
    let all : text ≡ bytes = spelled ∙ ap (λ xs. bytes ++ xs) ended ∙ append-nil bytes in
    let longest : length bytes ≤ line_run (bytes ++ []) = run_longest (has InLine) bytes [] (all_in_line bytes none) in
    let long : length bytes ≤ len = subst (λ n. length bytes ≤ n) (ap line_run (append-nil bytes ∙ sym all) ∙ sym e) longest in
    let same : length text ≡ length bytes = ap length all in
    inr (omega (arith, same, long), omega (arith, same, long, within))

pub rest_is_ended : (text : List ℕ) (len : ℕ) → len ≡ line_run text → len < length text → (bytes left : List ℕ) → text ≡ bytes ++ left → IsRestOfLine bytes left → length bytes ≡ len + 1
rest_is_ended text len e below bytes left spelled rest = elim (rest_runs text bytes left len e (omega arith) spelled rest) [ inl ended ↦ ended.1 | inr whole ↦ absurd (omega (arith, below, whole.0)) ]

pub rest_is_whole : (text : List ℕ) (len : ℕ) → len ≡ line_run text → len ≤ length text → length text ≤ len → (bytes left : List ℕ) → text ≡ bytes ++ left → IsRestOfLine bytes left → length bytes ≡ len
rest_is_whole text len e within past bytes left spelled rest = elim (rest_runs text bytes left len e within spelled rest) [ inl ended ↦ absurd (omega (arith, past, ended.0)) | inr whole ↦ whole.1 ]
