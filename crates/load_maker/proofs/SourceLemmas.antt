-- The branch of a place, and the words before it.
use Rattle.std.proofs.Common.{◌≡◌, ℕ, ◌+◌, ◌/◌, ◌%◌, ◌<◌, ◌⊎◌, ◌++◌, inl, inr, refl, ap, sym, ◌∙◌, append-nil, add-one, arith}
use Rattle.rand_pcg.specs.Lcg.{Lcg}
use Rattle.load_maker.specs.Source.{head, branch, branch_at, branches, draws_of, words_before, unset_field_branch}
use Rattle.load_maker.specs.Words.{after_words, word_at, generator_of}
use Rattle.load_maker.proofs.WordsLemmas.{word_at_after_words}

-- of a place that none of the first three kinds has
pub branch_unset_field : (base place : ℕ) (words : ℕ → ℕ) → place % 4 ≡ 3 → branch base words place ≡ unset_field_branch (words 0 % 256) (words 1 % 256)
branch_unset_field base place words e = rw e refl

-- the branch depends on two words alone
pub branch_same : (base place : ℕ) (u v : ℕ → ℕ) → u 0 ≡ v 0 → u 1 ≡ v 1 → branch base u place ≡ branch base v place
branch_same base place u v first second = rw (first, second) refl

remainder_cases : (r : ℕ) → r < 4 → (r ≡ 0) ⊎ ((r ≡ 1) ⊎ ((r ≡ 2) ⊎ (r ≡ 3)))
remainder_cases r h = grind arith

-- what a branch draws stands between what was drawn before it and before the next
pub words_before_next : (place : ℕ) → words_before place + draws_of place ≡ words_before (place + 1)
words_before_next place =
    let below : place % 4 < 4 = omega arith in
    elim (remainder_cases (place % 4) below) [
      | inl zero ↦
          let r : (place + 1) % 4 ≡ 1 = omega arith in
          let q : (place + 1) / 4 ≡ place / 4 = omega arith in
          rw (zero, r, q) (omega arith)
      | inr (inl one) ↦
          let r : (place + 1) % 4 ≡ 2 = omega arith in
          let q : (place + 1) / 4 ≡ place / 4 = omega arith in
          rw (one, r, q) (omega arith)
      | inr (inr (inl two)) ↦
          let r : (place + 1) % 4 ≡ 3 = omega arith in
          let q : (place + 1) / 4 ≡ place / 4 = omega arith in
          rw (two, r, q) (omega arith)
      | inr (inr (inr three)) ↦
          let r : (place + 1) % 4 ≡ 0 = omega arith in
          let q : (place + 1) / 4 ≡ place / 4 + 1 = omega arith in
          rw (three, r, q) (omega arith)
    ]

-- no branches, and one more
pub head_none : (number : ℕ) → head ≡ head ++ branches number 0
unfolding branches
head_none number = sym (append-nil head)

pub branches_next : (number place : ℕ) → branches number (place + 1) ≡ branches number place ++ branch_at number place
unfolding branches
branches_next number place = ap (branches number) (add-one place)

-- the next branch, drawn by a generator that has given the words before it
pub branch_at_drawn : (number base place : ℕ) (g : Lcg) → base ≡ word_at (generator_of number) 0 % 510
    → g ≡ after_words (words_before place) (generator_of number) → branch base (word_at g) place ≡ branch_at number place
branch_at_drawn number base place g drawn at =
    let start = generator_of number in
    ap (λ b. branch b (word_at g) place) drawn
    ∙ branch_same (word_at start 0 % 510) place (word_at g) (λ k. word_at start (words_before place + k))
    (ap (λ (h : Lcg). word_at h 0) at ∙ word_at_after_words (words_before place) 0 start)
    (ap (λ (h : Lcg). word_at h 1) at ∙ word_at_after_words (words_before place) 1 start)
