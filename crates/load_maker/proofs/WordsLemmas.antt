-- Words are drawn one after the other.
use Rattle.std.proofs.Common.{◌≡◌, ℕ, ◌+◌, ap, ◌∙◌, arith}
use Prim.Native.Nat.{zero, suc}
use Rattle.rand_pcg.specs.Lcg.{Lcg}
use Rattle.rand_pcg.specs.Pcg.{pcg32}
use Rattle.load_maker.specs.Words.{after_words, word_at}

pub after_words_add : (count more : ℕ) (g : Lcg) → after_words more (after_words count g) ≡ after_words (count + more) g
unfolding after_words
after_words_add count zero g = let e : count ≡ count + 0 = omega arith in ap (λ n. after_words n g) e
after_words_add count (suc more) g =
    let e : suc (count + more) ≡ count + suc more = omega arith in
    ap (λ (h : Lcg). (pcg32 h).1) (after_words_add count more g) ∙ ap (λ n. after_words n g) e

pub word_at_after_words : (count k : ℕ) (g : Lcg) → word_at (after_words count g) k ≡ word_at g (count + k)
word_at_after_words count k g = ap (λ (h : Lcg). (pcg32 h).0) (after_words_add count k g)
