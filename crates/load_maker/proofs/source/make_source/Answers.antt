-- The text so far is the head with the branches so far, and the generator has given their words.
use Rattle.std.proofs.Common.{◌≡◌, ℕ, ◌%◌, ◌++◌, List, Vec, Global, ap, sym, ◌∙◌, append_assoc, arith}
use Rattle.rand_pcg.specs.Lcg.{Lcg}
use Rattle.load_maker.specs.Source.{head, tail, branch, branches, draws_of, words_before}
use Rattle.load_maker.specs.Words.{after_words, word_at, generator_of}
use Rattle.load_maker.proofs.SourceLemmas.{head_none, branches_next, branch_at_drawn, words_before_next}
use Rattle.load_maker.proofs.WordsLemmas.{after_words_add}
use Rattle.load_maker.proofs.source.make_source.Goals as goal

pub loop-place-init : goal.loop-place-init
loop-place-init c = record {
  text = c.in_ok-text.ensures.ok ∙ head_none c.args.number;
  words = c.draw-base.ensures.words ∙ ap (after_words 1) c.new-words.ensures;
}

pub loop-place-preserved : goal.loop-place-preserved
loop-place-preserved c =
    let number = c.args.number in
    let place = c.loop-place.place in
    let start : Lcg = generator_of number in
    let drawn : c.draw-base.result ≡ word_at start 0 % 510 = c.draw-base.ensures.value ∙ ap (λ (g : Lcg). word_at g 0 % 510) c.new-words.ensures in
    let added = branch c.draw-base.result (word_at c.loop-place.words) place in
    record {
      text =
          c.in_ok-push_branch.ensures.branch ∙ ap (λ (xs : List ℕ). xs ++ added) c.loop-place.invariant.text
          ∙ append_assoc head (branches number place) added
          ∙ ap (λ (xs : List ℕ). head ++ xs)
          (ap (λ (xs : List ℕ). branches number place ++ xs) (branch_at_drawn number c.draw-base.result place c.loop-place.words drawn c.loop-place.invariant.words)
          ∙ sym (branches_next number place));
      words =
          c.in_ok-push_branch.ensures.words ∙ ap (after_words (draws_of place)) c.loop-place.invariant.words
          ∙ after_words_add (words_before place) (draws_of place) start
          ∙ ap (λ (n : ℕ). after_words n start) (words_before_next place);
    }

pub returns : goal.returns
returns c =
    let whole : c.loop-place.place ≡ c.args.size = omega arith in
    ap (λ (v : Vec ℕ Global). v.items) c.into_bytes.ensures.value ∙ c.in_ok-push_str.ensures.bytes
    ∙ ap (λ (xs : List ℕ). xs ++ tail) (c.loop-place.invariant.text ∙ ap (λ (n : ℕ). head ++ branches c.args.number n) whole)
