-- The branches before the place stand behind the head, and their words are drawn.
use Rattle.std.proofs.Common.{◌≡◌, ◌++◌, string_bytes}
use Rattle.load_maker.specs.Source.{head, branches, words_before}
use Rattle.load_maker.specs.Words.{after_words, generator_of}
use Rattle.load_maker.proofs.source.make_source.Given as goal

abbrev pub invariant-loop-place : goal.invariant-loop-place
invariant-loop-place l = record {
  text : string_bytes l.text ≡ head ++ branches l.number l.place;
  words : l.words ≡ after_words (words_before l.place) (generator_of l.number);
}
