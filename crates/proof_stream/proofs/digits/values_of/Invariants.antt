use Rattle.std.proofs.Common.{◌≡◌, [], drop, map}
use Rattle.proof_stream.specs.Reading.{values_onto}
use Rattle.proof_stream.proofs.digits.values_of.Given as goal

abbrev pub invariant-loop-word : goal.invariant-loop-word
invariant-loop-word l = values_onto l.values (map (λ word. word.now) (drop l.word-index l.words)) ≡ values_onto [] (map (λ word. word.now) l.words)
