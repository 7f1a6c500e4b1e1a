use Rattle.std.proofs.Common.{◌≡◌, [], drop, map}
use Rattle.proof_stream.specs.Reading.{hints_onto}
use Rattle.proof_stream.proofs.lists.hints_of.Given as goal

abbrev pub invariant-loop-i : goal.invariant-loop-i
invariant-loop-i l = hints_onto l.hints.items (map (λ word. word.now) (drop l.i l.words)) ≡ hints_onto [] (map (λ word. word.now) l.words)
