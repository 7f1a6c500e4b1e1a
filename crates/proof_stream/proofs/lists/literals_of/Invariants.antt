use Rattle.std.proofs.Common.{◌≡◌, [], drop, map}
use Rattle.proof_stream.specs.Reading.{literals_onto}
use Rattle.proof_stream.proofs.lists.literals_of.Given as goal

abbrev pub invariant-loop-i : goal.invariant-loop-i
invariant-loop-i l = literals_onto l.lits.items (map (λ word. word.now) (drop l.i l.words)) ≡ literals_onto [] (map (λ word. word.now) l.words)
