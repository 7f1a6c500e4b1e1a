use Rattle.std.proofs.Common.{◌≡◌, ℕ, ◌<◌, false, drop}
use Rattle.p4_lexer.specs.Lengths.{begins_close}
use Rattle.p4_lexer.proofs.texts.close_at.Given as goal

abbrev pub invariant-loop-at : goal.invariant-loop-at
invariant-loop-at l = (k : ℕ) → k < l.at → begins_close (drop k l.text) ≡ false
