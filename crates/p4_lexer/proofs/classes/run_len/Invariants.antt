use Rattle.std.proofs.Common.{◌≡◌, ℕ, ◌<◌, true, get_or}
use Rattle.p4_lexer.specs.Lengths.{has}
use Rattle.p4_lexer.proofs.classes.run_len.Given as goal

abbrev pub invariant-loop-i : goal.invariant-loop-i
invariant-loop-i l = (k : ℕ) → k < l.i → has l.class (get_or l.text k 0) ≡ true
