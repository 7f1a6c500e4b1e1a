use Rattle.std.proofs.Common.{◌≡◌, ℕ, ◌<◌, true, get_or}
use Rattle.p4_lexer.specs.Digits.{is_digit_of}
use Rattle.p4_lexer.proofs.classes.decimal_run.Given as goal

abbrev pub invariant-loop-i : goal.invariant-loop-i
invariant-loop-i l = (k : ℕ) → k < l.i → is_digit_of 10 (get_or l.text k 0) ≡ true
