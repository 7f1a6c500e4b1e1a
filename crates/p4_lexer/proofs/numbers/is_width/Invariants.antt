use Rattle.std.proofs.Common.{◌≡◌, ◌≤◌, drop}
use Rattle.p4_lexer.specs.Digits.{value_of, value_from}
use Rattle.p4_lexer.proofs.numbers.is_width.Given as goal

abbrev pub invariant-loop-c : goal.invariant-loop-c
invariant-loop-c l = (l.value ≤ 128) × (value_of 10 l.digits ≡ value_from 10 l.value (drop l.c-index l.digits))
