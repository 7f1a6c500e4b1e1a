use Rattle.std.proofs.Common.{◌≡◌, ◌<◌, ◌^◌, drop}
use Rattle.p4_lexer.specs.Digits.{value_of, value_from}
use Rattle.p4_lexer.proofs.values.value_of.Given as goal

abbrev pub invariant-loop-c : goal.invariant-loop-c
invariant-loop-c l = (l.value < 2 ^ 128) × (value_of l.base l.digits ≡ value_from l.base l.value (drop l.c-index l.digits))
