use Rattle.std.proofs.Common.{drop, ◌+◌}
use Rattle.p4_lexer.specs.Digits.{value_of}
use Rattle.p4_lexer.proofs.DigitsLemmas.{wide_front, next_value}
use Rattle.p4_lexer.proofs.numbers.is_width.Goals as goal

pub returns-then-value-gt-WIDEST : goal.returns-then-value-gt-WIDEST
returns-then-value-gt-WIDEST c =
    wide_front (drop (c.loop-c.c-index + 1) c.args.digits.now) (value_of 10 c.args.digits.now) c.with_digit-value.result
    (next_value 10 c.args.digits.now c.loop-c.c-index (value_of 10 c.args.digits.now) c.loop-c.value c.with_digit-value.result c.loop-c-test.true c.loop-c.invariant.1 c.with_digit-value.ensures)
    c.if-value-gt-WIDEST.true
