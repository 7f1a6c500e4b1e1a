use Rattle.std.proofs.Common.{sym, ◌∙◌}
use Rattle.p4_lexer.specs.Digits.{is_digit_of}
use Rattle.p4_lexer.proofs.RunLemmas.{run_stops, run_whole}
use Rattle.p4_lexer.proofs.classes.decimal_run.Goals as goal

pub returns-then-not-is_digit_of-clause-value : goal.returns-then-not-is_digit_of-clause-value
returns-then-not-is_digit_of-clause-value c = run_stops (is_digit_of 10) c.args.text.now c.loop-i.i c.loop-i-test.true c.loop-i.invariant (sym c.is_digit_of.ensures ∙ c.if-not-is_digit_of.true)

pub returns-clause-value : goal.returns-clause-value
returns-clause-value c = run_whole (is_digit_of 10) c.args.text.now c.loop-i.i c.loop-i-test.false c.loop-i.invariant
