use Rattle.std.proofs.Common.{sym, ◌∙◌}
use Rattle.p4_lexer.specs.Lengths.{has}
use Rattle.p4_lexer.proofs.RunLemmas.{run_stops, run_whole}
use Rattle.p4_lexer.proofs.classes.run_len.Goals as goal

pub returns-then-not-has-clause-value : goal.returns-then-not-has-clause-value
returns-then-not-has-clause-value c = run_stops (has c.args.class) c.args.text.now c.loop-i.i c.loop-i-test.true c.loop-i.invariant (sym c.has.ensures ∙ c.if-not-has.true)

pub returns-clause-value : goal.returns-clause-value
returns-clause-value c = run_whole (has c.args.class) c.args.text.now c.loop-i.i c.loop-i-test.false c.loop-i.invariant
