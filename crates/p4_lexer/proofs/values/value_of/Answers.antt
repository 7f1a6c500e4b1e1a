use Rattle.std.proofs.Common.{◌^◌}
use Rattle.p4_lexer.specs.Digits.{value_of}
use Rattle.p4_lexer.proofs.DigitsLemmas.{large_front}
use Rattle.p4_lexer.proofs.values.value_of.Goals as goal

pub returns-in-None : goal.returns-in-None
returns-in-None c = large_front c.args.base c.args.digits.now c.loop-c.c-index (value_of c.args.base c.args.digits.now) c.loop-c.value (2 ^ 128) c.requires c.loop-c-test.true c.loop-c.invariant.1 c.in-None.ensures
