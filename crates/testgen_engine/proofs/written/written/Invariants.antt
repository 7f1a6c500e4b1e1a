use Rattle.std.proofs.Common.{◌≡◌, take}
use Rattle.testgen_engine.specs.Written.{written}
use Rattle.testgen_engine.proofs.written.written.Given as goal

abbrev pub invariant-loop-token : goal.invariant-loop-token
invariant-loop-token l = l.text.items ≡ written (take l.token-index l.tokens)
