-- The symbols of the tokens so far.
use Rattle.std.proofs.Common.{◌≡◌, take}
use Rattle.p4_grammar.specs.Words.{terminals_of}
use Rattle.p4_grammar.proofs.derivation.terminals.Given as goal

abbrev pub invariant-loop-token : goal.invariant-loop-token
invariant-loop-token l = l.symbols.items ≡ terminals_of (take l.token-index l.tokens)
