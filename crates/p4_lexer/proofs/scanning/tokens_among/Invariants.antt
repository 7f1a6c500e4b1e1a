use Rattle.std.proofs.Common.{◌≡◌, take}
use Rattle.p4_lexer.specs.Scanning.{tokens_in}
use Rattle.p4_lexer.proofs.scanning.tokens_among.Given as goal

abbrev pub invariant-loop-entry : goal.invariant-loop-entry
invariant-loop-entry l = l.bare ≡ tokens_in (take l.entry-index l.entries)
