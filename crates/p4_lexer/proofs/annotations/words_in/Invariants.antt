use Rattle.std.proofs.Common.{◌≡◌, take}
use Rattle.p4_lexer.specs.Entries.{words_in}
use Rattle.p4_lexer.proofs.annotations.words_in.Given as goal

abbrev pub invariant-loop-item : goal.invariant-loop-item
invariant-loop-item l = l.words ≡ words_in (take l.item-index l.items)
