use Rattle.std.proofs.Common.{◌≡◌, ◌++◌, take}
use Rattle.p4_lexer.specs.Entries.{names_in}
use Rattle.p4_lexer.proofs.annotations.push_names.Given as goal

abbrev pub invariant-loop-item : goal.invariant-loop-item
invariant-loop-item l = l.entries ≡ l.initial.entries ++ names_in (take l.item-index l.items)
