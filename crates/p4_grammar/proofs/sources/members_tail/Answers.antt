-- Behind a comma a member may stand; behind the last one there are no more.
use Rattle.std.proofs.Common.{arith}
use Rattle.p4_grammar.specs.declared.symbols.TheConstants.{MEMBERS_MORE}
use Rattle.p4_grammar.proofs.ListLemmas.{gathered}
use Rattle.p4_grammar.proofs.DeclarationRows.{members_tail_row, members_more_row}
use Rattle.p4_grammar.proofs.sources.members_tail.Goals as goal

pub enter-requires-in-loop-alloc : goal.enter-requires-in-loop-alloc
enter-requires-in-loop-alloc c = (MEMBERS_MORE, grind (arith, members_tail_row))

pub returns-then-is_none-clause-value : goal.returns-then-is_none-clause-value
returns-then-is_none-clause-value c = grind (arith, members_tail_row, members_more_row, gathered)

pub returns-clause-value : goal.returns-clause-value
returns-clause-value c = grind (arith, members_tail_row, gathered)
