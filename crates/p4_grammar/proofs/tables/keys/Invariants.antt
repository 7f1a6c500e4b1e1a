-- The keys so far and those ahead are all.
use Rattle.std.proofs.Common.{◌≡◌}
use Rattle.p4_grammar.specs.declared.symbols.TheConstants.{KEYS}
use Rattle.p4_grammar.specs.Ahead.{Begins, below, after, nodes}
use Rattle.p4_grammar.specs.Tables.{keys}
use Rattle.p4_grammar.proofs.ListLemmas.{behind}
use Rattle.p4_grammar.proofs.tables.keys.Given as goal

abbrev pub invariant-loop-alloc : goal.invariant-loop-alloc
invariant-loop-alloc l = record {
  begins : Begins KEYS l.cursor;
  list : behind l.all.items (keys (below l.cursor)) ≡ keys (below l.fn.cursor);
  rest : after l.cursor ≡ after l.fn.cursor;
}

abbrev pub decreases-loop-alloc : goal.decreases-loop-alloc
decreases-loop-alloc l = nodes l.cursor
