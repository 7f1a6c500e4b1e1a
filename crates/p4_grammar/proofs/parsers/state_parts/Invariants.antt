-- The parts so far and those ahead are all.
use Rattle.std.proofs.Common.{◌≡◌}
use Rattle.p4_grammar.specs.declared.symbols.TheConstants.{STATE_PARTS}
use Rattle.p4_grammar.specs.Ahead.{Begins, below, after, nodes}
use Rattle.p4_grammar.specs.Statements.{block_parts}
use Rattle.p4_grammar.proofs.ListLemmas.{behind}
use Rattle.p4_grammar.proofs.parsers.state_parts.Given as goal

abbrev pub invariant-loop-alloc : goal.invariant-loop-alloc
invariant-loop-alloc l = record {
  begins : Begins STATE_PARTS l.cursor;
  list : behind l.all.items (block_parts (below l.cursor)) ≡ block_parts (below l.fn.cursor);
  rest : after l.cursor ≡ after l.fn.cursor;
}

abbrev pub decreases-loop-alloc : goal.decreases-loop-alloc
decreases-loop-alloc l = nodes l.cursor
