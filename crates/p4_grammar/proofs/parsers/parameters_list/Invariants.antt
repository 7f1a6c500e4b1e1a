-- The parameters so far and those ahead are all.
use Rattle.std.proofs.Common.{◌≡◌}
use Rattle.p4_grammar.specs.declared.symbols.TheConstants.{PARAMETERS_TAIL}
use Rattle.p4_grammar.specs.Ahead.{Begins, below, after, nodes}
use Rattle.p4_grammar.specs.Parsers.{parameters_tail, parameters_list}
use Rattle.p4_grammar.proofs.ListLemmas.{behind}
use Rattle.p4_grammar.proofs.parsers.parameters_list.Given as goal

abbrev pub invariant-loop-alloc : goal.invariant-loop-alloc
invariant-loop-alloc l = record {
  begins : Begins PARAMETERS_TAIL l.cursor;
  list : behind l.all.items (parameters_tail (below l.cursor)) ≡ parameters_list (below l.fn.cursor);
  rest : after l.cursor ≡ after l.fn.cursor;
}

abbrev pub decreases-loop-alloc : goal.decreases-loop-alloc
decreases-loop-alloc l = nodes l.cursor
