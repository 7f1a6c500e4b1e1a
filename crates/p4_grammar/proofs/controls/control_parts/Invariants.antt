-- The parts so far and those ahead are all.
use Rattle.std.proofs.Common.{◌≡◌}
use Rattle.p4_grammar.specs.declared.symbols.TheConstants.{CONTROL_PARTS}
use Rattle.p4_grammar.specs.Ahead.{Begins, below, after, nodes}
use Rattle.p4_grammar.specs.Controls.{control_parts}
use Rattle.p4_grammar.proofs.ListLemmas.{behind}
use Rattle.p4_grammar.proofs.controls.control_parts.Given as goal

abbrev pub invariant-loop-alloc : goal.invariant-loop-alloc
invariant-loop-alloc l = record {
  begins : Begins CONTROL_PARTS l.cursor;
  list : behind l.all.items (control_parts (below l.cursor)) ≡ control_parts (below l.fn.cursor);
  rest : after l.cursor ≡ after l.fn.cursor;
}

abbrev pub decreases-loop-alloc : goal.decreases-loop-alloc
decreases-loop-alloc l = nodes l.cursor
