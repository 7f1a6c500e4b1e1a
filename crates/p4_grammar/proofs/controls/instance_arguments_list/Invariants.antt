-- The arguments so far and those ahead are all.
use Rattle.std.proofs.Common.{◌≡◌}
use Rattle.p4_grammar.specs.declared.symbols.TheConstants.{INSTANCE_ARGUMENTS_TAIL}
use Rattle.p4_grammar.specs.Ahead.{Begins, below, after, nodes}
use Rattle.p4_grammar.specs.Controls.{instance_arguments_tail, instance_arguments_list}
use Rattle.p4_grammar.proofs.ListLemmas.{behind}
use Rattle.p4_grammar.proofs.controls.instance_arguments_list.Given as goal

abbrev pub invariant-loop-alloc : goal.invariant-loop-alloc
invariant-loop-alloc l = record {
  begins : Begins INSTANCE_ARGUMENTS_TAIL l.cursor;
  list : behind l.all.items (instance_arguments_tail (below l.cursor)) ≡ instance_arguments_list (below l.fn.cursor);
  rest : after l.cursor ≡ after l.fn.cursor;
}

abbrev pub decreases-loop-alloc : goal.decreases-loop-alloc
decreases-loop-alloc l = nodes l.cursor
