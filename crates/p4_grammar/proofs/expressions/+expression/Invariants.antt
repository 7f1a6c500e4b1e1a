-- The measure of each is what is left of the derivation; what is read before a node is entered comes first.
use Rattle.std.proofs.Common.{◌≡◌, ◌+◌, ◌*◌, ◌<◌, ◌≤◌, Some, length}
use Rattle.p4_grammar.specs.declared.symbols.TheConstants.{EXPRESSIONS_TAIL, POSTFIX_PARTS}
use Rattle.p4_grammar.specs.Ahead.{Begins, below, after, nodes}
use Rattle.p4_grammar.specs.Expressions.{expressions, expressions_tail, level as level_of, parts}
use Rattle.p4_grammar.specs.Levels.{level_form, LevelsStand, skipped, with_levels}
use Rattle.p4_grammar.proofs.ListLemmas.{behind}
use Rattle.p4_grammar.proofs.expressions.+expression.Given as goal

abbrev pub decreases-type_form : goal.decreases-type_form
decreases-type_form l = 2 * nodes l.cursor.now

abbrev pub decreases-stack_size : goal.decreases-stack_size
decreases-stack_size l = 2 * nodes l.cursor.now

abbrev pub decreases-base_type : goal.decreases-base_type
decreases-base_type l = 2 * nodes l.cursor.now

abbrev pub decreases-width_arguments : goal.decreases-width_arguments
decreases-width_arguments l = 2 * nodes l.cursor.now

abbrev pub decreases-width_of : goal.decreases-width_of
decreases-width_of l = 2 * nodes l.cursor.now

abbrev pub decreases-type_arguments : goal.decreases-type_arguments
decreases-type_arguments l = 2 * nodes l.cursor.now

abbrev pub decreases-expression : goal.decreases-expression
decreases-expression l = 2 * nodes l.cursor.now

abbrev pub decreases-operations : goal.decreases-operations
decreases-operations l = 2 * nodes l.cursor.now

abbrev pub decreases-choice : goal.decreases-choice
decreases-choice l = 2 * nodes l.cursor.now

abbrev pub decreases-with_levels : goal.decreases-with_levels
decreases-with_levels l = 2 * nodes l.cursor.now + 1

abbrev pub decreases-level : goal.decreases-level
decreases-level l = 2 * nodes l.cursor.now

abbrev pub decreases-unary : goal.decreases-unary
decreases-unary l = 2 * nodes l.cursor.now

abbrev pub decreases-parenthesis : goal.decreases-parenthesis
decreases-parenthesis l = 2 * nodes l.cursor.now

abbrev pub decreases-atom : goal.decreases-atom
decreases-atom l = 2 * nodes l.cursor.now

abbrev pub decreases-parts : goal.decreases-parts
decreases-parts l = 2 * nodes l.cursor.now + 1

abbrev pub decreases-part : goal.decreases-part
decreases-part l = 2 * nodes l.cursor.now

abbrev pub decreases-member : goal.decreases-member
decreases-member l = 2 * nodes l.cursor.now

abbrev pub decreases-slice_end : goal.decreases-slice_end
decreases-slice_end l = 2 * nodes l.cursor.now

abbrev pub decreases-optional_expressions : goal.decreases-optional_expressions
decreases-optional_expressions l = 2 * nodes l.cursor.now

abbrev pub decreases-expressions : goal.decreases-expressions
decreases-expressions l = 2 * nodes l.cursor.now

abbrev pub invariant-with_levels-loop-next : goal.invariant-with_levels-loop-next
invariant-with_levels-loop-next l = record {
  stand : LevelsStand l.rest l.cursor;
  value : with_levels l.rest (Some l.all) l.cursor ≡ with_levels l.fn.levels (Some l.fn.first) l.fn.cursor;
  behind : skipped l.rest l.cursor ≡ skipped l.fn.levels l.fn.cursor;
  fewer : nodes l.cursor ≤ nodes l.fn.cursor;
}

abbrev pub decreases-with_levels-loop-next : goal.decreases-with_levels-loop-next
decreases-with_levels-loop-next l = length l.rest

abbrev pub invariant-level-loop-operator : goal.invariant-level-loop-operator
invariant-level-loop-operator l = record {
  begins : Begins (level_form l.here) l.cursor;
  list : behind l.all.items (level_of (below l.cursor)) ≡ level_of (below l.fn.cursor);
  rest : after l.cursor ≡ after l.fn.cursor;
  fewer : nodes l.cursor ≤ nodes l.fn.cursor;
}

abbrev pub decreases-level-loop-operator : goal.decreases-level-loop-operator
decreases-level-loop-operator l = nodes l.cursor

abbrev pub invariant-parts-loop-all : goal.invariant-parts-loop-all
invariant-parts-loop-all l = record {
  begins : Begins POSTFIX_PARTS l.cursor;
  list : behind l.all.items (parts (below l.cursor)) ≡ parts (below l.fn.cursor);
  rest : after l.cursor ≡ after l.fn.cursor;
  fewer : nodes l.cursor ≤ nodes l.fn.cursor;
}

abbrev pub decreases-parts-loop-all : goal.decreases-parts-loop-all
decreases-parts-loop-all l = nodes l.cursor

abbrev pub invariant-expressions-loop-alloc : goal.invariant-expressions-loop-alloc
invariant-expressions-loop-alloc l = record {
  begins : Begins EXPRESSIONS_TAIL l.cursor;
  list : behind l.all.items (expressions_tail (below l.cursor)) ≡ expressions (below l.fn.cursor);
  rest : after l.cursor ≡ after l.fn.cursor;
  fewer : nodes l.cursor < nodes l.fn.cursor;
}

abbrev pub decreases-expressions-loop-alloc : goal.decreases-expressions-loop-alloc
decreases-expressions-loop-alloc l = nodes l.cursor
