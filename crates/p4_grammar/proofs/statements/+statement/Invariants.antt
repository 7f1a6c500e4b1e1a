-- The parts and the cases so far and those ahead are all; each call goes into a node.
use Rattle.std.proofs.Common.{◌≡◌, ◌≤◌}
use Rattle.p4_grammar.specs.declared.symbols.TheConstants.{BLOCK_PARTS, SWITCH_CASES}
use Rattle.p4_grammar.specs.Ahead.{Begins, below, after, nodes}
use Rattle.p4_grammar.specs.Statements.{block_parts, switch_cases}
use Rattle.p4_grammar.proofs.ListLemmas.{behind}
use Rattle.p4_grammar.proofs.statements.+statement.Given as goal

abbrev pub decreases-block : goal.decreases-block
decreases-block l = nodes l.cursor.now

abbrev pub decreases-block_parts : goal.decreases-block_parts
decreases-block_parts l = nodes l.cursor.now

abbrev pub decreases-block_part : goal.decreases-block_part
decreases-block_part l = nodes l.cursor.now

abbrev pub decreases-statement : goal.decreases-statement
decreases-statement l = nodes l.cursor.now

abbrev pub decreases-else_branch : goal.decreases-else_branch
decreases-else_branch l = nodes l.cursor.now

abbrev pub decreases-switch_cases : goal.decreases-switch_cases
decreases-switch_cases l = nodes l.cursor.now

abbrev pub decreases-switch_body : goal.decreases-switch_body
decreases-switch_body l = nodes l.cursor.now

abbrev pub invariant-block_parts-loop-alloc : goal.invariant-block_parts-loop-alloc
invariant-block_parts-loop-alloc l = record {
  begins : Begins BLOCK_PARTS l.cursor;
  list : behind l.all.items (block_parts (below l.cursor)) ≡ block_parts (below l.fn.cursor);
  rest : after l.cursor ≡ after l.fn.cursor;
  within : nodes l.cursor ≤ nodes l.fn.cursor;
}

abbrev pub decreases-block_parts-loop-alloc : goal.decreases-block_parts-loop-alloc
decreases-block_parts-loop-alloc l = nodes l.cursor

abbrev pub invariant-switch_cases-loop-alloc : goal.invariant-switch_cases-loop-alloc
invariant-switch_cases-loop-alloc l = record {
  begins : Begins SWITCH_CASES l.cursor;
  list : behind l.all.items (switch_cases (below l.cursor)) ≡ switch_cases (below l.fn.cursor);
  rest : after l.cursor ≡ after l.fn.cursor;
  within : nodes l.cursor ≤ nodes l.fn.cursor;
}

abbrev pub decreases-switch_cases-loop-alloc : goal.decreases-switch_cases-loop-alloc
decreases-switch_cases-loop-alloc l = nodes l.cursor
