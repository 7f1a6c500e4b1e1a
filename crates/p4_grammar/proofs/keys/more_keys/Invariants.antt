-- The keys so far and those ahead are all.
use Rattle.std.proofs.Common.{◌≡◌, [], ◌∷◌}
use Rattle.p4_grammar.specs.declared.symbols.TheConstants.{KEY_PARENTHESIS_TAIL}
use Rattle.p4_grammar.specs.Ahead.{Begins, below, after, nodes}
use Rattle.p4_grammar.specs.Keys.{more_keys}
use Rattle.p4_grammar.proofs.ListLemmas.{behind}
use Rattle.p4_grammar.proofs.keys.more_keys.Given as goal

abbrev pub invariant-loop-alloc : goal.invariant-loop-alloc
invariant-loop-alloc l = record {
  begins : Begins KEY_PARENTHESIS_TAIL l.cursor;
  list : behind l.keys.items (more_keys (below l.cursor)) ≡ behind (l.fn.first ∷ l.fn.second ∷ []) (more_keys (below l.fn.cursor));
  rest : after l.cursor ≡ after l.fn.cursor;
}

abbrev pub decreases-loop-alloc : goal.decreases-loop-alloc
decreases-loop-alloc l = nodes l.cursor
