-- The way and the counts of brackets have come to the token, and none before it is too deep.
use Rattle.std.proofs.Common.{◌≡◌, ◌≤◌, [], ◌∷◌, take, drop}
use Rattle.std.specs.List.{count_by}
use Rattle.p4_grammar.specs.Words.{terminals_of}
use Rattle.p4_grammar.specs.Depth.{is_opening, is_closing, IsShallowBefore}
use Rattle.p4_grammar.specs.Descent.{start, node_depths, depths_ahead, IsOnTheWay}
use Rattle.p4_grammar.proofs.depth.first_deep.Given as goal

abbrev pub invariant-loop-at : goal.invariant-loop-at
invariant-loop-at l = record {
  on_the_way : IsOnTheWay l.descent;
  ahead : depths_ahead l.descent ≡ drop l.at (node_depths l.rows (start ∷ []));
  opened : l.opened ≡ count_by is_opening (take l.at (terminals_of l.tokens));
  closed : l.closed ≡ count_by is_closing (take l.at (terminals_of l.tokens));
  few_opened : l.opened ≤ l.at;
  few_closed : l.closed ≤ l.at;
  shallow : IsShallowBefore l.tokens l.at;
}
