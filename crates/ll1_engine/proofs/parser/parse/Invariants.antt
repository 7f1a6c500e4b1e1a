use Rattle.std.proofs.Common.{◌+◌, ◌-◌, ◌^◌, length, vec_len}
use Rattle.ll1_engine.proofs.UnderWayLemmas.{IsUnderWay}
use Rattle.ll1_engine.proofs.parser.parse.Given as goal

-- the stack is what is to be derived after the tokens before `at`
abbrev pub invariant-loop-symbol : goal.invariant-loop-symbol
invariant-loop-symbol g l = IsUnderWay g.row.S l.checked l.tokens l.at l.rows.items l.stack

-- each step takes a token or adds a row, and a list has fewer than 2 ^ 64 of each
abbrev pub decreases-loop-symbol : goal.decreases-loop-symbol
decreases-loop-symbol g l = (2 ^ 64 - vec_len l.rows) + (length l.tokens - l.at)
