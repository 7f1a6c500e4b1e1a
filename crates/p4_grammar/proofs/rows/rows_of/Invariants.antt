-- The rows that the productions so far give.
use Rattle.std.proofs.Common.{◌≡◌, map, take}
use Rattle.p4_grammar.specs.Rows.{row_of}
use Rattle.p4_grammar.proofs.rows.rows_of.Given as goal

abbrev pub invariant-loop-production : goal.invariant-loop-production
invariant-loop-production l = l.rows.items ≡ map row_of (take l.production-index l.productions)
