use Rattle.std.proofs.Common.{length}
use Rattle.ll1_engine.specs.Analysis.{AreSetsBelow}
use Rattle.ll1_engine.proofs.analysis.sets_of_tokens.Given as goal

abbrev pub invariant-loop-token : goal.invariant-loop-token
invariant-loop-token l = AreSetsBelow l.token (length l.tokens) l.rows l.first_rows.items l.follows.items l.first_predictions.items
