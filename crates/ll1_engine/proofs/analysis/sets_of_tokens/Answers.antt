use Rattle.std.proofs.Common.{length}
use Rattle.ll1_engine.proofs.AnalysisLemmas.{AreSetsBelow_pushed}
use Rattle.ll1_engine.proofs.analysis.sets_of_tokens.Goals as goal

pub loop-token-preserved : goal.loop-token-preserved
loop-token-preserved c =
    AreSetsBelow_pushed c.loop-token.token (length c.args.tokens.now) c.args.rows.now c.loop-token.first_rows.items c.loop-token.follows.items c.loop-token.first_predictions.items
    c.in_ok-sets.sets.first_rows c.in_ok-sets.sets.follow c.in_ok-sets.sets.first_predictions c.push.new.self.items c.push-in-loop-token.new.self.items c.push-in-loop-token-2.new.self.items
    c.in_ok-push.ensures.items c.in_ok-push-2.ensures.items c.in_ok-push-3.ensures.items c.loop-token.invariant c.in_ok-sets.ensures
