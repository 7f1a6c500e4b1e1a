use Rattle.std.proofs.Common.{arith}
use Rattle.ll1_engine.specs.Conditions.{Meets}
use Rattle.ll1_engine.proofs.ConditionsLemmas.{before_rank, before_follow}
use Rattle.ll1_engine.proofs.check.break_of.Goals as goal

pub returns-then-breaks_barren : goal.returns-then-breaks_barren
returns-then-breaks_barren c = λ r h. (c.if-breaks_barren.ensures r h, λ a lt. absurd (omega arith))

pub returns-then-breaks_rank : goal.returns-then-breaks_rank
returns-then-breaks_rank c = λ r h. (c.if-breaks_rank.ensures r h, before_rank (Meets c.args.rows.now c.args.k r) (c.if-breaks_barren.ensures r h))

pub returns-then-breaks_follow : goal.returns-then-breaks_follow
returns-then-breaks_follow c = λ r h.
    (c.if-breaks_follow.ensures r h, before_follow (Meets c.args.rows.now c.args.k r) (c.if-breaks_barren.ensures r h) (c.if-breaks_rank.ensures r h) (c.if-breaks_nullable.ensures r h) (c.if-breaks_first.ensures r h))
