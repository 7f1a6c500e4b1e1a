use Rattle.ll1_engine.proofs.ClosedLemmas.{nullable_within, begins_within, follow_within}
use Rattle.ll1_engine.proofs.laws.closed_sets_hold_the_least.Goals as goal

pub returns-clause-nullable : goal.returns-clause-nullable
returns-clause-nullable c = λ g nullable first follow xs closed n. nullable_within g nullable first follow closed xs n

pub returns-clause-first : goal.returns-clause-first
returns-clause-first c = λ g nullable first follow xs t closed b. begins_within g nullable first follow closed t xs b

pub returns-clause-follow : goal.returns-clause-follow
returns-clause-follow c = λ g nullable first follow x t closed f. follow_within g nullable first follow closed t x f
