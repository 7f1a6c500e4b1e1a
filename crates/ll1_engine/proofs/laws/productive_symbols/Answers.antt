use Rattle.ll1_engine.proofs.ProductiveLemmas.{Productive_token, Productive_row, Productive_append}
use Rattle.ll1_engine.proofs.laws.productive_symbols.Goals as goal

pub returns-clause-token : goal.returns-clause-token
returns-clause-token c = Productive_token

pub returns-clause-row : goal.returns-clause-row
returns-clause-row c = Productive_row

pub returns-clause-list : goal.returns-clause-list
returns-clause-list c = Productive_append
