use Rattle.p4_meaning.proofs.OneWinner.{one_winner}
use Rattle.p4_meaning.proofs.run_laws.one_winner_at_most.Goals as goal

pub returns : goal.returns
returns c = λ p well b x bounded table t is key v w f g. one_winner p well t b x bounded table is key v w f g
