use Rattle.p4_meaning.proofs.WinnerLaws.{winner_wins}
use Rattle.p4_meaning.proofs.run_laws.a_winner_or_no_match.Goals as goal

pub returns : goal.returns
returns c = winner_wins
