use Rattle.proof_stream.proofs.FaultLemmas.{one_record}
use Rattle.proof_stream.proofs.laws.texts_have_one_record.Goals as goal

pub returns : goal.returns
returns c = one_record
