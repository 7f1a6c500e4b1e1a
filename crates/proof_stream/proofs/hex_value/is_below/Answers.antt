use Rattle.std.proofs.Common.{arith}
use Rattle.proof_stream.proofs.HexLemmas.{power_below}
use Rattle.proof_stream.proofs.hex_value.is_below.Goals as goal

pub pow-requires : goal.pow-requires
pow-requires c = power_below c.args.digits (omega arith)
