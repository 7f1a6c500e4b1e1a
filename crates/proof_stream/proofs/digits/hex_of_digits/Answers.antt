use Rattle.std.proofs.Common.{length, arith}
use Rattle.std.proofs.lemmas.Grind.{common_steps}
use Rattle.proof_stream.specs.Reading.{hex_of_digits}
use Rattle.proof_stream.proofs.HexLemmas.{is_hex_value}
use Rattle.proof_stream.proofs.digits.hex_of_digits.Goals as goal

pub returns : goal.returns
unfolding hex_of_digits
returns c =
    let e = is_hex_value (length c.args.digits.now) c.in_ok-value.value c.new.result c.new.ensures.some c.new.ensures.digits c.new.ensures.value in
    grind (arith, common_steps, e)
