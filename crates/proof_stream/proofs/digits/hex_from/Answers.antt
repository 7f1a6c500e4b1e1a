use Rattle.std.proofs.Common.{arith}
use Rattle.proof_stream.proofs.HexLemmas.{step_below}
use Rattle.proof_stream.proofs.digits.hex_from.Goals as goal

pub overflow_mul-value : goal.overflow_mul-value
overflow_mul-value c = let fits = step_below c.loop-c.value c.loop-c.c-index 0 c.loop-c.invariant.1 (omega arith) (omega arith) in omega arith

pub overflow_add-value : goal.overflow_add-value
overflow_add-value c =
    let fits = step_below c.loop-c.value c.loop-c.c-index c.in_ok-value.field-0 c.loop-c.invariant.1 (omega arith) (omega (arith, c.in_ok-value.ensures.small)) in
    omega arith
