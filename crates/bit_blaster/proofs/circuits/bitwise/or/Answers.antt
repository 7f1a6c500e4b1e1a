use Rattle.std.proofs.Common.{refl, sym, ◌∙◌}
use Rattle.bits_core.proofs.BitwiseLaws.{or_by_bits}
use Rattle.bits_core.specs.Circuit.{bitwise}
use Rattle.bits_core.specs.declared.operator.Op.TheVariants.{Or}
use Rattle.bit_blaster.specs.declared.words.BitGate.TheVariants.{Or as OrGate}
use Rattle.bit_blaster.specs.Word.{bit_function}
use Rattle.bit_blaster.proofs.GateLemmas.{ok_along}
use Rattle.bit_blaster.proofs.OperatorLemmas.{computes_by_bits}
use Rattle.bit_blaster.proofs.circuits.bitwise.or.Goals as goal

pub returns-clause-computes : goal.returns-clause-computes
returns-clause-computes c =
    ok_along c.bit_by_bit.result _ _
    (λ r. computes_by_bits Or (bitwise (bit_function OrGate)) c.args.circuit.now c.bit_by_bit.new.self c.args.a.now c.args.b.now r.items refl
    (λ xs ys p q. or_by_bits xs ys (p ∙ c.requires.long ∙ sym q)))
    c.bit_by_bit.ensures.gives
