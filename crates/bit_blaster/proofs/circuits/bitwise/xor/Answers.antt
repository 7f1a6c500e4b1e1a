use Rattle.std.proofs.Common.{refl, sym, ◌∙◌}
use Rattle.bits_core.proofs.BitwiseLaws.{xor_by_bits}
use Rattle.bits_core.specs.Circuit.{bitwise}
use Rattle.bits_core.specs.declared.operator.Op.TheVariants.{Xor}
use Rattle.bit_blaster.specs.declared.words.BitGate.TheVariants.{Xor as XorGate}
use Rattle.bit_blaster.specs.Word.{bit_function}
use Rattle.bit_blaster.proofs.GateLemmas.{ok_along}
use Rattle.bit_blaster.proofs.OperatorLemmas.{computes_by_bits}
use Rattle.bit_blaster.proofs.circuits.bitwise.xor.Goals as goal

pub returns-clause-computes : goal.returns-clause-computes
returns-clause-computes c =
    ok_along c.bit_by_bit.result _ _
    (λ r. computes_by_bits Xor (bitwise (bit_function XorGate)) c.args.circuit.now c.bit_by_bit.new.self c.args.a.now c.args.b.now r.items refl
    (λ xs ys p q. xor_by_bits xs ys (p ∙ c.requires.long ∙ sym q)))
    c.bit_by_bit.ensures.gives
