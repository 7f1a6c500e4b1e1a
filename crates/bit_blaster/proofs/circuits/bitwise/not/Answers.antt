use Rattle.std.proofs.Common.{List, refl, sym, subst}
use Rattle.bits_core.proofs.BitwiseLaws.{not_by_bits}
use Rattle.bits_core.specs.declared.operator.Op.TheVariants.{Not}
use Rattle.std.specs.Prelude.{map, not}
use Rattle.bit_blaster.specs.declared.wire.Wire.{Wire}
use Rattle.bit_blaster.specs.Wire.{opposite}
use Rattle.bit_blaster.specs.Word.{Computes}
use Rattle.bit_blaster.proofs.GateLemmas.{ok_along}
use Rattle.bit_blaster.proofs.OperatorLemmas.{computes_by_bits, gives_turned}
use Rattle.bit_blaster.proofs.circuits.bitwise.not.Goals as goal

pub returns-clause-computes : goal.returns-clause-computes
returns-clause-computes c =
    ok_along c.turned.result _ _
    (λ r e. subst (λ (word : List Wire). Computes Not c.args.circuit.now c.args.circuit.now c.args.a.now c.args.b.now word) (sym e)
    (computes_by_bits Not (λ xs ys. map not xs) c.args.circuit.now c.args.circuit.now c.args.a.now c.args.b.now (map opposite c.args.a.now)
    refl (λ xs ys p q. not_by_bits xs) (gives_turned c.args.circuit.now c.args.a.now c.args.b.now c.requires.first)))
    c.turned.ensures
