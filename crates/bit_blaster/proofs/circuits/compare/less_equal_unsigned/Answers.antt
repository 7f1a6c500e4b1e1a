use Rattle.std.proofs.Common.{List, subst, sym}
use Rattle.bits_core.specs.declared.operator.Op.TheVariants.{LeU}
use Rattle.bit_blaster.specs.declared.wire.Wire.{Wire}
use Rattle.bit_blaster.specs.Word.{Computes}
use Rattle.bit_blaster.proofs.GateLemmas.{ok_along}
use Rattle.bit_blaster.proofs.OperatorLemmas.{computes_less_equal}
use Rattle.bit_blaster.proofs.circuits.compare.less_equal_unsigned.Goals as goal

pub returns-clause-computes : goal.returns-clause-computes
returns-clause-computes c =
    ok_along c.one_bit.result _ _
    (λ r e. subst (λ (word : List Wire). Computes LeU c.args.circuit.now c.not_below.new.circuit c.args.a.now c.args.b.now word) (sym e)
    (computes_less_equal c.args.circuit.now c.not_below.new.circuit c.args.a.now c.args.b.now c.in_ok-wire.wire c.requires.long
    c.in_ok-wire.ensures.gives))
    c.one_bit.ensures
