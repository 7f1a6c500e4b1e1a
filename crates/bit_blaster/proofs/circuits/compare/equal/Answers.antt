use Rattle.std.proofs.Common.{List, subst, sym}
use Rattle.bits_core.specs.declared.operator.Op.TheVariants.{Eq}
use Rattle.bit_blaster.specs.declared.wire.Wire.{Wire}
use Rattle.bit_blaster.specs.Word.{Computes}
use Rattle.bit_blaster.proofs.GateLemmas.{ok_along}
use Rattle.bit_blaster.proofs.CompareLemmas.{computes_equal}
use Rattle.bit_blaster.proofs.circuits.compare.equal.Goals as goal

pub returns-clause-computes : goal.returns-clause-computes
returns-clause-computes c =
    ok_along c.one_bit.result _ _
    (λ r e. subst (λ (word : List Wire). Computes Eq c.args.circuit.now c.any.new.self c.args.a.now c.args.b.now word) (sym e)
    (computes_equal c.args.circuit.now c.bit_by_bit.new.self c.any.new.self c.args.a.now c.args.b.now c.in_ok-differences.differences.items
    c.deref.result.now c.in_ok-differs.differs c.not.result c.requires.long c.deref.ensures.value c.not.ensures
    c.in_ok-differences.ensures.gives c.in_ok-differs.ensures.gives))
    c.one_bit.ensures
