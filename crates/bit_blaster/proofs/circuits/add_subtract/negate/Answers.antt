use Rattle.std.proofs.Common.{List, subst, sym, ◌∙◌}
use Rattle.bit_blaster.specs.declared.wire.Wire.{Wire}
use Rattle.bit_blaster.specs.Netlist.{HasWord}
use Rattle.bit_blaster.proofs.GateLemmas.{ok_along}
use Rattle.bit_blaster.proofs.OperatorLemmas.{has_turned}
use Rattle.bit_blaster.proofs.NegationLemmas.{computes_negation}
use Rattle.bit_blaster.proofs.circuits.add_subtract.negate.Goals as goal

pub sum-requires-clause-second : goal.sum-requires-clause-second
sum-requires-clause-second c =
    subst (λ (word : List Wire). HasWord c.args.circuit.now word) (sym (c.deref-2.ensures.value ∙ c.in_ok-other.ensures))
    (has_turned c.args.circuit.now c.args.a.now c.requires.first)

pub returns-clause-computes : goal.returns-clause-computes
returns-clause-computes c =
    ok_along c.sum.result _ _
    (λ r. computes_negation c.args.circuit.now c.sum.new.circuit c.args.a.now c.args.b.now c.deref.result.now c.deref-2.result.now r.items
    (c.deref.ensures.value ∙ c.in_ok-zeros.ensures) (c.deref-2.ensures.value ∙ c.in_ok-other.ensures))
    c.sum.ensures.gives
