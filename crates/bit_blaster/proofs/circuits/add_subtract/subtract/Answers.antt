use Rattle.std.proofs.Common.{List, subst, sym, ◌∙◌}
use Rattle.bit_blaster.specs.declared.wire.Wire.{Wire}
use Rattle.bit_blaster.specs.Netlist.{HasWord}
use Rattle.bit_blaster.proofs.GateLemmas.{ok_along}
use Rattle.bit_blaster.proofs.OperatorLemmas.{computes_subtract, has_turned}
use Rattle.bit_blaster.proofs.circuits.add_subtract.subtract.Goals as goal

pub sum-requires-clause-second : goal.sum-requires-clause-second
sum-requires-clause-second c =
    subst (λ (word : List Wire). HasWord c.args.circuit.now word) (sym (c.deref.ensures.value ∙ c.in_ok-other.ensures))
    (has_turned c.args.circuit.now c.args.b.now c.requires.second)

pub returns-clause-computes : goal.returns-clause-computes
returns-clause-computes c =
    ok_along c.sum.result _ _
    (λ r. computes_subtract c.args.circuit.now c.sum.new.circuit c.args.a.now c.args.b.now r.items c.requires.long c.deref.result.now
    c.requires.second (c.deref.ensures.value ∙ c.in_ok-other.ensures))
    c.sum.ensures.gives
