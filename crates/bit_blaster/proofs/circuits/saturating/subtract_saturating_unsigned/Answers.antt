use Rattle.std.proofs.Common.{List, ◌∙◌, sym, subst}
use Rattle.bit_blaster.specs.declared.wire.Wire.{Wire}
use Rattle.bit_blaster.specs.Netlist.{HasWord}
use Rattle.bit_blaster.proofs.GateLemmas.{ok_along}
use Rattle.bit_blaster.proofs.OperatorLemmas.{has_turned}
use Rattle.bit_blaster.proofs.SaturationLemmas.{computes_difference_or_zero}
use Rattle.bit_blaster.proofs.circuits.saturating.subtract_saturating_unsigned.Goals as goal

pub total_of-requires-clause-second : goal.total_of-requires-clause-second
total_of-requires-clause-second c =
    subst (λ (word : List Wire). HasWord c.args.circuit.now word) (sym (c.deref.ensures.value ∙ c.in_ok-other.ensures))
    (has_turned c.args.circuit.now c.args.b.now c.requires.second)

pub returns-clause-computes : goal.returns-clause-computes
returns-clause-computes c =
    ok_along c.choose_word.result _ _
    (λ r. computes_difference_or_zero c.args.circuit.now c.total_of.new.circuit c.choose_word.new.self c.args.a.now c.args.b.now r.items
    c.requires.long c.in_ok-difference.ensures.extends c.deref.result.now c.in_ok-difference.difference.word.items c.in_ok-end.end.items
    c.deref-2.result.now c.deref-3.result.now c.in_ok-difference.difference.carry (c.deref.ensures.value ∙ c.in_ok-other.ensures)
    c.in_ok-end.ensures c.deref-2.ensures.value c.deref-3.ensures.value c.in_ok-difference.ensures.gives c.in_ok-difference.ensures.carry)
    c.choose_word.ensures.gives
