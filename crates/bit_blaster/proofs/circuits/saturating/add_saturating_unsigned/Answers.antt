use Rattle.bit_blaster.proofs.GateLemmas.{ok_along}
use Rattle.bit_blaster.proofs.SaturationLemmas.{computes_sum_or_end}
use Rattle.bit_blaster.proofs.circuits.saturating.add_saturating_unsigned.Goals as goal

pub returns-clause-computes : goal.returns-clause-computes
returns-clause-computes c =
    ok_along c.choose_word.result _ _
    (λ r. computes_sum_or_end c.args.circuit.now c.total_of.new.circuit c.choose_word.new.self c.args.a.now c.args.b.now r.items
    c.requires.long c.in_ok-sum.ensures.extends c.in_ok-sum.sum.word.items c.in_ok-end.end.items c.deref.result.now c.deref-2.result.now
    c.in_ok-sum.sum.carry c.in_ok-end.ensures c.deref.ensures.value c.deref-2.ensures.value c.in_ok-sum.ensures.gives
    c.in_ok-sum.ensures.carry)
    c.choose_word.ensures.gives
