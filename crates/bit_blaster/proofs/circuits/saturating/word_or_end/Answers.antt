use Rattle.bit_blaster.proofs.GateLemmas.{ok_along}
use Rattle.bit_blaster.proofs.SaturationLemmas.{gives_or_end}
use Rattle.bit_blaster.proofs.circuits.saturating.word_or_end.Goals as goal

pub returns-clause-gives : goal.returns-clause-gives
returns-clause-gives c =
    ok_along c.choose_word.result _ _
    (λ r. gives_or_end c.args.circuit.now c.xor.new.self c.and.new.self c.choose_word.new.self c.args.a.now c.args.word.now c.args.bound
    c.sign_of-sign.result c.sign_of.result c.in_ok-changed.changed c.in_ok-past.past c.in_ok-end.end.items c.deref.result.now r.items
    c.sign_of-sign.ensures c.sign_of.ensures c.in_ok-changed.ensures.extends c.in_ok-past.ensures.extends c.in_ok-changed.ensures.gives
    c.in_ok-past.ensures.gives c.deref.ensures.value c.in_ok-end.ensures)
    c.choose_word.ensures.gives
