use Rattle.std.proofs.Common.{List, ◌∙◌, sym, subst}
use Rattle.bit_blaster.specs.declared.wire.Wire.{Wire}
use Rattle.bit_blaster.specs.Netlist.{HasWord}
use Rattle.bit_blaster.proofs.GateLemmas.{ok_along}
use Rattle.bit_blaster.proofs.NetlistLemmas.{has_word_along}
use Rattle.bit_blaster.proofs.OperatorLemmas.{has_turned}
use Rattle.bit_blaster.proofs.SaturationLemmas.{computes_signed_difference}
use Rattle.bit_blaster.proofs.circuits.saturating.subtract_saturating_signed.Goals as goal

pub sum-requires-clause-second : goal.sum-requires-clause-second
sum-requires-clause-second c =
    subst (λ (word : List Wire). HasWord c.xor.new.self word) (sym (c.deref.ensures.value ∙ c.in_ok-other.ensures))
    (has_turned c.xor.new.self c.args.b.now
    (has_word_along c.args.circuit.now c.xor.new.self c.args.b.now c.in_ok-differ.ensures.extends c.requires.second))

pub returns-clause-computes : goal.returns-clause-computes
returns-clause-computes c =
    ok_along c.word_or_end.result _ _
    (λ r. computes_signed_difference c.args.circuit.now c.xor.new.self c.sum.new.circuit c.word_or_end.new.circuit c.args.a.now c.args.b.now
    r.items c.requires.long c.in_ok-differ.ensures.extends c.in_ok-word.ensures.extends c.sign_of.result c.sign_of-2.result
    c.in_ok-differ.differ c.sign_of.ensures c.sign_of-2.ensures c.in_ok-differ.ensures.gives c.deref.result.now c.in_ok-word.word.items
    c.deref-2.result.now (c.deref.ensures.value ∙ c.in_ok-other.ensures) c.deref-2.ensures.value c.in_ok-word.ensures.gives)
    c.word_or_end.ensures.gives
