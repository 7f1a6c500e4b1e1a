use Rattle.std.proofs.Common.{◌∙◌}
use Rattle.bit_blaster.proofs.GateLemmas.{ok_along}
use Rattle.bit_blaster.proofs.CompareLemmas.{computes_less_signed, length_top_turned}
use Rattle.bit_blaster.proofs.circuits.compare.less_signed.Goals as goal

pub less_unsigned-requires-clause-long : goal.less_unsigned-requires-clause-long
less_unsigned-requires-clause-long c =
    length_top_turned c.args.a.now c.args.b.now c.deref.result.now c.deref-2.result.now c.requires.long
    (c.deref.ensures.value ∙ c.in_ok-first.ensures) (c.deref-2.ensures.value ∙ c.in_ok-second.ensures)

pub returns-clause-computes : goal.returns-clause-computes
returns-clause-computes c =
    ok_along c.less_unsigned.result _ _
    (λ r. computes_less_signed c.args.circuit.now c.less_unsigned.new.circuit c.args.a.now c.args.b.now c.deref.result.now c.deref-2.result.now r.items
    c.requires.long (c.deref.ensures.value ∙ c.in_ok-first.ensures) (c.deref-2.ensures.value ∙ c.in_ok-second.ensures))
    c.less_unsigned.ensures.computes
