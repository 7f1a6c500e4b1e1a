use Rattle.std.proofs.Common.{List, sym, subst}
use Rattle.bit_blaster.specs.declared.wire.Wire.{Wire}
use Rattle.bit_blaster.specs.Shifter.{GivesReduced}
use Rattle.bit_blaster.proofs.GateLemmas.{ok_along}
use Rattle.bit_blaster.proofs.ShifterLemmas.{gives_shift}
use Rattle.bit_blaster.proofs.circuits.shifts.shift.Goals as goal

pub returns-clause-gives : goal.returns-clause-gives
returns-clause-gives c =
    ok_along c.staged.result _ _
    (λ r. gives_shift c.args.direction c.args.circuit.now c.reduced.new.self c.staged.new.self c.args.fill c.args.a.now c.args.b.now
    c.deref.result.now r.items c.stages_of.result c.stages_of.ensures.enough c.in_ok-amount.ensures.extends
    (subst (λ (us : List Wire). GivesReduced c.stages_of.result c.args.circuit.now c.reduced.new.self c.args.b.now us)
    (sym c.deref.ensures.value) c.in_ok-amount.ensures.gives))
    c.staged.ensures.gives
