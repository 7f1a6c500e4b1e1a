use Rattle.std.proofs.Common.{List, subst, sym, ◌∙◌}
use Rattle.bit_blaster.specs.declared.wire.Wire.{Wire}
use Rattle.bit_blaster.specs.Netlist.{HasWord}
use Rattle.bit_blaster.proofs.OperatorLemmas.{gives_no_borrow, has_turned}
use Rattle.bit_blaster.proofs.circuits.compare.not_below.Goals as goal

pub carries-requires-clause-second : goal.carries-requires-clause-second
carries-requires-clause-second c =
    subst (λ (word : List Wire). HasWord c.args.circuit.now word) (sym (c.deref.ensures.value ∙ c.in_ok-other.ensures))
    (has_turned c.args.circuit.now c.args.b.now c.requires.second)

pub returns-clause-gives : goal.returns-clause-gives
returns-clause-gives c =
    gives_no_borrow c.args.circuit.now c.carries.new.self c.args.a.now c.args.b.now c.deref.result.now c.in_ok-row.row.all.items
    c.in_ok-row.row.last c.requires.second (c.deref.ensures.value ∙ c.in_ok-other.ensures) c.in_ok-row.ensures.gives
