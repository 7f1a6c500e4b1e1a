use Rattle.std.proofs.Common.{List, ◌+◌, length, refl, sym, subst}
use Rattle.bits_core.specs.Circuit.{bitwise, exclusive_or}
use Rattle.bit_blaster.specs.declared.wire.Wire.{Wire}
use Rattle.bit_blaster.specs.Word.{GivesBits, GivesCarries}
use Rattle.bit_blaster.proofs.OperatorLemmas.{gives_sum}
use Rattle.bit_blaster.proofs.SaturationLemmas.{gives_carry_out}
use Rattle.bit_blaster.proofs.circuits.add_subtract.total_of.Goals as goal

pub returns-clause-gives : goal.returns-clause-gives
returns-clause-gives c =
    gives_sum c.args.circuit.now c.carries.new.self c.bit_by_bit.new.self c.bit_by_bit-2.new.self c.args.a.now c.args.b.now
    c.args.carry c.in_ok-carries.carries.last c.deref.result.now c.deref-2.result.now c.in_ok-word.word.items c.requires.long refl
    c.in_ok-carries.ensures.extends c.in_ok-halves.ensures.extends
    (subst
    (λ (word : List Wire). GivesCarries (length c.args.a.now + 1) (λ xs. xs) (λ ys. ys) c.args.circuit.now c.carries.new.self
    c.args.a.now c.args.b.now c.args.carry c.in_ok-carries.carries.last word)
    (sym c.deref.ensures.value) c.in_ok-carries.ensures.gives)
    (subst
    (λ (word : List Wire). GivesBits (length c.args.b.now) (bitwise exclusive_or) c.carries.new.self c.bit_by_bit.new.self
    c.args.b.now c.deref.result.now word)
    (sym c.deref-2.ensures.value) c.in_ok-halves.ensures.gives)
    c.in_ok-word.ensures.gives

pub returns-clause-carry : goal.returns-clause-carry
returns-clause-carry c =
    gives_carry_out c.args.circuit.now c.carries.new.self c.bit_by_bit.new.self c.bit_by_bit-2.new.self c.args.a.now c.args.b.now
    c.args.carry c.in_ok-carries.carries.last c.in_ok-carries.carries.all.items c.in_ok-carries.ensures.gives
    c.in_ok-halves.ensures.extends c.in_ok-word.ensures.extends
