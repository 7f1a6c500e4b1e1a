-- The next bit of the read.
use Rattle.std.proofs.Common.{arith, refl}
use Rattle.cnf_core.specs.declared.derivation.Var.TheVariants.{Read}
use Rattle.bit_blaster.specs.TermWord.{read_bits}
use Rattle.bit_blaster.proofs.TermWordLemmas.{next_read_wire, wires_done, length_read_bits}
use Rattle.bit_blaster.proofs.term_words.read_word.Goals as goal

pub wire-requires : goal.wire-requires
wire-requires c = c.requires (Read c.args.read c.loop-place.place) (refl, omega arith)

pub loop-place-preserved : goal.loop-place-preserved
loop-place-preserved c =
    next_read_wire c.args.variables.now c.loop-place.word.items c.push.new.self.items c.wire.result c.in_ok-push.ensures.items
    c.args.read c.args.width c.loop-place.place c.loop-place-test.true c.wire.ensures c.loop-place.invariant

pub returns : goal.returns
returns c =
    wires_done c.args.variables.now c.loop-place.word.items (read_bits c.args.read 0 c.args.width) c.loop-place.place
    (omega (arith, length_read_bits c.args.read 0 c.args.width)) c.loop-place.invariant
