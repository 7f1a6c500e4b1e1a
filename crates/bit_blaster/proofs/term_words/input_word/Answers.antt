-- The next bit is the one before.
use Rattle.std.proofs.Common.{arith}
use Rattle.cnf_core.specs.declared.derivation.Var.TheVariants.{Input}
use Rattle.bit_blaster.specs.TermWord.{input_bits}
use Rattle.bit_blaster.proofs.TermWordLemmas.{next_input_wire, wires_done, length_input_bits}
use Rattle.bit_blaster.proofs.term_words.input_word.Goals as goal

pub wire-requires : goal.wire-requires
wire-requires c = c.requires (Input c.in-Some.bit) (grind (arith, c.in-Some.ensures), grind (arith, c.in-Some.ensures))

pub loop-place-preserved : goal.loop-place-preserved
loop-place-preserved c =
    next_input_wire c.args.variables.now c.loop-place.word.items c.push.new.self.items c.wire.result c.in_ok-push-in-Some.ensures.items
    c.args.first c.args.width c.loop-place.place c.in-Some.bit c.loop-place-test.true (grind (arith, c.in-Some.ensures)) c.wire.ensures
    c.loop-place.invariant

pub returns : goal.returns
returns c =
    wires_done c.args.variables.now c.loop-place.word.items (input_bits c.args.first c.args.width) c.loop-place.place
    (omega (arith, length_input_bits c.args.first c.args.width)) c.loop-place.invariant
