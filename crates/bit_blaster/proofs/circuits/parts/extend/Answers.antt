use Rattle.std.proofs.Common.{rules, ◌≡◌, ℕ, ◌-◌, List, ◌++◌, length, take, replicate, ap, ◌∙◌}
use Rattle.std.specs.Vec.{vec_len}
use Rattle.bit_blaster.specs.declared.wire.Wire.{Wire}
use Rattle.bit_blaster.proofs.PartLemmas.{computes_extension, resized_is}
use Rattle.bit_blaster.proofs.circuits.parts.extend.Goals as goal

pub returns : goal.returns
returns c =
    computes_extension c.args.circuit.now c.args.signed c.args.a.now c.resize.new.self.items c.args.width c.fill_of-fill.result
    c.requires.some_bit c.requires.word c.fill_of-fill.ensures
    (c.in_ok-resize.ensures.items
    ∙ ap (λ (n : ℕ). take c.args.width c.extend_from_slice.new.self.items ++ replicate (c.args.width - n) c.fill_of-fill.result) long
    ∙ resized_is c.args.width c.args.a.now c.extend_from_slice.new.self.items c.fill_of-fill.result
    (c.in_ok-extend_from_slice.ensures.items
    ∙ ap (λ (word : List Wire). word ++ take c.min.result c.args.a.now) c.new-word.ensures.items
    ∙ ap (λ n. take n c.args.a.now) c.min.ensures)) where
      long : vec_len c.extend_from_slice.new.self ≡ length c.extend_from_slice.new.self.items
      long = search rules
