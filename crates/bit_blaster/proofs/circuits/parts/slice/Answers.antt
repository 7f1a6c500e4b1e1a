use Rattle.std.proofs.Common.{List, ℕ, ◌≡◌, ◌+◌, ◌-◌, ◌++◌, take, drop, ap, ◌∙◌, arith}
use Rattle.bit_blaster.specs.declared.wire.Wire.{Wire}
use Rattle.bit_blaster.proofs.PartLemmas.{computes_slice}
use Rattle.bit_blaster.proofs.circuits.parts.slice.Goals as goal

pub returns : goal.returns
returns c =
    computes_slice c.args.circuit.now c.args.a.now c.extend_from_slice.new.self.items c.args.high c.args.low c.requires.order c.requires.within
    c.requires.word
    (c.in_ok-extend_from_slice.ensures.items
    ∙ ap (λ (word : List Wire). word ++ take (c.args.high + 1 - c.args.low) (drop c.args.low c.args.a.now)) c.new-word.ensures.items
    ∙ ap (λ (n : ℕ). take n (drop c.args.low c.args.a.now)) width) where
      width : c.args.high + 1 - c.args.low ≡ c.args.high - c.args.low + 1
      width = omega (arith, c.requires.order)
