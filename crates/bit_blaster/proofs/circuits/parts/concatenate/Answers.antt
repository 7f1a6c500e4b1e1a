use Rattle.std.proofs.Common.{List, ◌++◌, ap, ◌∙◌}
use Rattle.bit_blaster.specs.declared.wire.Wire.{Wire}
use Rattle.bit_blaster.proofs.OperatorLemmas.{computes_join}
use Rattle.bit_blaster.proofs.circuits.parts.concatenate.Goals as goal

pub returns-clause-computes : goal.returns-clause-computes
returns-clause-computes c =
    computes_join c.args.circuit.now c.args.a.now c.args.b.now c.extend_from_slice-2.new.self.items c.requires.first c.requires.second
    (c.in_ok-extend_from_slice-2.ensures.items
    ∙ ap (λ (word : List Wire). word ++ c.args.a.now)
    (c.in_ok-extend_from_slice.ensures.items ∙ ap (λ (word : List Wire). word ++ c.args.b.now) c.new-word.ensures.items))
