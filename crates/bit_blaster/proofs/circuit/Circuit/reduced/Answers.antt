-- The low bits, and the wire for those above them.
use Rattle.std.proofs.Common.{List, ◌-◌, [], ◌∷◌, ◌++◌, length, take, drop, sym, ap, ◌∙◌, subst, arith}
use Rattle.std.proofs.lemmas.List.{take_all, length-drop}
use Rattle.bit_blaster.specs.declared.wire.Wire.{Wire}
use Rattle.bit_blaster.specs.Shifter.{GivesReduced, GivesSome}
use Rattle.bit_blaster.proofs.ShifterLemmas.{gives_reduced}
use Rattle.bit_blaster.proofs.circuit.Circuit.reduced.Goals as goal

pub returns-clause-gives : goal.returns-clause-gives
returns-clause-gives c =
    subst (λ (word : List Wire). GivesReduced c.args.stages c.args.self.now c.any.new.self c.args.amount.now word)
    (sym (c.in_ok-push.ensures.items
    ∙ ap (λ (us : List Wire). us ++ c.in_ok-above.above ∷ [])
    (c.in_ok-extend_from_slice.ensures.items ∙ ap (λ (us : List Wire). us ++ take c.min-low.result c.args.amount.now) c.new-word.ensures.items)))
    (gives_reduced c.args.self.now c.any.new.self c.args.amount.now c.args.stages c.min-low.result c.in_ok-above.above c.min-low.ensures
    c.requires c.in_ok-above.ensures.extends
    (subst (λ (us : List Wire). GivesSome (λ bits. bits) c.args.self.now c.any.new.self us c.in_ok-above.above)
    (take_all (length c.args.amount.now - c.min-low.result) (drop c.min-low.result c.args.amount.now)
    (omega (arith, length-drop c.min-low.result c.args.amount.now)))
    c.in_ok-above.ensures.gives))
