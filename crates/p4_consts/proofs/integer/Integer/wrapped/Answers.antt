use Rattle.std.proofs.Common.{◌∙◌, ap, sym, rules}
use Rattle.std.specs.Prelude.{pos, neg_ℤ, if◌then◌else◌}
use Rattle.bits_core.specs.Number.{wrapped}
use Rattle.p4_consts.proofs.IntegerLaws.{wrapped_negated}
use Rattle.p4_consts.proofs.integer.Integer.wrapped.Goals as goal

pub returns-then-self : goal.returns-then-self
returns-then-self c =
    c.wrapping.ensures.value
    ∙ wrapped_negated c.args.width c.args.self.magnitude c.requires.at_most_widest (search rules)
    ∙ ap (λ b. wrapped c.args.width (if b then neg_ℤ (pos c.args.self.magnitude) else pos c.args.self.magnitude)) (sym c.if-self.true)
