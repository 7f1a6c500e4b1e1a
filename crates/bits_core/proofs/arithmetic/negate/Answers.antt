use Rattle.std.proofs.Common.{◌∙◌}
use Rattle.bits_core.proofs.WidthLaws.{le_wider, wrapped_sub}
use Rattle.bits_core.proofs.arithmetic.negate.Goals as goal

pub returns-clause-value : goal.returns-clause-value
returns-clause-value c =
    c.cut.ensures ∙ wrapped_sub c.args.a.width 128 0 c.args.a.value c.args.a.at_most_widest
    (le_wider c.args.a.value c.args.a.width 128 c.args.a.fits c.args.a.at_most_widest)
