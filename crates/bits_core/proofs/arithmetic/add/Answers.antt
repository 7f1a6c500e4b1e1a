use Rattle.std.proofs.Common.{◌∙◌, ◌+◌}
use Rattle.bits_core.proofs.WidthLaws.{mod_mod_wider}
use Rattle.bits_core.proofs.arithmetic.add.Goals as goal

pub returns-clause-value : goal.returns-clause-value
returns-clause-value c =
    c.cut.ensures ∙ mod_mod_wider (c.args.a.value + c.args.b.value) c.args.a.width 128 c.args.a.at_most_widest
