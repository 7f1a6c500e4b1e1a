use Rattle.bits_core.proofs.WidthLaws.{ones_shr_complement}
use Rattle.bits_core.proofs.number.greatest.Goals as goal

pub returns : goal.returns
returns c = ones_shr_complement 128 c.args.width c.requires.at_most_widest
