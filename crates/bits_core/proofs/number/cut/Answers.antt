use Rattle.std.proofs.Common.{◌∙◌, ap}
use Rattle.std.specs.Prelude.{bit_and}
use Rattle.std.proofs.lemmas.Nat.{and_mask}
use Rattle.bits_core.proofs.number.cut.Goals as goal

pub returns : goal.returns
returns c = ap (bit_and c.args.value) c.greatest.ensures ∙ and_mask c.args.value c.args.width
