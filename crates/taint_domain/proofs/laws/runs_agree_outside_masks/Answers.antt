use Rattle.taint_domain.proofs.MaskLaws.{same_outside_mask}
use Rattle.taint_domain.proofs.laws.runs_agree_outside_masks.Goals as goal

pub returns : goal.returns
returns c = same_outside_mask
