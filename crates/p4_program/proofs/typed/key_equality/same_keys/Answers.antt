use Rattle.p4_program.proofs.Zips.{same_items, items_same}
use Rattle.p4_program.proofs.typed.key_equality.same_keys.Goals as goal

pub returns : goal.returns
returns c = (
  λ h. same_items c.args.one.now c.args.other.now (c.same_each.ensures.0 h),
  λ e. c.same_each.ensures.1 (items_same c.args.one.now c.args.other.now e),
)
