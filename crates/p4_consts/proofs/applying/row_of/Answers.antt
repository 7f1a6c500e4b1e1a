use Rattle.std.proofs.Common.{[], ◌∷◌, ◌++◌, ap, ◌∙◌}
use Rattle.p4_consts.proofs.AppliedLaws.{operation_is}
use Rattle.p4_consts.proofs.applying.row_of.Goals as goal

pub returns : goal.returns
returns c =
    operation_is c.in_ok-new.field-0 c.push.new.self c.args.first c.args.more c.in_ok-new.ensures.ok
    (c.in_ok-push.ensures.items ∙ ap (λ row. row ++ c.args.more ∷ []) c.new-rest.ensures.items)
