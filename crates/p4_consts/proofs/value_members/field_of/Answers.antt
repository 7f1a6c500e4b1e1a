use Rattle.std.proofs.Common.{sym, Some}
use Rattle.p4_consts.proofs.MemberLaws.{field_at}
use Rattle.p4_consts.proofs.value_members.field_of.Goals as goal

pub returns : goal.returns
returns c =
    sym (field_at c.args.fields.now c.args.name.now c.in_ok-place.place (Some c.in_ok-t.t.now) (sym c.in_ok-place.ensures) (sym c.in_ok-t.ensures))
