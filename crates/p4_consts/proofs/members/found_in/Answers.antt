use Rattle.std.proofs.Common.{◌≡◌, ap, sym, ◌∙◌}
use Rattle.std.specs.Map.{lookup}
use Rattle.std.specs.Option.{option_map}
use Rattle.std.specs.Str.{bytes_eq}
use Rattle.p4_consts.specs.Meanings.{meaning_of}
use Rattle.p4_consts.proofs.MemberLaws.{told_member}
use Rattle.p4_consts.proofs.members.found_in.Goals as goal

pub returns : goal.returns
returns c =
    let found : c.copied.result ≡ lookup (λ other. bytes_eq other c.args.name.now) c.args.members.now = cc in
    ap (option_map meaning_of) found ∙ sym (told_member c.args.members.now c.args.name.now)
