use Rattle.std.proofs.Common.{ℕ, List, sym, ap, ◌∙◌}
use Rattle.std.specs.List.{position}
use Rattle.std.specs.Str.{bytes_eq}
use Rattle.p4_consts.proofs.MemberLaws.{position_of_name}
use Rattle.p4_consts.proofs.members.error_number.Goals as goal

pub returns : goal.returns
returns c =
    c.position.ensures
    ∙ (ap (λ (text : List ℕ). position {X = List ℕ × Unit {0}} (λ e. bytes_eq e.0 text) c.args.scope.now.errors) c.as_slice.ensures
    ∙ sym (position_of_name c.args.scope.now.errors c.args.name.now.text))
