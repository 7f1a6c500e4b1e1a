use Rattle.std.proofs.Common.{sym, ◌∙◌}
use Rattle.p4_consts.proofs.NameLaws.{shown_lookup}
use Rattle.p4_consts.proofs.names.Names.find.Goals as goal

pub returns : goal.returns
returns g c = rw (← c.self.view_is) (c.get.ensures.value ∙ sym (shown_lookup (λ k. k.items) c.args.name.now c.self.inside.entries.entries))
