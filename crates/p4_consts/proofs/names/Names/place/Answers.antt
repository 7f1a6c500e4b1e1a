use Rattle.std.proofs.Common.{sym, ◌∙◌}
use Rattle.p4_consts.proofs.NameLaws.{shown_position}
use Rattle.p4_consts.proofs.names.Names.place.Goals as goal

pub returns-clause-place : goal.returns-clause-place
returns-clause-place g c = rw (← c.self.view_is) (c.get_index_of.ensures.index ∙ sym (shown_position (λ k. k.items) c.args.name.now c.self.inside.entries.entries))
