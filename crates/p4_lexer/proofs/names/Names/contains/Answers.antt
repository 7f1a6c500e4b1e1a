use Rattle.std.proofs.Common.{◌∙◌}
use Rattle.p4_lexer.proofs.NameSetLemmas.{any_by_cmp}
use Rattle.p4_lexer.proofs.names.Names.contains.Goals as goal

pub returns : goal.returns
returns c = c.contains.ensures ∙ any_by_cmp (λ k. k.items) c.args.name.now c.args.self.now.names.keys
