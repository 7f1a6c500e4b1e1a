use Rattle.std.proofs.Common.{◌||◌, ap, ◌∙◌}
use Rattle.std.specs.List.{list_any}
use Rattle.std.specs.Str.{bytes_eq}
use Rattle.p4_lexer.specs.Names.{has}
use Rattle.p4_lexer.proofs.NameSetLemmas.{any_insert}
use Rattle.p4_lexer.proofs.names.Names.insert.Goals as goal

pub returns : goal.returns
returns c = λ other.
    ap (list_any (λ k. bytes_eq other k.items)) c.in_ok-insert.ensures.keys
    ∙ any_insert (λ k. k.items) other c.in_ok-owned.owned c.args.self.now.names.keys
    ∙ ap (λ name. bytes_eq other name || has c.args.self.now other) c.in_ok-owned.ensures.items
