use Rattle.std.proofs.Common.{◌≡◌, None, if◌then◌else◌, subst}
use Rattle.std.proofs.lemmas.Map.Text.{hash_map_updates_str}
use Rattle.std.specs.Str.{bytes_eq}
use Rattle.p4_lexer.specs.MacroTable.{number_of}
use Rattle.p4_lexer.proofs.macro_table.MacroTable.undefine.Goals as goal

pub returns-clause-numbers : goal.returns-clause-numbers
returns-clause-numbers c q =
    let t = c.args.self.now in
    subst (λ name. number_of (record t { numbers = c.remove.new.self }) q ≡ (if bytes_eq name q then None else number_of t q)) c.bytes_of-bytes.ensures
    (hash_map_updates_str c.bytes_of-bytes.result.now t.numbers c.remove.new.self None c.remove.ensures.updates q)
