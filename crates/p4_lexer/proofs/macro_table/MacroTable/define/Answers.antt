use Rattle.std.proofs.Common.{◌≡◌, Some, if◌then◌else◌, subst}
use Rattle.std.proofs.lemmas.Map.Text.{hash_map_updates_str}
use Rattle.std.specs.Str.{bytes_eq}
use Rattle.p4_lexer.specs.Extents.{bytes_at}
use Rattle.p4_lexer.specs.MacroTable.{number_of}
use Rattle.p4_lexer.proofs.macro_table.MacroTable.define.Goals as goal

pub returns-in-Ok-clause-numbers : goal.returns-in-Ok-clause-numbers
returns-in-Ok-clause-numbers c q =
    let t = c.args.self.now in
    subst (λ n. number_of (record t { definitions = c.push.new.self; numbers = c.insert.new.self }) q ≡ (if bytes_eq (bytes_at t.text.now c.args.name) q then Some n else number_of t q)) c.len-number.ensures
    (subst (λ name. number_of (record t { definitions = c.push.new.self; numbers = c.insert.new.self }) q ≡ (if bytes_eq name q then Some c.len-number.result else number_of t q)) c.bytes_of-bytes.ensures
    (hash_map_updates_str c.bytes_of-bytes.result.now t.numbers c.insert.new.self (Some c.len-number.result) c.in-Ok.ensures.updates q))
