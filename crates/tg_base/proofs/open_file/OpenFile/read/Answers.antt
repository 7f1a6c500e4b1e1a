-- The file is as its place says.
use Rattle.std.proofs.Common.{rules, ◌≡◌, take, drop, ◌++◌, arith}
use Rattle.std.specs.String.{string_bytes}
use Rattle.std.proofs.lemmas.Grind.{common_steps}
use Rattle.tg_base.proofs.ReadingLemmas.{file_after_place}
use Rattle.tg_base.proofs.open_file.OpenFile.read.Goals as goal

pub returns-clause-file : goal.returns-clause-file
returns-clause-file c =
    let f = c.self.inside in
    let count = c.min-count.result in
    let moved : take count (c.copy_from_slice.new.self ++ drop count c.args.into.now) ≡ take count (drop f.at f.bytes.items)
    = search (rules, common_steps) in
    rw (← c.self.view_is) (file_after_place (string_bytes f.name) f.at count f.bytes.items f.is_ended _ moved (grind (arith, common_steps)))
