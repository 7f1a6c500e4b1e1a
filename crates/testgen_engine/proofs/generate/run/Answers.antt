use Rattle.std.proofs.Common.{map, string_bytes}
use Rattle.testgen_engine.proofs.EndLemmas.{usage_ends, reads_asked}
use Rattle.testgen_engine.proofs.generate.run.Goals as goal

pub returns-in-None-clause-ends : goal.returns-in-None-clause-ends
returns-in-None-clause-ends g c =
    usage_ends _ _ (map string_bytes c.args.words.now) c.in-None.ensures c.tell_usage.ensures.stays c.tell_usage.result c.tell_usage.ensures.told c.tell_usage.ensures.writes

pub returns-in-None-clause-reads : goal.returns-in-None-clause-reads
returns-in-None-clause-reads g c name b asks = absurd (c.in-None.ensures name b asks)

pub returns-in-None-clause-told : goal.returns-in-None-clause-told
returns-in-None-clause-told g c = g.met.D.Desk.tells_truly c.tell_usage.new.desk

pub returns-in-Some-clause-ends : goal.returns-in-Some-clause-ends
returns-in-Some-clause-ends g c = c.generate.ensures.ends (map string_bytes c.args.words.now) c.in-Some.ensures

pub returns-in-Some-clause-reads : goal.returns-in-Some-clause-reads
returns-in-Some-clause-reads g c name b asks =
    reads_asked _ _ (map string_bytes c.args.words.now) _ name _ b c.in-Some.ensures asks c.generate.ensures.reads

pub returns-in-Some-clause-nothing_read : goal.returns-in-Some-clause-nothing_read
returns-in-Some-clause-nothing_read g c none = absurd (none _ _ c.in-Some.ensures)

pub returns-in-Some-clause-told : goal.returns-in-Some-clause-told
returns-in-Some-clause-told g c = g.met.D.Desk.tells_truly c.generate.new.desk
