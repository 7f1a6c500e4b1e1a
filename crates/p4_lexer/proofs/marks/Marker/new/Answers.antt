use Rattle.p4_lexer.proofs.MarkingLemmas.{follows_start}
use Rattle.p4_lexer.proofs.marks.Marker.new.Goals as goal

pub returns-clause-follows : goal.returns-clause-follows
returns-clause-follows c = follows_start (record { tokens = c.new.result; kept = c.new-2.result; types = c.new-3.result }) c.new.ensures c.new-2.ensures c.new-3.ensures
