use Rattle.p4_lexer.proofs.EventLemmas.{Comes}
use Rattle.p4_lexer.proofs.replacement.items_of.Given as goal

abbrev pub invariant-loop-event : goal.invariant-loop-event
invariant-loop-event l = Comes l.text l.events l.event-index l.table l.replacing
