-- What is told of a substitution, as one fact.
use Rattle.std.proofs.Common.{refl}
use Rattle.query_engine.proofs.AboutLemmas.{ok_is_left}
use Rattle.query_engine.proofs.clauses.left_of.Goals as goal

pub returns-clause-left : goal.returns-clause-left
returns-clause-left c =
    let s = c.substitute.ensures in
    ok_is_left c.args.dag.now c.substitute.new.self c.len.ensures.dag s.keeps c.args.question.now.term c.requires c.in_ok-fixed.fixed
    c.substitute.result (s.older c.args.question.now.term c.requires).1 s.within s.width s.value s.bits s.no_fixed_bit s.reads s.no_fixed_read
    c.args.question.now refl c.in_ok-fixed.ensures.is
