-- By the lemmas of the point that is made.
use Rattle.query_engine.proofs.PointLemmas.{are_places, are_zeros, ok_bits, ok_has}
use Rattle.query_engine.proofs.point.point_with.Goals as goal

pub blank-requires : goal.blank-requires
blank-requires c = are_places c.args.dag.now c.len.ensures.dag c.args.question.now.term c.args.all.now c.requires.all

pub set_bits-requires-clause-zeros : goal.set_bits-requires-clause-zeros
set_bits-requires-clause-zeros c =
    are_zeros c.args.dag.now c.len.ensures.dag c.args.question.now.term c.args.all.now c.args.vars.now c.in_ok-point.point c.requires.all
    c.requires.vars.mentioned c.in_ok-point.ensures

pub returns-clause-has : goal.returns-clause-has
returns-clause-has c =
    ok_has c.args.question.now.at c.set_bits.new.point c.fixed_at.result c.fixed_at.ensures.at c.fixed_at.ensures.reads c.fixed_at.ensures.free
    c.args.dag.now c.len.ensures.dag c.args.question.now.term c.requires.inputs c.args.all.now c.requires.all
    c.in_ok-point.point c.in_ok-point.ensures c.set_bits.ensures.keeps

pub returns-clause-bits : goal.returns-clause-bits
returns-clause-bits c =
    ok_bits c.args.question.now.at c.set_bits.new.point c.fixed_at.result c.fixed_at.ensures.at c.fixed_at.ensures.reads c.fixed_at.ensures.free
    c.args.vars.now c.args.values.now c.requires.vars.free c.set_bits.ensures.bits
