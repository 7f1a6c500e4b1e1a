-- A falsified clause is a conflict, and the last pass leaves the least closed set.
use Rattle.std.proofs.Common.{◌∙◌, refl}
use Rattle.unit_propagation.specs.Plain.{AreSet}
use Rattle.unit_propagation.proofs.PlainLemmas.{grew_onward, are_set_decided, conflicts_falsified}
use Rattle.unit_propagation.proofs.FixpointLemmas.{all_set_fixed, no_conflict_fixed}
use Rattle.unit_propagation.proofs.plain.propagate.Goals as goal

pub returns-in-Conflict-clause-conflict : goal.returns-in-Conflict-clause-conflict
returns-in-Conflict-clause-conflict c =
    let clauses = c.args.clauses.now in
    let decided = c.args.assignment.now.trail in
    let grew = grew_onward clauses decided c.loop.assignment.trail c.one_pass.new.assignment.trail c.loop.invariant.grew c.in-Conflict.ensures.grew in
    let are : AreSet clauses decided c.one_pass.new.assignment.trail = grew.sound decided (are_set_decided clauses decided) in
    ((λ _. conflicts_falsified clauses decided c.one_pass.new.assignment.trail are c.in-Conflict.ensures.end), (λ _. refl))

pub loop-preserved : goal.loop-preserved
loop-preserved c = record {
  width = c.in-Changed.ensures.width ∙ c.loop.invariant.width;
  fits = c.in-Changed.ensures.fits;
  grew = grew_onward c.args.clauses.now c.args.assignment.now.trail c.loop.assignment.trail c.one_pass.new.assignment.trail c.loop.invariant.grew c.in-Changed.ensures.grew;
}

pub returns-in-Fixed-clause-conflict : goal.returns-in-Fixed-clause-conflict
returns-in-Fixed-clause-conflict c =
    let clauses = c.args.clauses.now in
    let decided = c.args.assignment.now.trail in
    let grew = grew_onward clauses decided c.loop.assignment.trail c.one_pass.new.assignment.trail c.loop.invariant.grew c.in-Fixed.ensures.grew in
    ((λ yes. cc), (λ conflicts. absurd (no_conflict_fixed clauses decided c.one_pass.new.assignment.trail grew.keeps c.in-Fixed.ensures.end conflicts)))

pub returns-in-Fixed-clause-all_set : goal.returns-in-Fixed-clause-all_set
returns-in-Fixed-clause-all_set c =
    let clauses = c.args.clauses.now in
    let decided = c.args.assignment.now.trail in
    let grew = grew_onward clauses decided c.loop.assignment.trail c.one_pass.new.assignment.trail c.loop.invariant.grew c.in-Fixed.ensures.grew in
    let are : AreSet clauses decided c.one_pass.new.assignment.trail = grew.sound decided (are_set_decided clauses decided) in
    all_set_fixed clauses decided c.one_pass.new.assignment.trail grew.keeps are c.in-Fixed.ensures.end
