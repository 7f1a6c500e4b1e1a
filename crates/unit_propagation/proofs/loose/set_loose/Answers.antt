-- One clause more has a true literal, and those before it keep theirs.
use Rattle.std.proofs.Common.{◌<◌, ◌+◌, [], ℕ, List, length, take, refl, sym, ◌∙◌, subst, arith}
use Rattle.std.specs.Prelude.{All, Any, Contains}
use Rattle.std.proofs.lemmas.List.{take_all, get_or_default}
use Rattle.cnf_core.specs.declared.formula.Lit.{Lit}
use Rattle.unit_propagation.specs.Units.{IsFalse}
use Rattle.unit_propagation.specs.Loose.{IsLoose, AreTrue, IsSettled}
use Rattle.unit_propagation.proofs.TrailLemmas.{implies_none, implies_then}
use Rattle.unit_propagation.proofs.LooseLemmas.{next_loose, settled_grows, settled_whole, true_push, are_true_grows}
use Rattle.unit_propagation.proofs.loose.set_loose.Goals as goal

pub loop-loose-init : goal.loop-loose-init
loop-loose-init c = record {
  width = refl;
  numbers = refl;
  implies = implies_none c.args.watched.now.clauses c.args.assignment.now.trail c.args.assignment.now.causes;
  settled = c.requires.settled;
}

pub is_falsified-requires-clause-loose : goal.is_falsified-requires-clause-loose
is_falsified-requires-clause-loose c =
    next_loose c.args.watched.now.clauses c.args.loose.now c.loop-loose.loose c.index-number.result.now c.loop-loose.invariant.numbers (omega (arith, c.loop-loose-test.true, c.len.ensures)) c.index-number.ensures c.requires.loose

pub returns-then-is_falsified-clause-implies : goal.returns-then-is_falsified-clause-implies
returns-then-is_falsified-clause-implies c =
    implies_then c.args.watched.now.clauses c.args.assignment.now.trail c.loop-loose.assignment.trail c.is_falsified.new.assignment.trail c.args.assignment.now.causes c.loop-loose.assignment.causes c.is_falsified.new.assignment.causes
    c.loop-loose.invariant.implies c.if-is_falsified.ensures.implies

pub returns-then-is_falsified-clause-falsified : goal.returns-then-is_falsified-clause-falsified
returns-then-is_falsified-clause-falsified c =
    let n = c.index-number.result.now in
    let loose = next_loose c.args.watched.now.clauses c.args.loose.now c.loop-loose.loose c.index-number.result.now c.loop-loose.invariant.numbers (omega (arith, c.loop-loose-test.true, c.len.ensures)) c.index-number.ensures c.requires.loose in
    (loose.0, λ clause. subst (All (IsFalse c.is_falsified.new.assignment.trail)) (get_or_default c.args.watched.now.clauses n [] clause loose.0) c.if-is_falsified.ensures.falsified)

pub returns-then-is_falsified-clause-settled : goal.returns-then-is_falsified-clause-settled
returns-then-is_falsified-clause-settled c =
    let implies = c.if-is_falsified.ensures.implies in
    subst (λ (t : List Lit). IsSettled c.args.watched.now.clauses t c.loop-loose.loose) (sym implies.trail)
    (settled_grows c.args.watched.now.clauses c.loop-loose.assignment.trail implies.more c.loop-loose.loose c.loop-loose.invariant.settled)

pub loop-loose-preserved : goal.loop-loose-preserved
loop-loose-preserved c =
    let clauses = c.args.watched.now.clauses in
    let loose = c.loop-loose.loose in
    let n = c.index-number.result.now in
    let inv = c.loop-loose.invariant in
    let after = c.if-is_falsified.ensures in
    let new = c.is_falsified.new.assignment in
    let here : loose.settled < length loose.numbers.items = omega (arith, c.loop-loose-test.true, c.len.ensures, loose.numbers.ok.0) in
    let is : IsLoose clauses n =
    next_loose c.args.watched.now.clauses c.args.loose.now c.loop-loose.loose c.index-number.result.now c.loop-loose.invariant.numbers (omega (arith, c.loop-loose-test.true, c.len.ensures)) c.index-number.ensures c.requires.loose in
    let before : AreTrue clauses (take loose.settled loose.numbers.items) new.trail =
    subst (AreTrue clauses (take loose.settled loose.numbers.items)) (sym after.implies.trail)
    (are_true_grows clauses (take loose.settled loose.numbers.items) c.loop-loose.assignment.trail after.implies.more (settled_whole clauses c.loop-loose.assignment.trail loose inv.settled)) in
    record {
      width = after.width ∙ inv.width;
      numbers = inv.numbers;
      implies = implies_then clauses c.args.assignment.now.trail c.loop-loose.assignment.trail new.trail c.args.assignment.now.causes c.loop-loose.assignment.causes new.causes inv.implies after.implies;
      settled = record {
        within = omega arith;
        inside = omega (arith, c.count-loose.ensures.count);
        are_true = subst (AreTrue clauses (take (loose.settled + 1) loose.numbers.items)) (sym (take_all c.count-loose.result new.trail (omega (arith, c.count-loose.ensures.count))))
            (true_push clauses new.trail loose.numbers.items loose.settled n here c.index-number.ensures before
            (λ clause. subst (Any (Contains new.trail)) (get_or_default clauses n [] clause is.0) after.is_true));
      };
    }

pub returns-clause-are_true : goal.returns-clause-are_true
returns-clause-are_true c =
    let loose = c.loop-loose.loose in
    let trail = c.loop-loose.assignment.trail in
    subst (λ (ls : List ℕ). AreTrue c.args.watched.now.clauses ls trail) (take_all loose.settled loose.numbers.items (omega (arith, c.loop-loose-test.false, c.len.ensures, loose.numbers.ok.0)))
    (settled_whole c.args.watched.now.clauses trail loose c.loop-loose.invariant.settled)
