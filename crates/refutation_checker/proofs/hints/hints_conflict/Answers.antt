-- Each hint moves the question to the hints after it.
use Rattle.std.proofs.Common.{◌≡◌, ◌+◌, ◌∷◌, List, subst, sym, ◌∙◌, add-one, get_or, drop, drop-cons}
use Rattle.cnf_core.specs.declared.formula.Lit.{Lit}
use Rattle.refutation_checker.specs.Hints.{HintsConflict}
use Rattle.refutation_checker.proofs.HintsLemmas.{hint-onward, hint-back, hint-other}
use Rattle.refutation_checker.proofs.hints.hints_conflict.Goals as goal

pub returns-in-Other-clause-answer : goal.returns-in-Other-clause-answer
returns-in-Other-clause-answer c =
    let hints = c.args.hints.now in
    let i = c.loop-hint.hint-index in
    let trail = c.loop-hint.assignment.trail in
    let here : drop i hints ≡ get_or hints i 0 ∷ drop (i + 1) hints = rw add-one (drop-cons hints i 0 c.loop-hint-test.true) in
    let none : HintsConflict c.args.root.now.clauses trail (drop i hints) → ⊥ =
    λ all. hint-other c.args.root.now.clauses trail (get_or hints i 0) (drop (i + 1) hints) c.in-Other.ensures
    (subst (HintsConflict c.args.root.now.clauses trail) here all) in
    ((λ yes. cc), (λ all. absurd (none (c.loop-hint.invariant.back all))))

pub loop-hint-preserved : goal.loop-hint-preserved
loop-hint-preserved c =
    let clauses = c.args.root.now.clauses in
    let hints = c.args.hints.now in
    let i = c.loop-hint.hint-index in
    let trail = c.loop-hint.assignment.trail in
    let here : drop i hints ≡ get_or hints i 0 ∷ drop (i + 1) hints = rw add-one (drop-cons hints i 0 c.loop-hint-test.true) in
    let after = c.set.ensures.trail in
    record {
      width = c.set.ensures.width ∙ c.loop-hint.invariant.width;
      onward = λ rest. c.loop-hint.invariant.onward (subst (HintsConflict clauses trail) (sym here)
          (hint-onward clauses trail (get_or hints i 0) (drop (i + 1) hints) c.in-Unit.l c.in-Unit.ensures
          (subst (λ (t : List Lit). HintsConflict clauses t (drop (i + 1) hints)) after rest)));
      back = λ all. subst (λ (t : List Lit). HintsConflict clauses t (drop (i + 1) hints)) (sym after)
          (hint-back clauses trail (get_or hints i 0) (drop (i + 1) hints) c.in-Unit.l c.in-Unit.ensures
          (subst (HintsConflict clauses trail) here (c.loop-hint.invariant.back all)));
    }
