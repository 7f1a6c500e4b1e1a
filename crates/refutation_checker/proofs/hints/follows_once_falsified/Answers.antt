-- With the clause false the hints conflict over the variables' own numbers where they do over the internal ones.
use Rattle.std.proofs.Common.{◌≡◌, List, map, refl, ap, subst, sym, ◌∙◌}
use Rattle.cnf_core.specs.declared.formula.Lit.{Lit}
use Rattle.cnf_core.specs.Literal.{negation}
use Rattle.refutation_checker.specs.Hints.{HintsConflict}
use Rattle.refutation_checker.specs.Variables.{IsApartAmong, width, external, external_clause, external_clauses}
use Rattle.refutation_checker.proofs.RenamingLemmas.{hints_renamed}
use Rattle.refutation_checker.proofs.VariablesLemmas.{one_to_one}
use Rattle.refutation_checker.proofs.hints.follows_once_falsified.Goals as goal

pub returns-clause-answer : goal.returns-clause-answer
returns-clause-answer c =
    let n = c.args.variables.now in
    let clauses = c.args.root.now.clauses in
    let step = c.args.step.now in
    let falsified = c.if-not-falsify.ensures in
    let trail = c.falsify.new.assignment.trail in
    let both = hints_renamed (external n) (width n) clauses trail step.hints (one_to_one n c.requires.numbering) c.requires.within falsified.within in
    let among = subst (IsApartAmong n) c.as_slice-clause.ensures (falsified.answer.0 refl) in
    let names : external_clause n trail ≡ map negation step.clause = falsified.trail ∙ ap (map negation) c.as_slice-clause.ensures in
    let over = λ (t : List Lit). HintsConflict (external_clauses n clauses) t step.hints in (
      (λ holds. (among, subst over names (both.0 (subst (HintsConflict clauses trail) c.as_slice-hints.ensures (c.hints_conflict.ensures.answer.0 holds))))),
      (λ follows. c.hints_conflict.ensures.answer.1 (subst (HintsConflict clauses trail) (sym c.as_slice-hints.ensures) (both.1 (subst over (sym names) follows.1)))),
    )
