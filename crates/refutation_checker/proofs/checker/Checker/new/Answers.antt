-- The fields fit together when nothing is derived.
use Rattle.std.proofs.Common.{ℕ, length, refl, sym, ap, ◌∙◌, subst, arith}
use Rattle.std.specs.Prelude.{All}
use Rattle.std.proofs.lemmas.List.{length-map}
use Rattle.unit_propagation.specs.Units.{IsWithin}
use Rattle.refutation_checker.specs.Variables.{Numbers, width, external_clause, external_clauses}
use Rattle.refutation_checker.proofs.VariablesLemmas.{all_have}
use Rattle.refutation_checker.proofs.CheckedLemmas.{consistent_new}
use Rattle.refutation_checker.proofs.checker.Checker.new.Goals as goal

pub root_of-requires : goal.root_of-requires
root_of-requires c = all_have c.in_ok-variables.variables c.args.inputs c.as_slice-clauses.result.now c.in_ok-variables.ensures.variables

pub invariant_of-result : goal.invariant_of-result
invariant_of-result c =
    let n = c.in_ok-variables.variables in
    let clauses = c.settle-conflict.ensures.clauses in
    let root = c.in_ok-root.root in
    let names = ap (external_clauses n) clauses ∙ c.in_ok-root.ensures.clauses in
    let given = ap length (sym c.in_ok-root.ensures.clauses) ∙ length-map root.clauses (external_clause n) ∙ ap length (sym clauses) in
    consistent_new _ given c.new-evidence.ensures.items c.settle-conflict.ensures.settled c.width.ensures.numbering (c.settle-conflict.ensures.width ∙ c.in_ok-root.ensures.width)
    (subst (All (IsWithin (width n))) (sym clauses) c.in_ok-root.ensures.within) (omega (arith, c.width.ensures.is, c.in_ok-grow.ensures.grown)) (c.in_ok-grow.ensures.trail ∙ c.new-hinted.ensures.trail)
    (subst (Numbers n n.inputs) (sym names) (subst (λ (k : ℕ). Numbers n k c.as_slice-clauses.result.now) (sym c.in_ok-variables.ensures.inputs) c.in_ok-variables.ensures.variables)) refl
