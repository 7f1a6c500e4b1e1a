-- A line that follows keeps the fields fitting, and a growth that was refused changes nothing in them.
use Rattle.std.proofs.Common.{◌++◌, ◌∷◌, [], ◌⊎◌, true, List, inl, inr, refl, ap, sym, ◌∙◌, subst}
use Rattle.std.specs.Prelude.{◌↔◌, ℕ, IsTrue, All}
use Rattle.std.proofs.lemmas.Bool.{both_ways}
use Rattle.cnf_core.specs.declared.formula.Lit.{Lit}
use Rattle.cnf_core.specs.Propagation.{Conflicts}
use Rattle.unit_propagation.specs.Propagation.{Propagation}
use Rattle.unit_propagation.specs.Units.{IsWithin}
use Rattle.unit_propagation.proofs.PropagationLaws.{conflicts_clauses}
use Rattle.refutation_checker.specs.Derivation.{Derivation, extended}
use Rattle.refutation_checker.specs.Acceptance.{MayFollow, IsEmptyStep}
use Rattle.refutation_checker.specs.Lines.{line_of}
use Rattle.refutation_checker.specs.Checked.{derivation_of}
use Rattle.refutation_checker.specs.Variables.{HasVariable}
use Rattle.refutation_checker.specs.declared.evidence.Evidence.{Evidence}
use Rattle.refutation_checker.proofs.LinesLemmas.{clause_of_line}
use Rattle.refutation_checker.proofs.CheckedLemmas.{consistent_extended, derivation_extended, consistent_kept, line_has}
use Rattle.refutation_checker.proofs.checker.Checker.add.Goals as goal

pub internal_clause-requires : goal.internal_clause-requires
internal_clause-requires c =
    let a = c.self.inside in
    let line = line_of c.args.clause.now c.args.evidence in
    let may = subst (λ (d : Derivation). MayFollow d line) (sym c.self.view_is) c.requires in
    subst (All (λ (l : Lit). HasVariable a.variables l.var)) (clause_of_line c.args.clause.now c.args.evidence)
    (line_has (derivation_of a) a.variables line c.self.invariant.variables may)

pub add_clause-requires : goal.add_clause-requires
add_clause-requires c =
    subst (λ (n : ℕ). IsWithin n c.in_ok-clause.clause) (sym c.self.invariant.root_width) c.in_ok-clause.ensures.within

pub invariant_of-self-in_err-add_clause : goal.invariant_of-self-in_err-add_clause
invariant_of-self-in_err-add_clause c =
    consistent_kept c.self.inside c.add_clause.new.self c.reserve.new.self c.self.invariant c.in_err-add_clause.ensures.kept c.in_ok-reserve.ensures.items

pub settle-self-inside-requires-clause-conflicts : goal.settle-self-inside-requires-clause-conflicts
settle-self-inside-requires-clause-conflicts c = λ yes.
    let a = c.self.inside in
    subst (λ (cs : List (List Lit)). Conflicts cs []) (sym (ap (λ (p : Propagation). p.clauses) c.in_ok-add_clause.ensures.added))
    (conflicts_clauses a.root.clauses (c.in_ok-clause.clause ∷ []) [] (c.self.invariant.root.conflicts yes))

pub invariant_of-self-then-refutes : goal.invariant_of-self-then-refutes
invariant_of-self-then-refutes c =
    let a = c.self.inside in
    let line = line_of c.args.clause.now c.args.evidence in
    let may = subst (λ (d : Derivation). MayFollow d line) (sym c.self.view_is) c.requires in
    let empty = c.is_empty_step-refutes.ensures.0 c.if-refutes.true in
    let now : IsTrue true ↔ (IsTrue a.refuted ⊎ IsEmptyStep line) = ((λ _. inr empty), (λ _. refl)) in
    consistent_extended a c.settle-self-inside.new.root c.settle-self-inside.result c.push_reserved.new.self true c.in_ok-clause.clause c.args.clause.now c.args.evidence c.self.invariant may c.in_ok-clause.ensures.is c.in_ok-clause.ensures.within
    (c.settle-self-inside.ensures.clauses ∙ ap (λ (p : Propagation). p.clauses) c.in_ok-add_clause.ensures.added)
    (c.settle-self-inside.ensures.width ∙ ap (λ (p : Propagation). p.width) c.in_ok-add_clause.ensures.added) c.settle-self-inside.ensures.settled
    (c.push_reserved.ensures.items ∙ ap (λ (es : List Evidence). es ++ c.args.evidence ∷ []) c.in_ok-reserve.ensures.items) now

pub invariant_of-self-else-refutes : goal.invariant_of-self-else-refutes
invariant_of-self-else-refutes c =
    let a = c.self.inside in
    let line = line_of c.args.clause.now c.args.evidence in
    let may = subst (λ (d : Derivation). MayFollow d line) (sym c.self.view_is) c.requires in
    let not_empty : IsEmptyStep line → IsTrue a.refuted = λ empty. absurd (both_ways c.is_empty_step-refutes.result c.if-refutes.false (c.is_empty_step-refutes.ensures.1 empty)) in
    let now : IsTrue a.refuted ↔ (IsTrue a.refuted ⊎ IsEmptyStep line) = ((λ h. inl h), (λ h. elim h [ inl was ↦ was | inr empty ↦ not_empty empty ])) in
    consistent_extended a c.settle-self-inside.new.root c.settle-self-inside.result c.push_reserved.new.self a.refuted c.in_ok-clause.clause c.args.clause.now c.args.evidence c.self.invariant may c.in_ok-clause.ensures.is c.in_ok-clause.ensures.within
    (c.settle-self-inside.ensures.clauses ∙ ap (λ (p : Propagation). p.clauses) c.in_ok-add_clause.ensures.added)
    (c.settle-self-inside.ensures.width ∙ ap (λ (p : Propagation). p.width) c.in_ok-add_clause.ensures.added) c.settle-self-inside.ensures.settled
    (c.push_reserved.ensures.items ∙ ap (λ (es : List Evidence). es ++ c.args.evidence ∷ []) c.in_ok-reserve.ensures.items) now

pub returns-then-refutes-clause-added : goal.returns-then-refutes-clause-added
returns-then-refutes-clause-added c =
    let line = line_of c.args.clause.now c.args.evidence in
    derivation_extended c.self.inside c.settle-self-inside.new.root c.settle-self-inside.result c.push_reserved.new.self true c.in_ok-clause.clause c.args.clause.now c.args.evidence c.self.invariant c.in_ok-clause.ensures.is
    (c.settle-self-inside.ensures.clauses ∙ ap (λ (p : Propagation). p.clauses) c.in_ok-add_clause.ensures.added)
    (c.push_reserved.ensures.items ∙ ap (λ (es : List Evidence). es ++ c.args.evidence ∷ []) c.in_ok-reserve.ensures.items)
    ∙ ap (λ (d : Derivation). extended d line) c.self.view_is

pub returns-else-refutes-clause-added : goal.returns-else-refutes-clause-added
returns-else-refutes-clause-added c =
    let line = line_of c.args.clause.now c.args.evidence in
    derivation_extended c.self.inside c.settle-self-inside.new.root c.settle-self-inside.result c.push_reserved.new.self c.self.inside.refuted c.in_ok-clause.clause c.args.clause.now c.args.evidence c.self.invariant c.in_ok-clause.ensures.is
    (c.settle-self-inside.ensures.clauses ∙ ap (λ (p : Propagation). p.clauses) c.in_ok-add_clause.ensures.added)
    (c.push_reserved.ensures.items ∙ ap (λ (es : List Evidence). es ++ c.args.evidence ∷ []) c.in_ok-reserve.ensures.items)
    ∙ ap (λ (d : Derivation). extended d line) c.self.view_is
