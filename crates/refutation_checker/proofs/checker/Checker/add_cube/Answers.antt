-- The negations of the negations are the cube.
use Rattle.std.proofs.Common.{List, map, ap, sym, ◌∙◌, subst, ◌≡◌}
use Rattle.std.specs.Prelude.{OnOk}
use Rattle.cnf_core.specs.declared.formula.Lit.{Lit}
use Rattle.cnf_core.specs.declared.derivation.Derived.TheVariants.{Cube}
use Rattle.cnf_core.specs.Literal.{negation}
use Rattle.refutation_checker.specs.Acceptance.{IsLeastConflict}
use Rattle.refutation_checker.specs.Derivation.{known, extended}
use Rattle.refutation_checker.proofs.LinesLemmas.{negations_twice}
use Rattle.refutation_checker.proofs.checker.Checker.add_cube.Goals as goal

pub add-requires : goal.add-requires
add-requires c =
    let same = ap (map negation) (c.as_slice.ensures ∙ c.in_ok-clause.ensures) ∙ negations_twice c.args.cube.now in
    subst (IsLeastConflict c.args.self.now.inputs (known c.args.self.now)) (sym same) c.requires

pub returns-clause-added : goal.returns-clause-added
returns-clause-added c =
    let same = ap (map negation) (c.as_slice.ensures ∙ c.in_ok-clause.ensures) ∙ negations_twice c.args.cube.now in
    subst (λ (lits : List Lit). OnOk c.add.result (c.add.new.self ≡ extended c.args.self.now (Cube lits))) same c.add.ensures.added
