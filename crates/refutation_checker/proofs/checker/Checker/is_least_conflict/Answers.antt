-- The root's clauses are the known ones, and a conflict under no decision refuses each cube.
use Rattle.std.proofs.Common.{ℕ, false, refl, subst}
use Rattle.std.specs.Prelude.{◌↔◌, IsTrue}
use Rattle.refutation_checker.specs.Acceptance.{IsLeastConflict}
use Rattle.refutation_checker.specs.Derivation.{Derivation, known}
use Rattle.refutation_checker.proofs.CheckedLemmas.{consistent_kept, least_answer, least_none}
use Rattle.refutation_checker.proofs.checker.Checker.is_least_conflict.Goals as goal

pub returns-then-self-clause-answer : goal.returns-then-self-clause-answer
returns-then-self-clause-answer c =
    let cube = c.args.cube.now in
    subst (λ (d : Derivation). IsTrue false ↔ IsLeastConflict d.inputs (known d) cube) c.self.view_is
    (least_answer c.self.inside cube false c.self.invariant ((λ yes. absurd (cc)), (λ least. absurd (least_none c.self.inside cube c.self.invariant c.if-self.true least))))

pub invariant_of-self : goal.invariant_of-self
invariant_of-self c = consistent_kept c.self.inside c.is_least_conflict.new.root c.self.inside.evidence c.self.invariant c.is_least_conflict.ensures.stays refl

pub returns-clause-answer : goal.returns-clause-answer
returns-clause-answer c =
    let cube = c.args.cube.now in
    subst (λ (d : Derivation). IsTrue c.is_least_conflict.result ↔ IsLeastConflict d.inputs (known d) cube) c.self.view_is
    (least_answer c.self.inside cube c.is_least_conflict.result c.self.invariant
    (subst (λ (n : ℕ). IsTrue c.is_least_conflict.result ↔ IsLeastConflict n c.self.inside.root.clauses cube) c.inputs.ensures c.is_least_conflict.ensures.answer))
