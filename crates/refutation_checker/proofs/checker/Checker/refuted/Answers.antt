-- What was accepted is sound.
use Rattle.std.proofs.Common.{subst}
use Rattle.std.specs.Prelude.{◌↔◌, IsTrue}
use Rattle.cnf_core.specs.Truth.{IsUnsatisfiable}
use Rattle.refutation_checker.specs.Acceptance.{HasEmptyStep}
use Rattle.refutation_checker.specs.Derivation.{Derivation}
use Rattle.refutation_checker.specs.Checked.{derivation_of}
use Rattle.refutation_checker.proofs.AcceptanceLaws.{unsatisfiable-refuted}
use Rattle.refutation_checker.proofs.checker.Checker.refuted.Goals as goal

pub returns-clause-sound : goal.returns-clause-sound
returns-clause-sound c = λ refuted.
    subst (λ (d : Derivation). IsUnsatisfiable d.clauses) c.self.view_is
    (unsatisfiable-refuted (derivation_of c.self.inside) c.self.invariant.accepted (c.self.invariant.empty_step.0 refuted))

pub returns-clause-answer : goal.returns-clause-answer
returns-clause-answer c = subst (λ (d : Derivation). IsTrue c.self.inside.refuted ↔ HasEmptyStep d) c.self.view_is c.self.invariant.empty_step
