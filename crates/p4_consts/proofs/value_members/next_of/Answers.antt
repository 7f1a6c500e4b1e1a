use Rattle.std.proofs.Common.{ap, ◌∙◌, Some}
use Rattle.p4_program.specs.declared.typed.paths.Step.TheVariants as step
use Rattle.p4_rules.specs.declared.types.SourceType.TheVariants.{Header}
use Rattle.p4_rules.specs.Things.{NextOf, step_on}
use Rattle.p4_consts.proofs.value_members.next_of.Goals as goal

pub returns-in_ok-path-in-Stored-clause-value : goal.returns-in_ok-path-in-Stored-clause-value
returns-in_ok-path-in-Stored-clause-value c =
    let path = c.in_ok-path-in-Stored.ensures ∙ ap (λ t. step_on step.Next t c.in-Stored.path) (c.value_type.ensures c.args.pass) in
    rw c.in-Stored.is (ap (λ p. Some (NextOf (Header c.args.number) c.in-Stored.writable p)) path)
