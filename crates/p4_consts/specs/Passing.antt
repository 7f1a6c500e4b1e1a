-- What is passed for parameters: which paths fit, and the arguments in a row.
use Rattle.std.specs.Prelude.{Bool, List, [], ◌∷◌, ◌++◌, Option, None, Some}
use Rattle.p4_tree.specs.declared.declarations.Direction.{Direction}
use Rattle.p4_tree.specs.declared.declarations.Direction.TheVariants as direction
use Rattle.p4_program.specs.Syntax.Statements.{CoreArgument}
use Rattle.p4_program.specs.Syntax.Statements as work
use Rattle.p4_rules.specs.Faults.{Checked, made_of}
use Rattle.p4_rules.specs.Scopes.{Scope}
use Rattle.p4_rules.specs.Things.{Judged}
use Rattle.p4_rules.specs.declared.types.SourceType.{SourceType}
use Rattle.p4_rules.specs.Callees.{is_header, is_metadata, passed_in, path_passed}
use Rattle.p4_rules.specs.Types.{is_sized, same_type}
use Rattle.p4_consts.specs.declared.passing.TypeTest.{TypeTest}
use Rattle.p4_consts.specs.declared.passing.TypeTest.TheVariants as test

-- what the type of a path that is passed has to be
abbrev pub test_of : TypeTest → SourceType → Bool
test_of test.Header = is_header
test_of test.Metadata = is_metadata
test_of test.Sized = is_sized
test_of (test.Same u) = same_type u

-- what is passed for a parameter that is no packet
abbrev pub directed_value : Scope → Option Direction → SourceType → Judged → Checked (Option CoreArgument)
directed_value Γ (Some direction.Out) t a = made_of (λ p. Some (work.Out p)) (path_passed Γ (same_type t) a)
directed_value Γ (Some direction.InOut) t a = made_of (λ p. Some (work.InOut p)) (path_passed Γ (same_type t) a)
directed_value Γ (Some direction.In) t a = made_of (λ e. Some (work.In e)) (passed_in Γ t a)
directed_value Γ None t a = made_of (λ e. Some (work.In e)) (passed_in Γ t a)

-- one more argument behind those of a row, where it is passed in a run
abbrev pub with_argument : {X : Type 0} → Option (List X) → Option (Option X) → Option (List X)
with_argument None last = None
with_argument (Some arguments) None = None
with_argument (Some arguments) (Some None) = Some arguments
with_argument (Some arguments) (Some (Some last)) = Some (arguments ++ last ∷ [])
