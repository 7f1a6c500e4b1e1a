-- What statements do (P4-16, "Statements"; v1model.p4).
use Rattle.std.specs.Prelude.{ℕ, ◌+◌, ◌-◌, ◌*◌, ◌^◌, ◌==◌, ⊤, Bool, true, false, ◌||◌, List, [], ◌∷◌, ◌++◌, Option, Some, None, if◌then◌else◌}
use Rattle.std.specs.List.{list_any}
use Rattle.bits_core.specs.Number.{slice_value}
use Rattle.p4_program.specs.declared.typed.paths.Path.{Path}
use Rattle.p4_program.specs.declared.typed.paths.Root.{Root}
use Rattle.p4_program.specs.declared.typed.statements.Label.{Label}
use Rattle.p4_program.specs.declared.typed.statements.Label.TheVariants.{Listed, Default}
use Rattle.p4_program.specs.declared.typed.types.Scalar.{Scalar}
use Rattle.p4_program.specs.declared.typed.types.Scalar.TheVariants.{Sized}
use Rattle.p4_program.specs.declared.typed.types.ValueType.{ValueType}
use Rattle.p4_program.specs.declared.typed.types.ValueType.TheVariants.{Simple}
use Rattle.p4_program.specs.Syntax.Expressions.{CoreExpression}
use Rattle.p4_program.specs.Syntax.Statements.{CoreArgument, CoreWork, CoreStatement, CoreStatements, CoreCases, NoStatements, Then, NoCases, Case}
use Rattle.p4_program.specs.Syntax.Statements as core
use Rattle.p4_meaning.specs.Runs.Acts.{Act, Returned, Exited, Raised, gives, stops, taking, begun, becomes, unspecified, changes, writes, with_root, with_lasts, ◌>>=◌, ◌>>◌}
use Rattle.p4_meaning.specs.Runs.Acts as act
use Rattle.p4_meaning.specs.Runs.Calls.{calls_action, applies_control, callee_of}
use Rattle.p4_meaning.specs.Runs.Checksums.{verifies_checksum, updates_checksum}
use Rattle.p4_meaning.specs.Runs.Contents.{Content, bits, number_in, bits_in, is_true, made_valid, made_invalid, uninitialised}
use Rattle.p4_meaning.specs.Runs.Expressions.{Reach, applies, evaluate, evaluate_all, paths_in, paths_in_all}
use Rattle.p4_meaning.specs.Runs.Metadata.{marked_to_drop}
use Rattle.p4_meaning.specs.Runs.Packets.{advances, extracts, emits}
use Rattle.p4_meaning.specs.Runs.Paths.{copied_over, pushed_front, popped_front}

-- ---- single statements

-- "Operations on fixed-width bit types", slices on the left: x with the bits from the high one down to the low one anew
abbrev pub with_slice : Content → (high low : ℕ) → Content → Content
with_slice x high low e = bits (bits_in x)
    (number_in x + number_in e * 2 ^ low - slice_value (number_in x) high low * 2 ^ low)

-- the type of what is drawn for a target
abbrev pub drawn_for : ValueType → Scalar
drawn_for (Simple scalar) = scalar
drawn_for _ = Sized 1

abbrev pub draws : Path → Act ⊤
draws path = taking (unspecified (drawn_for path.value_type)) >>= λ value. writes path value

-- "The verify statement": condition and error are evaluated, and the error is raised where the condition does not hold
abbrev pub verified : Bool → ℕ → Act ⊤
verified true error = gives tt
verified false error = stops (Raised error)

abbrev pub does : Reach → CoreWork → Act ⊤
-- "Assignment statement"
does Γ (core.Assign path e) = evaluate Γ e >>= λ value. writes path value
-- the value first, and then the target is read, all of it, also for a slice of the whole width
does Γ (core.AssignSlice path high low e) =
    evaluate Γ e >>= λ value. act.read path >>= λ x. writes path (with_slice x high low value)
does Γ core.Return = stops Returned
does Γ core.Exit = stops Exited
does Γ (core.CallAction n arguments) = calls_action Γ (callee_of Γ.actions n) arguments
does Γ (core.ApplyTable n) = applies Γ n >> gives tt
does Γ (core.ApplyControl n arguments) = applies_control Γ (callee_of Γ.children n) arguments
-- "Operations on headers"
does Γ (core.SetValid path) = changes path made_valid
does Γ (core.SetInvalid path) = changes path made_invalid
-- "Operations on header stacks"
does Γ (core.PushFront path count) = changes path (pushed_front count)
does Γ (core.PopFront path count) = changes path (popped_front count)
-- "Data extraction from packets"
does Γ (core.Extract path) = extracts Γ.environment path
does Γ (core.Advance count) = advances Γ.environment count
does Γ (core.Verify condition e) =
    evaluate Γ condition >>= λ holds. evaluate Γ e >>= λ error. verified (is_true holds) (number_in error)
-- "Data insertion into packets"
does Γ (core.Emit e) = evaluate Γ e >>= λ value. emits value
-- v1model.p4: counters and `log_msg` evaluate what they are given
does Γ (core.Evaluate es) = evaluate_all Γ es >> gives tt
does Γ (core.MarkToDrop path) = changes path marked_to_drop
does Γ (core.VerifyChecksum condition es sum algorithm) = verifies_checksum Γ condition es sum algorithm
does Γ (core.UpdateChecksum condition es path algorithm) = updates_checksum Γ condition es path algorithm
-- v1model.p4: the arguments, and then any value of the target's type
does Γ (core.Random path low high) = evaluate Γ low >> evaluate Γ high >> draws path
does Γ (core.ExecuteMeter index path) = evaluate Γ index >> draws path

-- ---- the paths in a statement

abbrev pub path_in : CoreArgument → List Path
path_in (core.In e) = paths_in e
path_in (core.Out path) = path ∷ []
path_in (core.InOut path) = path ∷ []

abbrev pub paths_passed : List CoreArgument → List Path
paths_passed [] = []
paths_passed (a ∷ arguments) = path_in a ++ paths_passed arguments

abbrev pub paths_of : CoreWork → List Path
paths_of (core.Assign path e) = path ∷ paths_in e
paths_of (core.AssignSlice path high low e) = path ∷ paths_in e
paths_of core.Return = []
paths_of core.Exit = []
paths_of (core.CallAction n arguments) = paths_passed arguments
paths_of (core.ApplyTable n) = []
paths_of (core.ApplyControl n arguments) = paths_passed arguments
paths_of (core.SetValid path) = path ∷ []
paths_of (core.SetInvalid path) = path ∷ []
paths_of (core.PushFront path count) = path ∷ []
paths_of (core.PopFront path count) = path ∷ []
paths_of (core.Extract path) = path ∷ []
paths_of (core.Advance count) = []
paths_of (core.Verify condition e) = paths_in condition ++ paths_in e
paths_of (core.Emit e) = paths_in e
paths_of (core.Evaluate es) = paths_in_all es
paths_of (core.MarkToDrop path) = path ∷ []
paths_of (core.VerifyChecksum condition es sum algorithm) = paths_in condition ++ paths_in_all es ++ paths_in sum
paths_of (core.UpdateChecksum condition es path algorithm) = path ∷ paths_in condition ++ paths_in_all es
paths_of (core.Random path low high) = path ∷ paths_in low ++ paths_in high
paths_of (core.ExecuteMeter index path) = path ∷ paths_in index

-- ---- declarations

-- a declared variable is new, and holds the value of its initialiser
abbrev pub declared : Root → Content → Act ⊤
declared root content = becomes (with_root root (λ old. content))

abbrev pub initialised : Reach → Root → ValueType → Option CoreExpression → Act ⊤
initialised Γ root t None = declared root (uninitialised Γ.environment.program t)
initialised Γ root t (Some e) = with_lasts (paths_in e)
    (evaluate Γ e >>= λ value. declared root (copied_over value (uninitialised Γ.environment.program t)))

-- ---- "Switch statement"

abbrev pub same_label : Label → Label → Bool
same_label (Listed m) (Listed n) = m == n
same_label Default Default = true
same_label _ _ = false

abbrev pub is_labelled : Label → CoreCases → Bool
is_labelled label NoCases = false
is_labelled label (Case labels body rest) = list_any (same_label label) labels || is_labelled label rest

-- the label of the action that ran decides wherever it stands, and `default` only where there is none
abbrev pub label_for : Option ℕ → CoreCases → Label
label_for None cases = Default
label_for (Some place) cases = if is_labelled (Listed place) cases then Listed place else Default

-- ---- statements one after another

abbrev mutual
  -- a numbered statement has its mark as soon as it is begun, whatever then fails in it
  pub runs : Reach → CoreStatement → Act ⊤
  runs Γ (core.Numbered number place work) = begun number (with_lasts (paths_of work) (does Γ work))
  runs Γ (core.Declare root t value) = initialised Γ root t value
  -- "Conditional statement"
  runs Γ (core.If place condition a b) =
      evaluate Γ condition >>= λ holds. if is_true holds then runs_all Γ a else runs_all Γ b
  runs Γ (core.Switch table cases) = applies Γ table >>= λ applied. runs_case Γ cases (label_for applied.ran cases)

  pub runs_all : Reach → CoreStatements → Act ⊤
  runs_all Γ NoStatements = gives tt
  runs_all Γ (Then statement rest) = runs Γ statement >> runs_all Γ rest

  -- the body of the first case that has the label, if one has
  pub runs_case : Reach → CoreCases → Label → Act ⊤
  runs_case Γ NoCases label = gives tt
  runs_case Γ (Case labels body rest) label =
      if list_any (same_label label) labels then runs_all Γ body else runs_case Γ rest label
