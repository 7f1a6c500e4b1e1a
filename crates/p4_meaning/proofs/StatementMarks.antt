-- The marks of statements: each is the number of one of them, or a mark of what they call.
use Rattle.std.proofs.Common.{ℕ, Bool, true, false, List, Option, Some, None}
use Rattle.std.specs.Prelude.{⊤, ◌==◌, nat_le, if◌then◌else◌}
use Rattle.std.specs.List.{list_any}
use Rattle.p4_program.specs.declared.typed.paths.Path.{Path}
use Rattle.p4_program.specs.declared.typed.paths.Root.{Root}
use Rattle.p4_program.specs.declared.typed.paths.Step.{Step}
use Rattle.p4_program.specs.declared.typed.statements.Label.{Label}
use Rattle.p4_program.specs.declared.typed.types.ValueType.{ValueType}
use Rattle.p4_program.specs.Syntax.Expressions.{CoreExpression}
use Rattle.p4_program.specs.Syntax.Numbering.{numbered_in, numbered_in_all, numbered_in_cases}
use Rattle.p4_program.specs.Syntax.Statements.{CoreWork, CoreStatement, CoreStatements, CoreCases, NoStatements, Then, NoCases, Case}
use Rattle.p4_program.specs.Syntax.Statements as core
use Rattle.p4_meaning.specs.Runs.Acts.{Environment, Act, Raised, stack_out_of_bounds, gives, stops, becomes, changes, writes, with_lasts, at_root}
use Rattle.p4_meaning.specs.Runs.Acts as act
use Rattle.p4_meaning.specs.Runs.Calls.{callee_of}
use Rattle.p4_meaning.specs.Runs.Contents.{Content, bits, is_true, number_in, uninitialised}
use Rattle.p4_meaning.specs.Runs.Expressions.{Reach, applies, evaluate, evaluate_all, paths_in}
use Rattle.p4_meaning.specs.Runs.Packets.{fills, fills_next, extracts_at, extracts, before_last_next, width_of_header, received, moved, emits}
use Rattle.p4_meaning.specs.Runs.Statements.{draws, verified, does, with_slice, declared, initialised, label_for, same_label, runs, runs_all, runs_case, paths_of}
use Rattle.p4_meaning.specs.Runs.Checksums.{with_checked, checksum}
use Rattle.p4_meaning.specs.Runs.Paths.{part, part_along, size_of, next_in, with_one_more, copied_over}
use Rattle.p4_program.specs.declared.typed.statements.Algorithm.{Algorithm}
use Rattle.p4_program.specs.declared.typed.paths.Step.TheVariants.{Next}
use Rattle.p4_meaning.proofs.Along.{does_if, does_begun}
use Rattle.p4_meaning.proofs.MarkLaws.{Marked, MarkedReach, NumberMarked, then_marked, both_marked, either_marked, applies_marked, callee_marked, evaluate_marked, evaluate_all_marked, read_marked, within_marked, lasts_marked, calls_action_marked, applies_control_marked}
use Rattle.p4_meaning.proofs.ListLaws.{Each, each_left, each_right}

module _ (Mark : ℕ → Type 0) where
  fills_marked : (env : Environment) (path : Path) (header : Content) → Marked Mark (fills env path header)
  fills_marked env path header =
      within_marked Mark env (width_of_header header)
      (λ cursor. act.◌>>◌ (changes path (received env.input.packet cursor)) (becomes (moved (width_of_header header)))) (λ cursor old. tt)

  abbrev counts : Path → List Step → Act ⊤
  counts path before = changes (record { root = path.root; steps = before; value_type = path.value_type }) with_one_more

  fills_next_marked : (env : Environment) (path : Path) (before : List Step) (stack : Content) → Marked Mark (fills_next env path before stack)
  fills_next_marked env path before stack old =
      does_if Mark (λ s t. ⊤) (λ s. tt) (λ s t u p q. tt) {A = ⊤} (nat_le (size_of stack) (next_in stack)) old
      (stops (Raised stack_out_of_bounds) old)
      (act.◌>>◌ (fills env path (part Next stack)) (counts path before) old) tt
      (both_marked Mark (fills env path (part Next stack)) (counts path before) (fills_marked env path (part Next stack)) (λ s. tt) old)

  extracts_at_marked : (env : Environment) (path : Path) (before : Option (List Step)) (root : Content) → Marked Mark (extracts_at env path before root)
  extracts_at_marked env path None root = fills_marked env path (part_along path.steps root)
  extracts_at_marked env path (Some before) root = fills_next_marked env path before (part_along before root)

  extracts_marked : (env : Environment) (path : Path) → Marked Mark (extracts env path)
  extracts_marked env path old = extracts_at_marked env path (before_last_next path.steps) (at_root path.root old) old

  verified_marked : (holds : Bool) (error : ℕ) → Marked Mark (verified holds error)
  verified_marked true error = λ old. tt
  verified_marked false error = λ old. tt

  draws_marked : (path : Path) → Marked Mark (draws path)
  draws_marked path old = λ value among. tt

  -- what the two checksum calls do where their condition holds
  abbrev verifies : Reach → List CoreExpression → CoreExpression → Algorithm → Act ⊤
  verifies Γ es sum algorithm =
      act.◌>>=◌ (evaluate_all Γ es) (λ values. act.◌>>=◌ (evaluate Γ sum) (λ expected. becomes (with_checked (checksum algorithm values == number_in expected))))

  abbrev updates : Reach → List CoreExpression → Path → Algorithm → Act ⊤
  updates Γ es path algorithm = act.◌>>=◌ (evaluate_all Γ es) (λ values. writes path (bits 16 (checksum algorithm values)))

  verifies_marked : (Γ : Reach) (es : List CoreExpression) (sum : CoreExpression) (algorithm : Algorithm) → MarkedReach Mark Γ → Marked Mark (verifies Γ es sum algorithm)
  verifies_marked Γ es sum algorithm h =
      then_marked Mark (evaluate_all Γ es) (λ values. act.◌>>=◌ (evaluate Γ sum) (λ expected. becomes (with_checked (checksum algorithm values == number_in expected))))
      (evaluate_all_marked Mark Γ es h)
      (λ values. then_marked Mark (evaluate Γ sum) (λ expected. becomes (with_checked (checksum algorithm values == number_in expected)))
      (evaluate_marked Mark Γ sum h) (λ expected old. tt))

  pub does_marked : (Γ : Reach) (work : CoreWork) → MarkedReach Mark Γ → Marked Mark (does Γ work)
  does_marked Γ (core.Assign path e) h = then_marked Mark (evaluate Γ e) (λ value. writes path value) (evaluate_marked Mark Γ e h) (λ value old. tt)
  does_marked Γ (core.AssignSlice path high low e) h =
      then_marked Mark (evaluate Γ e) (λ value. act.◌>>=◌ (act.read path) (λ x. writes path (with_slice x high low value))) (evaluate_marked Mark Γ e h)
      (λ value. then_marked Mark (act.read path) (λ x. writes path (with_slice x high low value)) (read_marked Mark path) (λ x old. tt))
  does_marked Γ core.Return h = λ old. tt
  does_marked Γ core.Exit h = λ old. tt
  does_marked Γ (core.CallAction n arguments) h = calls_action_marked Mark Γ (callee_of Γ.actions n) arguments h (callee_marked Mark Γ.actions n h.actions)
  does_marked Γ (core.ApplyTable n) h = both_marked Mark (applies Γ n) (gives tt) (applies_marked Mark Γ n h) (λ old. tt)
  does_marked Γ (core.ApplyControl n arguments) h = applies_control_marked Mark Γ (callee_of Γ.children n) arguments h (callee_marked Mark Γ.children n h.children)
  does_marked Γ (core.SetValid path) h = λ old. tt
  does_marked Γ (core.SetInvalid path) h = λ old. tt
  does_marked Γ (core.PushFront path count) h = λ old. tt
  does_marked Γ (core.PopFront path count) h = λ old. tt
  does_marked Γ (core.Extract path) h = extracts_marked Γ.environment path
  does_marked Γ (core.Advance count) h = within_marked Mark Γ.environment count (λ cursor. becomes (moved count)) (λ cursor old. tt)
  does_marked Γ (core.Verify condition e) h =
      then_marked Mark (evaluate Γ condition) (λ holds. act.◌>>=◌ (evaluate Γ e) (λ error. verified (is_true holds) (number_in error)))
      (evaluate_marked Mark Γ condition h)
      (λ holds. then_marked Mark (evaluate Γ e) (λ error. verified (is_true holds) (number_in error)) (evaluate_marked Mark Γ e h)
      (λ error. verified_marked (is_true holds) (number_in error)))
  does_marked Γ (core.Emit e) h = then_marked Mark (evaluate Γ e) (λ value. emits value) (evaluate_marked Mark Γ e h) (λ value old. tt)
  does_marked Γ (core.Evaluate es) h = both_marked Mark (evaluate_all Γ es) (gives tt) (evaluate_all_marked Mark Γ es h) (λ old. tt)
  does_marked Γ (core.MarkToDrop path) h = λ old. tt
  does_marked Γ (core.VerifyChecksum condition es sum algorithm) h =
      then_marked Mark (evaluate Γ condition) (λ holds. if is_true holds then verifies Γ es sum algorithm else gives tt) (evaluate_marked Mark Γ condition h)
      (λ holds. either_marked Mark (is_true holds) (verifies Γ es sum algorithm) (gives tt) (verifies_marked Γ es sum algorithm h) (λ old. tt))
  does_marked Γ (core.UpdateChecksum condition es path algorithm) h =
      then_marked Mark (evaluate Γ condition) (λ holds. if is_true holds then updates Γ es path algorithm else gives tt) (evaluate_marked Mark Γ condition h)
      (λ holds. either_marked Mark (is_true holds) (updates Γ es path algorithm) (gives tt)
      (then_marked Mark (evaluate_all Γ es) (λ values. writes path (bits 16 (checksum algorithm values))) (evaluate_all_marked Mark Γ es h) (λ values old. tt)) (λ old. tt))
  does_marked Γ (core.Random path low high) h =
      both_marked Mark (act.◌>>◌ (evaluate Γ low) (evaluate Γ high)) (draws path)
      (both_marked Mark (evaluate Γ low) (evaluate Γ high) (evaluate_marked Mark Γ low h) (evaluate_marked Mark Γ high h)) (draws_marked path)
  does_marked Γ (core.ExecuteMeter index path) h =
      both_marked Mark (evaluate Γ index) (draws path) (evaluate_marked Mark Γ index h) (draws_marked path)

  initialised_marked : (Γ : Reach) (root : Root) (t : ValueType) (value : Option CoreExpression) → MarkedReach Mark Γ → Marked Mark (initialised Γ root t value)
  initialised_marked Γ root t None h = λ old. tt
  initialised_marked Γ root t (Some e) h =
      lasts_marked Mark (paths_in e)
      (act.◌>>=◌ (evaluate Γ e) (λ value. declared root (copied_over value (uninitialised Γ.environment.program t))))
      (then_marked Mark (evaluate Γ e) (λ value. declared root (copied_over value (uninitialised Γ.environment.program t)))
      (evaluate_marked Mark Γ e h) (λ value old. tt))

  mutual
    pub runs_marked : (Γ : Reach) (s : CoreStatement) → MarkedReach Mark Γ → Each (NumberMarked Mark) (numbered_in s) → Marked Mark (runs Γ s)
    runs_marked Γ (core.Numbered number place work) h n =
        does_begun Mark (λ s t. ⊤) (λ s. tt) (λ s t u p q. tt) number (with_lasts (paths_of work) (does Γ work)) n.0 (lasts_marked Mark (paths_of work) (does Γ work) (does_marked Γ work h))
    runs_marked Γ (core.Declare root t value) h n = initialised_marked Γ root t value h
    runs_marked Γ (core.If place condition a b) h n =
        then_marked Mark (evaluate Γ condition) (λ holds. if is_true holds then runs_all Γ a else runs_all Γ b) (evaluate_marked Mark Γ condition h)
        (λ holds. either_marked Mark (is_true holds) (runs_all Γ a) (runs_all Γ b)
        (runs_all_marked Γ a h (each_left (NumberMarked Mark) (numbered_in_all a) (numbered_in_all b) n))
        (runs_all_marked Γ b h (each_right (NumberMarked Mark) (numbered_in_all a) (numbered_in_all b) n)))
    runs_marked Γ (core.Switch table cases) h n =
        then_marked Mark (applies Γ table) (λ applied. runs_case Γ cases (label_for applied.ran cases)) (applies_marked Mark Γ table h)
        (λ applied. runs_case_marked Γ cases (label_for applied.ran cases) h n)

    pub runs_all_marked : (Γ : Reach) (ss : CoreStatements) → MarkedReach Mark Γ → Each (NumberMarked Mark) (numbered_in_all ss) → Marked Mark (runs_all Γ ss)
    runs_all_marked Γ NoStatements h n = λ old. tt
    runs_all_marked Γ (Then s rest) h n =
        both_marked Mark (runs Γ s) (runs_all Γ rest)
        (runs_marked Γ s h (each_left (NumberMarked Mark) (numbered_in s) (numbered_in_all rest) n))
        (runs_all_marked Γ rest h (each_right (NumberMarked Mark) (numbered_in s) (numbered_in_all rest) n))

    runs_case_marked : (Γ : Reach) (cases : CoreCases) (label : Label) → MarkedReach Mark Γ → Each (NumberMarked Mark) (numbered_in_cases cases) → Marked Mark (runs_case Γ cases label)
    runs_case_marked Γ NoCases label h n = λ old. tt
    runs_case_marked Γ (Case labels body rest) label h n =
        either_marked Mark (list_any (same_label label) labels) (runs_all Γ body) (runs_case Γ rest label)
        (runs_all_marked Γ body h (each_left (NumberMarked Mark) (numbered_in_all body) (numbered_in_cases rest) n))
        (runs_case_marked Γ rest label h (each_right (NumberMarked Mark) (numbered_in_all body) (numbered_in_cases rest) n))
