-- Which statements the parts of a program begin: each mark is one of the numbers in it.
use Rattle.std.proofs.Common.{ℕ, zero, suc, Bool, true, false, List, [], ◌∷◌, ◌++◌, map, Option, Some, None}
use Rattle.std.specs.Prelude.{⊤, if◌then◌else◌, slice_get}
use Rattle.bits_core.specs.declared.number.Bits.{Bits}
use Rattle.p4_program.specs.declared.typed.callables.Parameter.{Parameter}
use Rattle.p4_program.specs.declared.typed.paths.Path.{Path}
use Rattle.p4_program.specs.Syntax.Callables.{CoreTable}
use Rattle.p4_program.specs.Syntax.Expressions.{CoreExpression}
use Rattle.p4_program.specs.Syntax.Numbering.{NumberedPlace}
use Rattle.p4_program.specs.Syntax.Statements.{CoreArgument, CoreWork, CoreStatement, CoreStatements, CoreCases, NoStatements, Then, NoCases, Case}
use Rattle.p4_program.specs.Syntax.Statements as core
use Rattle.p4_meaning.specs.Runs.Acts.{Environment, Act, After, Store, Result, Gives, Stops, Stop, Returned, Exited, Raised, gives, stops, attempt, taking, told, becomes, begun, unspecified, value_of, changes, writes, with_lasts}
use Rattle.p4_meaning.specs.Runs.Acts as act
use Rattle.p4_meaning.specs.Runs.Calls.{passed_in, all_passed_in, passed_out, all_passed_out, after_body, frame_of, with_action, with_frames, Left, runs_action, calls_action, runs_with, runs_control, applies_control, callee_of}
use Rattle.p4_meaning.specs.Runs.Contents.{Content, bits}
use Rattle.p4_meaning.specs.Runs.Expressions.{Reach, Callee, Applied, applies, found_table, evaluate, evaluate_all}
use Rattle.p4_meaning.specs.Runs.Packets.{within_packet}
use Rattle.p4_meaning.specs.Runs.Tables.{table_applies, runs_for, with_tables, action_of, place_of}
use Rattle.p4_program.specs.Winners.{Candidate}
use Rattle.p4_meaning.proofs.Along.{Does, does_then, does_both, does_attempt, does_taking, does_with_lasts}
use Rattle.p4_meaning.proofs.ExpressionLaws.{value_read, each_table, does_read, does_within, does_either, does_evaluate}
use Rattle.p4_meaning.proofs.ListLaws.{Each, each_both}

-- ---- lists

module _ (Mark : ℕ → Type 0) where
  -- an act begins such statements alone
  abbrev pub Marked : {A : Type 0} → Act A → Type 0
  Marked a = Does Mark (λ s t. ⊤) (λ s. tt) (λ s t u p q. tt) a

  abbrev pub MarkedCallee : Callee → Type 0
  MarkedCallee callee = Marked callee.body

  -- what a body can reach does
  pub record MarkedReach (Γ : Reach) : Type 0 where
    pub actions : Each MarkedCallee Γ.actions
    pub tables : Each (λ t. Marked t) Γ.tables
    pub children : Each MarkedCallee Γ.children

  -- the number of a statement is such a one
  abbrev pub NumberMarked : NumberedPlace → Type 0
  NumberMarked s = Mark s.number

  pub then_marked : {A B : Type 0} → (first : Act A) (next : A → Act B) → Marked first → ((a : A) → Marked (next a)) → Marked (act.◌>>=◌ first next)
  then_marked first next h k = does_then Mark (λ s t. ⊤) (λ s. tt) (λ s t u p q. tt) first next h k

  pub both_marked : {A B : Type 0} → (first : Act A) (second : Act B) → Marked first → Marked second → Marked (act.◌>>◌ first second)
  both_marked first second h k = does_both Mark (λ s t. ⊤) (λ s. tt) (λ s t u p q. tt) first second h k

  pub either_marked : {A : Type 0} → (b : Bool) (x y : Act A) → Marked x → Marked y → Marked (if b then x else y)
  either_marked b x y h k = does_either Mark (λ s t. ⊤) (λ s. tt) (λ s t u p q. tt) b x y h k

  -- ---- reach

  pub callee_marked : (cs : List Callee) (n : ℕ) → Each MarkedCallee cs → MarkedCallee (callee_of cs n)
  callee_marked [] n h = λ old. tt
  callee_marked (c ∷ cs) zero h = h.0
  callee_marked (c ∷ cs) (suc n) h = callee_marked cs n h.1

  found_marked : (ts : List (Act Applied)) (n : ℕ) → Each (λ t. Marked t) ts → Marked (found_table (slice_get ts n))
  found_marked [] n h = λ old. tt
  found_marked (t ∷ ts) zero h = h.0
  found_marked (t ∷ ts) (suc n) h = found_marked ts n h.1

  pub applies_marked : (Γ : Reach) (n : ℕ) → MarkedReach Γ → Marked (applies Γ n)
  applies_marked Γ n h = found_marked Γ.tables n h.tables

  -- ---- expressions

  pub evaluate_marked : (Γ : Reach) (e : CoreExpression) → MarkedReach Γ → Marked (evaluate Γ e)
  evaluate_marked Γ e h = does_evaluate Mark (λ s t. ⊤) (λ s. tt) (λ s t u p q. tt) Γ e (each_table _ (λ n. applies_marked Γ n h) e)

  pub evaluate_all_marked : (Γ : Reach) (es : List CoreExpression) → MarkedReach Γ → Marked (evaluate_all Γ es)
  evaluate_all_marked Γ [] h = λ old. tt
  evaluate_all_marked Γ (e ∷ es) h =
      then_marked (evaluate Γ e) _ (evaluate_marked Γ e h) (λ value. then_marked (evaluate_all Γ es) _ (evaluate_all_marked Γ es h) (λ values old. tt))

  pub read_marked : (path : Path) → Marked (act.read path)
  read_marked path = does_read Mark (λ s t. ⊤) (λ s. tt) (λ s t u p q. tt) path

  pub within_marked : {A : Type 0} → (env : Environment) (width : ℕ) (f : ℕ → Act A) → ((cursor : ℕ) → Marked (f cursor)) → Marked (within_packet env width f)
  within_marked env width f h = does_within Mark (λ s t. ⊤) (λ s. tt) (λ s t u p q. tt) env width f h

  pub lasts_marked : {A : Type 0} → (paths : List Path) (a : Act A) → Marked a → Marked (with_lasts paths a)
  lasts_marked paths a h = does_with_lasts Mark (λ s t. ⊤) (λ s. tt) (λ s t u p q. tt) paths a h

  taking_marked : (c : Content) → Marked (taking (value_of c))
  taking_marked c = does_taking Mark (λ s t. ⊤) (λ s. tt) (λ s t u p q. tt) (value_of c) (value_read Mark c)

  -- ---- calls

  passed_in_marked : (Γ : Reach) (p : Parameter) (a : CoreArgument) → MarkedReach Γ → Marked (passed_in Γ p a)
  passed_in_marked Γ p (core.In e) h = evaluate_marked Γ e h
  passed_in_marked Γ p (core.Out path) h = λ old. tt
  passed_in_marked Γ p (core.InOut path) h = read_marked path

  all_passed_in_marked : (Γ : Reach) (ps : List Parameter) (arguments : List CoreArgument) → MarkedReach Γ → Marked (all_passed_in Γ ps arguments)
  all_passed_in_marked Γ [] arguments h = λ old. tt
  all_passed_in_marked Γ (p ∷ ps) [] h = λ old. tt
  all_passed_in_marked Γ (p ∷ ps) (a ∷ arguments) h =
      then_marked (passed_in Γ p a) _ (passed_in_marked Γ p a h)
      (λ content. then_marked (all_passed_in Γ ps arguments) _ (all_passed_in_marked Γ ps arguments h) (λ contents old. tt))

  passed_out_marked : (a : CoreArgument) (content : Content) → Marked (passed_out a content)
  passed_out_marked (core.In e) content = λ old. tt
  passed_out_marked (core.Out path) content = then_marked (taking (value_of content)) (λ value. writes path value) (taking_marked content) (λ value old. tt)
  passed_out_marked (core.InOut path) content = then_marked (taking (value_of content)) (λ value. writes path value) (taking_marked content) (λ value old. tt)

  all_passed_out_marked : (arguments : List CoreArgument) (frame : List Content) → Marked (all_passed_out arguments frame)
  all_passed_out_marked [] frame = λ old. tt
  all_passed_out_marked (a ∷ arguments) [] = λ old. tt
  all_passed_out_marked (a ∷ arguments) (content ∷ frame) =
      both_marked (passed_out a content) (all_passed_out arguments frame) (passed_out_marked a content) (all_passed_out_marked arguments frame)

  after_body_marked : (end : Result ⊤) → Marked (after_body end)
  after_body_marked (Gives value) = λ old. tt
  after_body_marked (Stops Returned) = λ old. tt
  after_body_marked (Stops Exited) = λ old. tt
  after_body_marked (Stops (Raised error)) = λ old. tt

  attempt_marked : (callee : Callee) → MarkedCallee callee → Marked (attempt callee.body)
  attempt_marked callee h = does_attempt Mark (λ s t. ⊤) (λ s. tt) (λ s t u p q. tt) callee.body h

  runs_action_marked : (frame : List Content) (callee : Callee) → MarkedCallee callee → Marked (runs_action frame callee)
  runs_action_marked frame callee h outside =
      then_marked (act.◌>>◌ (becomes (with_action frame)) (attempt callee.body)) _
      (both_marked (becomes (with_action frame)) (attempt callee.body) (λ old. tt) (attempt_marked callee h))
      (λ end old. tt) outside

  runs_control_marked : (frame : List Content) (callee : Callee) → MarkedCallee callee → Marked (runs_control frame callee)
  runs_control_marked frame callee h outside =
      then_marked (act.◌>>◌ (becomes (with_frames frame [])) (attempt callee.body)) _
      (both_marked (becomes (with_frames frame [])) (attempt callee.body) (λ old. tt) (attempt_marked callee h))
      (λ end old. tt) outside

  out_and_end : (arguments : List CoreArgument) (left : Left) → Marked (act.◌>>◌ (all_passed_out arguments left.frame) (after_body left.end))
  out_and_end arguments left =
      both_marked (all_passed_out arguments left.frame) (after_body left.end) (all_passed_out_marked arguments left.frame) (after_body_marked left.end)

  pub calls_action_marked : (Γ : Reach) (callee : Callee) (arguments : List CoreArgument) → MarkedReach Γ → MarkedCallee callee → Marked (calls_action Γ callee arguments)
  calls_action_marked Γ callee arguments h k =
      then_marked (all_passed_in Γ callee.parameters arguments) _ (all_passed_in_marked Γ callee.parameters arguments h)
      (λ contents. then_marked (runs_action (frame_of Γ callee contents) callee) _ (runs_action_marked (frame_of Γ callee contents) callee k) (out_and_end arguments))

  pub applies_control_marked : (Γ : Reach) (callee : Callee) (arguments : List CoreArgument) → MarkedReach Γ → MarkedCallee callee → Marked (applies_control Γ callee arguments)
  applies_control_marked Γ callee arguments h k =
      then_marked (all_passed_in Γ callee.parameters arguments) _ (all_passed_in_marked Γ callee.parameters arguments h)
      (λ contents. then_marked (runs_control (frame_of Γ callee contents) callee) _ (runs_control_marked (frame_of Γ callee contents) callee k) (out_and_end arguments))

  runs_with_marked : (Γ : Reach) (callee : Callee) (arguments : List Bits) → MarkedCallee callee → Marked (runs_with Γ callee arguments)
  runs_with_marked Γ callee arguments k =
      then_marked (runs_action (frame_of Γ callee (map (λ b. bits b.width b.value) arguments)) callee) (λ left. after_body left.end)
      (runs_action_marked (frame_of Γ callee (map (λ b. bits b.width b.value) arguments)) callee k) (λ left. after_body_marked left.end)

  -- ---- tables

  runs_for_marked : (Γ : Reach) (t : CoreTable) (w : Option Candidate) → MarkedReach Γ → Marked (runs_for Γ t w)
  runs_for_marked Γ t (Some w) h =
      both_marked (runs_with Γ (callee_of Γ.actions (action_of t w.action)) w.arguments) (gives (record { hit = true; ran = Some w.action }))
      (runs_with_marked Γ (callee_of Γ.actions (action_of t w.action)) w.arguments (callee_marked Γ.actions (action_of t w.action) h.actions))
      (λ old. tt)
  runs_for_marked Γ t None h =
      both_marked (runs_with Γ (callee_of Γ.actions t.default_action) t.default_arguments)
      (gives (record { hit = false; ran = place_of t t.default_action }))
      (runs_with_marked Γ (callee_of Γ.actions t.default_action) t.default_arguments (callee_marked Γ.actions t.default_action h.actions))
      (λ old. tt)

  table_marked : (Γ : Reach) (number : ℕ) (t : CoreTable) → MarkedReach Γ → Marked (table_applies Γ number t)
  table_marked Γ number t h =
      then_marked (evaluate_all Γ (map (λ k. k.value) t.keys)) _ (evaluate_all_marked Γ (map (λ k. k.value) t.keys) h) (λ values. runs_for_marked Γ t _ h)

  pub tables_marked : (Γ : Reach) (numbers : List ℕ) (ts : List CoreTable) → MarkedReach Γ → MarkedReach (with_tables Γ numbers ts)
  tables_marked Γ [] ts h = h
  tables_marked Γ (number ∷ numbers) [] h = h
  tables_marked Γ (number ∷ numbers) (t ∷ ts) h =
      tables_marked (record Γ { tables = Γ.tables ++ table_applies Γ number t ∷ [] }) numbers ts (record {
        actions = h.actions;
        tables = each_both (λ a. Marked a) Γ.tables (table_applies Γ number t ∷ []) h.tables (table_marked Γ number t h, tt);
        children = h.children;
      })
