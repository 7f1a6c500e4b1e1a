-- A run's marks are numbers of the program.
use Rattle.std.proofs.Common.{◌≡◌, ℕ, zero, suc, ◌<◌, Bool, true, false, List, [], ◌∷◌, ◌++◌, map, length, Option, Some, None, sym, ap, subst, le_of_suc-le-suc, arith}
use Rattle.std.specs.Prelude.{⊤, ◌==◌, not, ◌||◌, slice_get, slice_index_or, flat_map, option_and_then, Contains, find}
use Rattle.p4_program.specs.declared.bounds.Bounds.{Bounds}
use Rattle.p4_program.specs.declared.typed.callables.SelectCase.{SelectCase}
use Rattle.p4_program.specs.declared.typed.callables.Target.{Target}
use Rattle.p4_program.specs.declared.typed.callables.Target.TheVariants.{Accept, Reject, State}
use Rattle.p4_program.specs.declared.typed.input.Input.{Input}
use Rattle.p4_program.specs.declared.typed.instances.Instance.{Instance}
use Rattle.p4_program.specs.Syntax.Callables.{CoreControl, CoreParser, CoreState, CoreTransition, To, Select, CoreCallable, OfAction, OfParser, OfControl}
use Rattle.p4_program.specs.Syntax.Lookup.{as_control, control_at}
use Rattle.p4_program.specs.Syntax.Numbering.{numbered_in_all, numbered_in_state, numbered_in_callable, statements_numbered}
use Rattle.p4_program.specs.Syntax.Programs.{CoreProgram}
use Rattle.p4_program.specs.WellFormed.Programs.{as_parser, parser_at}
use Rattle.p4_program.specs.declared.outcome.Outcome.{Outcome}
use Rattle.p4_program.specs.declared.outcome.Outcome.TheVariants.{Sent, Dropped, Overrun}
use Rattle.p4_meaning.specs.Runs.Acts.{Environment, Act, After, value_of}
use Rattle.p4_meaning.specs.Runs.Acts as act
use Rattle.p4_meaning.specs.Runs.Bodies.{reach_of, action_body, actions_behind, actions_of, reach_in, control_body, controls_behind, controls_of}
use Rattle.p4_meaning.specs.Runs.Calls.{callee_of}
use Rattle.p4_meaning.specs.Runs.Contents.{Content, number_in}
use Rattle.p4_meaning.specs.Runs.Courses.{Course, Ends, Read}
use Rattle.p4_meaning.specs.Runs.Courses as course
use Rattle.p4_meaning.specs.Runs.Expressions.{Reach, Callee, evaluate_all, paths_in_all}
use Rattle.p4_meaning.specs.Runs.Parser.{ParserEnd, Ended, Overran, leads_to, next_target, found_state, state_of, follows, enters, parses, parser_end}
use Rattle.p4_meaning.specs.Runs.Run.{Run, environment, marks_of}
use Rattle.p4_meaning.specs.Runs.Statements.{runs_all}
use Rattle.p4_meaning.specs.Runs.Switch.{Shared, Finished, store_for, shared_after, runs_block, block_of, leaves, drops_or, to_deparser, after_egress, from_egress, drop_decision, after_parser, found_parser, parser_of, with_end, runs_switch, starting_shared, unspecified_metadata, entering_egress}
use Rattle.p4_meaning.specs.Runs.Metadata.{egress_spec, mcast_grp, parser_error, error_of, with_field, field_of}
use Rattle.p4_meaning.specs.Runs.Paths.{part}
use Rattle.p4_program.specs.declared.typed.paths.Step.TheVariants.{Field}
use Rattle.p4_program.specs.declared.v1model.TheConstants.{DROP_PORT}
use Rattle.p4_program.specs.Winners.{all_match}
use Rattle.p4_meaning.proofs.Along.{Along, along_made, along_then}
use Rattle.p4_meaning.proofs.ExpressionLaws.{value_read}
use Rattle.p4_meaning.proofs.MarkLaws.{Marked, MarkedCallee, MarkedReach, NumberMarked, then_marked, both_marked, lasts_marked, evaluate_all_marked, callee_marked, tables_marked}
use Rattle.p4_meaning.proofs.StatementMarks.{runs_all_marked}
use Rattle.p4_meaning.proofs.ListLaws.{Each, each_left, each_right, each_both, each_of, each_in, later_in}

module _ (Mark : ℕ → Type 0) where
  abbrev CallablesMarked : List CoreCallable → Type 0
  CallablesMarked cs = Each (NumberMarked Mark) (flat_map numbered_in_callable cs)

  reach_of_marked : (env : Environment) (known : List Callee) → Each (MarkedCallee Mark) known → MarkedReach Mark (reach_of env known)
  reach_of_marked env known h = record { actions = h; tables = tt; children = tt }

  -- ---- actions

  action_body_marked : (env : Environment) (known : List Callee) (c : CoreCallable) → Each (MarkedCallee Mark) known
      → Each (NumberMarked Mark) (numbered_in_callable c) → MarkedCallee Mark (action_body env known c)
  action_body_marked env known (OfAction a) h n = runs_all_marked Mark (reach_of env known) a.body (reach_of_marked env known h) n
  action_body_marked env known (OfParser q) h n = λ old. tt
  action_body_marked env known (OfControl c) h n = λ old. tt

  actions_behind_marked : (env : Environment) (known : List Callee) (cs : List CoreCallable) → Each (MarkedCallee Mark) known
      → CallablesMarked cs → Each (MarkedCallee Mark) (actions_behind env known cs)
  actions_behind_marked env known [] h n = h
  actions_behind_marked env known (c ∷ cs) h n =
      actions_behind_marked env (known ++ action_body env known c ∷ []) cs
      (each_both (MarkedCallee Mark) known (action_body env known c ∷ []) h
      (action_body_marked env known c h (each_left (NumberMarked Mark) (numbered_in_callable c) (flat_map numbered_in_callable cs) n), tt))
      (each_right (NumberMarked Mark) (numbered_in_callable c) (flat_map numbered_in_callable cs) n)

  actions_marked : (env : Environment) → CallablesMarked env.program.callables → Each (MarkedCallee Mark) (actions_of env)
  actions_marked env n = actions_behind_marked env [] env.program.callables tt n

  -- ---- controls

  abbrev ControlMarked : Option CoreControl → Type 0
  ControlMarked None = ⊤
  ControlMarked (Some c) = Each (NumberMarked Mark) (numbered_in_all c.body)

  abbrev ParserMarked : Option CoreParser → Type 0
  ParserMarked None = ⊤
  ParserMarked (Some q) = Each (NumberMarked Mark) (numbered_in_all q.beginning ++ flat_map numbered_in_state q.states)

  control_is : (c : CoreCallable) → Each (NumberMarked Mark) (numbered_in_callable c) → ControlMarked (as_control c)
  control_is (OfAction a) n = tt
  control_is (OfParser q) n = tt
  control_is (OfControl c) n = n

  parser_is : (c : CoreCallable) → Each (NumberMarked Mark) (numbered_in_callable c) → ParserMarked (as_parser c)
  parser_is (OfAction a) n = tt
  parser_is (OfParser q) n = n
  parser_is (OfControl c) n = tt

  control_at_marked : (cs : List CoreCallable) (k : ℕ) → CallablesMarked cs → ControlMarked (option_and_then as_control (slice_get cs k))
  control_at_marked [] k n = tt
  control_at_marked (c ∷ cs) zero n = control_is c (each_left (NumberMarked Mark) (numbered_in_callable c) (flat_map numbered_in_callable cs) n)
  control_at_marked (c ∷ cs) (suc k) n = control_at_marked cs k (each_right (NumberMarked Mark) (numbered_in_callable c) (flat_map numbered_in_callable cs) n)

  parser_at_marked : (cs : List CoreCallable) (k : ℕ) → CallablesMarked cs → ParserMarked (option_and_then as_parser (slice_get cs k))
  parser_at_marked [] k n = tt
  parser_at_marked (c ∷ cs) zero n = parser_is c (each_left (NumberMarked Mark) (numbered_in_callable c) (flat_map numbered_in_callable cs) n)
  parser_at_marked (c ∷ cs) (suc k) n = parser_at_marked cs k (each_right (NumberMarked Mark) (numbered_in_callable c) (flat_map numbered_in_callable cs) n)

  children_marked : (known : List Callee) (ns : List ℕ) → Each (MarkedCallee Mark) known → Each (MarkedCallee Mark) (map (callee_of known) ns)
  children_marked known [] h = tt
  children_marked known (n ∷ ns) h = (callee_marked Mark known n h, children_marked known ns h)

  control_body_marked : (env : Environment) (known : List Callee) (i : Instance) (c : Option CoreControl) → CallablesMarked env.program.callables
      → Each (MarkedCallee Mark) known → ControlMarked c → MarkedCallee Mark (control_body env known i c)
  control_body_marked env known i None n h k = λ old. tt
  control_body_marked env known i (Some c) n h k =
      runs_all_marked Mark (reach_in env known i c) c.body
      (tables_marked Mark (record { environment = env; actions = actions_of env; tables = []; children = map (callee_of known) i.children }) i.tables c.tables
      (record { actions = actions_marked env n; tables = tt; children = children_marked known i.children h })) k

  controls_behind_marked : (env : Environment) (known : List Callee) (is : List Instance) → CallablesMarked env.program.callables
      → Each (MarkedCallee Mark) known → Each (MarkedCallee Mark) (controls_behind env known is)
  controls_behind_marked env known [] n h = h
  controls_behind_marked env known (i ∷ is) n h =
      controls_behind_marked env (known ++ control_body env known i (control_at env.program i.control) ∷ []) is n
      (each_both (MarkedCallee Mark) known (control_body env known i (control_at env.program i.control) ∷ []) h
      (control_body_marked env known i (control_at env.program i.control) n h (control_at_marked env.program.callables i.control n), tt))

  controls_marked : (env : Environment) → CallablesMarked env.program.callables → Each (MarkedCallee Mark) (controls_of env)
  controls_marked env n = controls_behind_marked env [] env.program.instances n tt

  -- ---- the parser

  leads_marked : (c : Option SelectCase) → Marked Mark (leads_to c)
  leads_marked (Some c) = λ old. tt
  leads_marked None = λ old. tt

  next_target_marked : (Γ : Reach) (t : CoreTransition) → MarkedReach Mark Γ → Marked Mark (next_target Γ t)
  next_target_marked Γ (To target) h = λ old. tt
  next_target_marked Γ (Select es cases) h =
      lasts_marked Mark (paths_in_all es)
      (act.◌>>=◌ (evaluate_all Γ es) (λ values. leads_to (find (λ c. all_match c.keys (map number_in values)) cases)))
      (then_marked Mark (evaluate_all Γ es) (λ values. leads_to (find (λ c. all_match c.keys (map number_in values)) cases)) (evaluate_all_marked Mark Γ es h)
      (λ values. leads_marked (find (λ c. all_match c.keys (map number_in values)) cases)))

  state_marked : (states : List CoreState) (n : ℕ) → Each (NumberMarked Mark) (flat_map numbered_in_state states)
      → Each (NumberMarked Mark) (numbered_in_all (found_state (slice_get states n)).statements)
  state_marked [] n h = tt
  state_marked (s ∷ states) zero h = each_left (NumberMarked Mark) (numbered_in_state s) (flat_map numbered_in_state states) h
  state_marked (s ∷ states) (suc n) h = state_marked states n (each_right (NumberMarked Mark) (numbered_in_state s) (flat_map numbered_in_state states) h)

  follows_marked : (f : ℕ → Act ParserEnd) (target : Target) → ((n : ℕ) → Marked Mark (f n)) → Marked Mark (follows f target)
  follows_marked f Accept h = λ old. tt
  follows_marked f Reject h = λ old. tt
  follows_marked f (State n) h = h n

  enters_marked : (steps : ℕ) (Γ : Reach) (q : CoreParser) (n : ℕ) → MarkedReach Mark Γ → Each (NumberMarked Mark) (flat_map numbered_in_state q.states)
      → Marked Mark (enters steps Γ q n)
  enters_marked zero Γ q n h k = λ old. tt
  enters_marked (suc steps) Γ q n h k =
      then_marked Mark (act.◌>>◌ (runs_all Γ (state_of q n).statements) (next_target Γ (state_of q n).transition))
      (λ target. follows (λ next. enters steps Γ q next) target)
      (both_marked Mark (runs_all Γ (state_of q n).statements) (next_target Γ (state_of q n).transition)
      (runs_all_marked Mark Γ (state_of q n).statements h (state_marked q.states n k)) (next_target_marked Γ (state_of q n).transition h))
      (λ target. follows_marked (λ next. enters steps Γ q next) target (λ next. enters_marked steps Γ q next h k))

  parses_marked : (steps : ℕ) (Γ : Reach) (q : CoreParser) → MarkedReach Mark Γ
      → Each (NumberMarked Mark) (numbered_in_all q.beginning ++ flat_map numbered_in_state q.states) → Marked Mark (parses steps Γ q)
  parses_marked steps Γ q h n =
      both_marked Mark (runs_all Γ q.beginning) (enters steps Γ q q.start)
      (runs_all_marked Mark Γ q.beginning h (each_left (NumberMarked Mark) (numbered_in_all q.beginning) (flat_map numbered_in_state q.states) n))
      (enters_marked steps Γ q q.start h (each_right (NumberMarked Mark) (numbered_in_all q.beginning) (flat_map numbered_in_state q.states) n))

  -- ---- the switch

  abbrev Goes : {A : Type 0} → Course A → Type 0
  Goes c = Along Mark (λ a. ⊤) c

  goes_then : {A B : Type 0} → (c : Course A) (next : A → Course B) → Goes c → ((a : A) → Goes (next a)) → Goes (course.◌>>=◌ c next)
  goes_then c next h k = along_then Mark (λ a. ⊤) (λ b. ⊤) c next h (λ a u. k a)

  field_marked : (n : ℕ) (metadata : Content) → Goes (field_of n metadata)
  field_marked n metadata = goes_then (value_of (part (Field n) metadata)) (λ value. Ends (number_in value)) (value_read Mark (part (Field n) metadata)) (λ value. tt)

  block_marked : (env : Environment) (block : Callee) (shared : Shared) → MarkedCallee Mark block → Goes (runs_block env block shared)
  block_marked env block shared h =
      goes_then (block.body (store_for env block.parameters block.variables shared))
      (λ after. Ends (shared_after (length block.parameters) after.store shared)) (h (store_for env block.parameters block.variables shared)) (λ after. tt)

  drops_marked : (b : Bool) (goes_on : Shared → Course Finished) (shared : Shared) → ((s : Shared) → Goes (goes_on s)) → Goes (drops_or b goes_on shared)
  drops_marked true goes_on shared h = tt
  drops_marked false goes_on shared h = h shared

  block_of_marked : (env : Environment) (n : ℕ) → CallablesMarked env.program.callables → MarkedCallee Mark (block_of env n)
  block_of_marked env n h = callee_marked Mark (controls_of env) n (controls_marked env h)

  to_deparser_marked : (env : Environment) (port : ℕ) (shared : Shared) → CallablesMarked env.program.callables → Goes (to_deparser env port shared)
  to_deparser_marked env port shared h =
      goes_then (runs_block env (block_of env env.program.blocks.compute) shared)
      (λ computed. course.◌>>=◌ (runs_block env (block_of env env.program.blocks.deparser) computed) (λ emitted. leaves env port emitted))
      (block_marked env (block_of env env.program.blocks.compute) shared (block_of_marked env env.program.blocks.compute h))
      (λ computed. goes_then (runs_block env (block_of env env.program.blocks.deparser) computed) (λ emitted. leaves env port emitted)
      (block_marked env (block_of env env.program.blocks.deparser) computed (block_of_marked env env.program.blocks.deparser h)) (λ emitted. tt))

  after_egress_marked : (env : Environment) (port : ℕ) (shared : Shared) → CallablesMarked env.program.callables → Goes (after_egress env port shared)
  after_egress_marked env port shared h =
      goes_then (field_of egress_spec shared.standard) (λ spec. drops_or (spec == DROP_PORT) (to_deparser env port) shared) (field_marked egress_spec shared.standard)
      (λ spec. drops_marked (spec == DROP_PORT) (to_deparser env port) shared (λ s. to_deparser_marked env port s h))

  from_egress_marked : (env : Environment) (port : ℕ) (shared : Shared) → CallablesMarked env.program.callables → Goes (from_egress env port shared)
  from_egress_marked env port shared h =
      goes_then (runs_block env (block_of env env.program.blocks.egress) (entering_egress port shared)) (λ after. after_egress env port after)
      (block_marked env (block_of env env.program.blocks.egress) (entering_egress port shared) (block_of_marked env env.program.blocks.egress h))
      (λ after. after_egress_marked env port after h)

  drop_decision_marked : (env : Environment) (shared : Shared) → CallablesMarked env.program.callables → Goes (drop_decision env shared)
  drop_decision_marked env shared h =
      goes_then (field_of mcast_grp shared.standard)
      (λ group. course.◌>>=◌ (field_of egress_spec shared.standard) (λ port. drops_or (not (group == 0) || (port == DROP_PORT)) (from_egress env port) shared))
      (field_marked mcast_grp shared.standard)
      (λ group. goes_then (field_of egress_spec shared.standard) (λ port. drops_or (not (group == 0) || (port == DROP_PORT)) (from_egress env port) shared)
      (field_marked egress_spec shared.standard)
      (λ port. drops_marked (not (group == 0) || (port == DROP_PORT)) (from_egress env port) shared (λ s. from_egress_marked env port s h)))

  after_parser_marked : (env : Environment) (shared : Shared) → CallablesMarked env.program.callables → Goes (after_parser env shared)
  after_parser_marked env shared h =
      goes_then (runs_block env (block_of env env.program.blocks.verify) shared)
      (λ checked. course.◌>>=◌ (runs_block env (block_of env env.program.blocks.ingress) checked) (λ done. drop_decision env done))
      (block_marked env (block_of env env.program.blocks.verify) shared (block_of_marked env env.program.blocks.verify h))
      (λ checked. goes_then (runs_block env (block_of env env.program.blocks.ingress) checked) (λ done. drop_decision env done)
      (block_marked env (block_of env env.program.blocks.ingress) checked (block_of_marked env env.program.blocks.ingress h)) (λ done. drop_decision_marked env done h))

  with_end_marked : (env : Environment) (shared : Shared) (end : ParserEnd) → CallablesMarked env.program.callables → Goes (with_end env shared end)
  with_end_marked env shared (Ended error) h = after_parser_marked env (record shared { standard = with_field parser_error (error_of env.program.errors error) shared.standard }) h
  with_end_marked env shared Overran h = tt

  found_parser_marked : (q : Option CoreParser) → ParserMarked q → Each (NumberMarked Mark) (numbered_in_all (found_parser q).beginning ++ flat_map numbered_in_state (found_parser q).states)
  found_parser_marked None h = tt
  found_parser_marked (Some q) h = h

  pub switch_marked : (env : Environment) (start : Content) → CallablesMarked env.program.callables → Goes (runs_switch env start)
  switch_marked env start h =
      let q = parser_of env in
      let shared = starting_shared env start in
      goes_then (parses env.bounds.steps (reach_of env []) q (store_for env q.parameters q.variables shared))
      (λ after. with_end env (shared_after (length q.parameters) after.store shared) (parser_end after.result))
      (parses_marked env.bounds.steps (reach_of env []) q (reach_of_marked env [] tt)
      (found_parser_marked (parser_at env.program env.program.blocks.parser) (parser_at_marked env.program.callables env.program.blocks.parser h))
      (store_for env q.parameters q.variables shared))
      (λ after. with_end_marked env (shared_after (length q.parameters) after.store shared) (parser_end after.result) h)

-- ---- each and contains

mapped_at : {A B : Type 0} → (f : A → B) (xs : List A) (x : A) (k : ℕ) → k < length xs → slice_index_or xs k x ≡ x → Contains (map f xs) (f x)
mapped_at f [] x k l e = absurd (omega (arith, l))
mapped_at f (y ∷ xs) x zero l e = (0, omega arith, ap f e)
mapped_at f (y ∷ xs) x (suc k) l e =
    later_in (f y) (f x) (map f xs) (mapped_at f xs x k (le_of_suc-le-suc l) e)

-- ---- the law

pub run_marks : (p : CoreProgram) (b : Bounds) (x : Input) (outcome : Outcome) (marks : List ℕ) → Run p b x outcome marks
    → (n : ℕ) → Contains marks n → Contains (map (λ s. s.number) (statements_numbered p)) n
run_marks p b x outcome marks run n c =
    let numbers = map (λ s. s.number) (statements_numbered p) in
    let Mark : ℕ → Type 0 = λ n. Contains numbers n in
    let each : Each (NumberMarked Mark) (statements_numbered p) =
    each_of (NumberMarked Mark) (statements_numbered p) (λ s h. mapped_at (λ s. s.number) (statements_numbered p) s h.0 h.1 h.2) in
    let env = environment p b x in
    let begun : Each Mark run.run.run.begun =
    (along_made Mark (λ end. ⊤) (runs_switch env (unspecified_metadata env)) run.reads run.run.run.begun _
    (switch_marked Mark env (unspecified_metadata env) each) run.run.run.makes).0 in
    each_in Mark marks n (subst (Each Mark) (sym run.run.run.marked) (kept Mark outcome run.run.run.begun begun)) c
  where
    kept : (Mark : ℕ → Type 0) (outcome : Outcome) (begun : List ℕ) → Each Mark begun → Each Mark (marks_of outcome begun)
    kept Mark (Sent port bytes) begun h = h
    kept Mark Dropped begun h = h
    kept Mark Overrun begun h = tt
