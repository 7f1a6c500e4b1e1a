-- The run of a built program, from what its blocks are.
use Rattle.std.proofs.Common.{◌≡◌, ℕ, true, false, List, [], ◌∷◌, ◌++◌, length, refl, ap, ◌∙◌}
use Rattle.std.specs.Prelude.{◌==◌, take, if◌then◌else◌}
use Rattle.p4_program.specs.declared.outcome.Outcome.{Outcome}
use Rattle.p4_program.specs.declared.outcome.Outcome.TheVariants.{Sent, Dropped}
use Rattle.p4_program.specs.declared.typed.callables.Parameter.{Parameter}
use Rattle.p4_program.specs.declared.typed.types.Scalar.{Scalar}
use Rattle.p4_program.specs.declared.typed.types.Scalar.TheVariants.{Sized}
use Rattle.p4_program.specs.declared.v1model.TheConstants.{DROP_PORT}
use Rattle.p4_program.specs.Built.{BuiltStatements}
use Rattle.p4_program.specs.Syntax.Statements.{CoreStatements, NoStatements}
use Rattle.p4_meaning.specs.Runs.Acts.{Environment, Store, gives, no_error}
use Rattle.p4_meaning.specs.Runs.Bodies.{reach_of}
use Rattle.p4_meaning.specs.Runs.BuiltRuns.{egress_after, outcome_at}
use Rattle.p4_meaning.specs.Runs.Contents.{Content}
use Rattle.p4_meaning.specs.Runs.Courses.{Course, Ends}
use Rattle.p4_meaning.specs.Runs.Courses as course
use Rattle.p4_meaning.specs.Runs.Expressions.{Reach, Callee}
use Rattle.p4_meaning.specs.Runs.Metadata.{starting_metadata}
use Rattle.p4_meaning.specs.Runs.Parser.{Ended, parser_end}
use Rattle.p4_meaning.specs.Runs.Statements.{runs_all}
use Rattle.p4_meaning.specs.Runs.Switch.{Shared, Finished, runs_block, block_of, shared_after, store_for, drops_or, leaves, to_deparser, after_egress, from_egress, entering_egress, drop_decision, after_parser, with_end, runs_parser, parser_of, runs_switch, starting_shared}
use Rattle.p4_meaning.proofs.BuiltBodies.{marking, marking_then, numbers_in, standard_with, store_with, body_runs, accepting, parses_at_once}

-- a body with this many parameters and no variables, which runs these statements
abbrev pub callee_with : Reach → List Parameter → CoreStatements → Callee
callee_with Γ parameters body = record { parameters = parameters; variables = []; body = runs_all Γ body }

-- the block is such a body
pub record BlockIs (env : Environment) (instance count : ℕ) (body : CoreStatements) : Type 0 where
  pub reach : Reach
  pub parameters : List Parameter
  pub as_many : length parameters ≡ count
  pub is : block_of env instance ≡ callee_with reach parameters body

-- what the parser is
pub record ParserIs (env : Environment) : Type 0 where
  pub parameters : List Parameter
  pub as_many : length parameters ≡ 3
  pub start : ℕ
  pub is : parser_of env ≡ accepting parameters start

-- what the blocks are, and the statements of ingress
pub record BlocksAre (env : Environment) (body : CoreStatements) : Type 0 where
  pub parser : ParserIs env
  pub verify : BlockIs env env.program.blocks.verify 2 NoStatements
  pub ingress : BlockIs env env.program.blocks.ingress 3 body
  pub egress : BlockIs env env.program.blocks.egress 3 NoStatements
  pub compute : BlockIs env env.program.blocks.compute 2 NoStatements
  pub deparser : BlockIs env env.program.blocks.deparser 1 NoStatements

module _ (env : Environment) where
  -- what a block leaves of what is shared, by the number of its parameters
  abbrev left_by : ℕ → Store → Shared → Course Shared
  left_by count store shared = Ends (shared_after count store shared)

  -- how many bytes a block of so many parameters begins with
  abbrev store_of : ℕ → Shared → Store
  store_of count shared = record {
    block = take count (shared.headers ∷ shared.metadata ∷ shared.standard ∷ []) ++ [];
    action = [];
    cursor = shared.cursor;
    emitted = shared.emitted;
    wrong_sum = false;
  }

  by_block : (instance count : ℕ) (body : CoreStatements) (block : BlockIs env instance count body) (shared : Shared)
      → runs_block env (block_of env instance) shared
      ≡ course.◌>>=◌ (runs_all block.reach body (store_of count shared)) (λ after. Ends (shared_after count after.store shared))
  by_block instance count body block shared =
      ap (λ callee. runs_block env callee shared) block.is
      ∙ ap (λ k. course.◌>>=◌ (runs_all block.reach body (store_of k shared)) (λ after. Ends (shared_after k after.store shared))) block.as_many

  one_empty : (instance : ℕ) → BlockIs env instance 1 NoStatements → (shared : Shared) → runs_block env (block_of env instance) shared ≡ Ends shared
  one_empty instance block shared = by_block instance 1 NoStatements block shared

  two_empty : (instance : ℕ) → BlockIs env instance 2 NoStatements → (shared : Shared) → runs_block env (block_of env instance) shared ≡ Ends shared
  two_empty instance block shared = by_block instance 2 NoStatements block shared

  three_empty : (instance : ℕ) → BlockIs env instance 3 NoStatements → (shared : Shared) → runs_block env (block_of env instance) shared ≡ Ends shared
  three_empty instance block shared = by_block instance 3 NoStatements block shared

  -- what is shared while nothing is taken or emitted
  abbrev pub shared_with : (h m s : Content) → Shared
  shared_with h m s = record { headers = h; metadata = m; standard = s; cursor = 0; emitted = [] }

  abbrev finished : Outcome → Content → Course Finished
  finished outcome m = Ends (record { outcome = outcome; metadata = m })

  module _ (body : CoreStatements) (blocks : BlocksAre env body) (h m : Content) where
    abbrev standard_at : Scalar → ℕ → Content
    standard_at scalar value = standard_with env.program.errors env.input scalar value

    to_deparser_is : (s : Content) (port : ℕ)
        → to_deparser env port (shared_with h m s) ≡ finished (Sent port env.input.packet) m
    to_deparser_is s port =
        ap (λ c. course.◌>>=◌ c (λ computed. course.◌>>=◌ (runs_block env (block_of env env.program.blocks.deparser) computed) (λ emitted. leaves env port emitted)))
        (two_empty env.program.blocks.compute blocks.compute (shared_with h m s))
        ∙ ap (λ c. course.◌>>=◌ c (λ emitted. leaves env port emitted)) (one_empty env.program.blocks.deparser blocks.deparser (shared_with h m s))

    from_egress_is : (scalar : Scalar) (value port : ℕ)
        → from_egress env port (shared_with h m (standard_at scalar value)) ≡ finished (Sent port env.input.packet) m
    from_egress_is scalar value port =
        let entered = entering_egress port (shared_with h m (standard_at scalar value)) in
        ap (λ c. course.◌>>=◌ c (λ after. after_egress env port after)) (three_empty env.program.blocks.egress blocks.egress entered)
        ∙ to_deparser_is entered.standard port

    drop_decision_is : (scalar : Scalar) (value : ℕ)
        → drop_decision env (shared_with h m (standard_at scalar value)) ≡ finished (outcome_at value env.input.packet) m
    drop_decision_is scalar value =
        elim (value == DROP_PORT) as (λ b. drops_or b (from_egress env value) (shared_with h m (standard_at scalar value))
        ≡ finished (if b then Dropped else Sent value env.input.packet) m) [
          | true ↦ refl
          | false ↦ from_egress_is scalar value value
        ]

    ingress_is : BuiltStatements body → course.◌>>=◌ (runs_block env (block_of env env.program.blocks.ingress) (shared_with h m (standard_at (Sized 9) 0))) (drop_decision env)
        ≡ marking (numbers_in body) (finished (outcome_at (egress_after 0 body) env.input.packet) m)
    ingress_is built =
        let block = blocks.ingress in
        let start = shared_with h m (standard_at (Sized 9) 0) in
        let ran = body_runs block.reach h m env.program.errors env.input body built (Sized 9) 0 in
        let after = shared_with h m (standard_at ran.scalar (egress_after 0 body)) in
        let left : runs_block env (block_of env env.program.blocks.ingress) start ≡ marking (numbers_in body) (Ends after) =
        by_block env.program.blocks.ingress 3 body block start
        ∙ ap (λ c. course.◌>>=◌ c (λ after. Ends (shared_after 3 after.store start))) ran.is
        ∙ marking_then (numbers_in body) (gives tt (store_with h m (standard_at ran.scalar (egress_after 0 body)))) (λ after. Ends (shared_after 3 after.store start)) in
        ap (λ c. course.◌>>=◌ c (drop_decision env)) left
        ∙ marking_then (numbers_in body) (Ends after) (drop_decision env)
        ∙ ap (marking (numbers_in body)) (drop_decision_is ran.scalar (egress_after 0 body))

    after_parser_is : BuiltStatements body → after_parser env (shared_with h m (standard_at (Sized 9) 0))
        ≡ marking (numbers_in body) (finished (outcome_at (egress_after 0 body) env.input.packet) m)
    after_parser_is built =
        let start = shared_with h m (standard_at (Sized 9) 0) in
        ap (λ c. course.◌>>=◌ c (λ checked. course.◌>>=◌ (runs_block env (block_of env env.program.blocks.ingress) checked) (λ done. drop_decision env done)))
        (two_empty env.program.blocks.verify blocks.verify start)
        ∙ ingress_is built

    parser_is : BuiltStatements body → runs_parser env (parser_of env) (shared_with h m (starting_metadata env.program.errors env.input))
        ≡ marking (numbers_in body) (finished (outcome_at (egress_after 0 body) env.input.packet) m)
    parser_is built =
        let q = blocks.parser in
        let start = shared_with h m (standard_at (Sized 9) 0) in
        ap (λ parser. runs_parser env parser start) q.is
        ∙ ap (λ c. course.◌>>=◌ c (λ after. with_end env (shared_after (length q.parameters) after.store start) (parser_end after.result)))
        (parses_at_once env.bounds.steps env.bounds.some_steps (reach_of env []) q.parameters q.start (store_for env q.parameters [] start))
        ∙ ap (λ k. with_end env (shared_after k (store_of k start) start) (Ended no_error)) q.as_many
        ∙ after_parser_is built

-- The run of a program whose blocks are so.
pub switch_is : (env : Environment) (body : CoreStatements) → BlocksAre env body → BuiltStatements body → (m : Content)
    → runs_switch env m ≡ marking (numbers_in body) (Ends (record { outcome = outcome_at (egress_after 0 body) env.input.packet; metadata = m }))
switch_is env body blocks built m = parser_is env body blocks (starting_shared env m).headers m built
