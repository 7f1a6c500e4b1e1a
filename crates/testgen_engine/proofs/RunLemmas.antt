-- Lemmas on runs: those of an input end alike, and begin every statement in order.
use Rattle.std.proofs.Common.{◌≡◌, ◌≢◌, ℕ, ◌+◌, ◌<◌, ◌≤◌, true, false, List, [], ◌∷◌, ◌++◌, length, map, inl, inr, refl, ap, sym, ◌∙◌, subst, arith, append-nil, if◌then◌else◌}
use Prim.Native.Nat.{zero, suc}
use Rattle.std.proofs.Math.Dec.{eqb}
use Rattle.std.proofs.lemmas.Bool.{eqb-true, eq-eqb, cases_lt}
use Rattle.std.specs.List.{Contains}
use Rattle.p4_program.specs.Blocks.{statements_of}
use Rattle.p4_program.specs.Input.{Bounded}
use Rattle.p4_program.specs.Numbered.{number_of, numbers_from}
use Rattle.p4_program.specs.declared.bounds.Bounds.{Bounds}
use Rattle.p4_program.specs.declared.input.Input.{Input}
use Rattle.p4_program.specs.declared.program.Program.{Program}
use Rattle.p4_program.specs.declared.program.Statement.{Statement}
use Rattle.p4_program.specs.declared.program.StatementKind.{StatementKind}
use Rattle.p4_program.specs.declared.program.StatementKind.TheVariants.{AssignEgressSpec, MarkToDrop}
use Rattle.p4_program.specs.declared.v1model.Block.{Block}
use Rattle.p4_program.specs.declared.v1model.Block.TheVariants.{Verify, Egress, Compute, Deparser}
use Rattle.p4_program.specs.declared.v1model.TheConstants.{DROP_PORT}
use Rattle.p4_program.specs.declared.outcome.Outcome.{Outcome}
use Rattle.p4_program.specs.declared.outcome.Outcome.TheVariants.{Sent, Dropped}
use Rattle.p4_program.specs.declared.outcome.Shape.TheVariants as shape
use Rattle.p4_meaning.specs.Execution.{End, Next}
use Rattle.p4_meaning.specs.Good.{Good}
use Rattle.p4_program.specs.Outcome.{shape_of}
use Rattle.p4_meaning.specs.Parser.{ParserEnd, Ended, Overran, ParsesWithin}
use Rattle.p4_meaning.specs.Reads.{Read}
use Rattle.p4_meaning.specs.Run.{Run}
use Rattle.p4_meaning.specs.Statements.{Does, Exec, ExecAll}
use Rattle.p4_meaning.specs.Store.{Environment, Store, with_metadata}
use Rattle.p4_meaning.specs.V1modelMetadata.{no_error}
use Rattle.p4_meaning.specs.V1modelRun.{Onward, BlockThen, DropDecision, FromEgress, AfterParser, entering_egress}
use Rattle.testgen_engine.specs.Decide.{egress_of, egress_after}

-- how a run ends where ingress leaves this egress_spec
abbrev pub outcome_at : ℕ → List ℕ → Outcome
outcome_at value packet = if eqb value DROP_PORT then Dropped else Sent value packet

-- a store with this egress_spec: no group, no error, nothing taken or emitted
abbrev store_at : ℕ → Store
store_at value = record {
  metadata = record { egress_spec = value; egress_port = 0; mcast_grp = 0; parser_error = no_error };
  cursor = 0;
  emitted = [];
}

-- what a run of something comes to: its store, its marks and its end
record ComesTo (after : Store) (begun : List ℕ) (new : Store) (marks : List ℕ) (end : End) : Type 0 where
  store : new ≡ after
  marked : marks ≡ begun
  ended : end ≡ Next

-- one statement
does_one : (env : Environment) (kind : StatementKind) (value : ℕ) (new : Store) (reads : List Read) (marks : List ℕ) (end : End)
    → Does env kind (store_at value) new reads marks end → ComesTo (store_at (egress_of kind)) [] new marks end
does_one env (AssignEgressSpec n) value new reads marks end h = record { store = h.store; marked = h.no_mark; ended = h.ends }
does_one env MarkToDrop value new reads marks end h = record { store = h.store; marked = h.no_mark; ended = h.ends }

exec_one : (env : Environment) (s : Statement) (value : ℕ) (new : Store) (reads : List Read) (marks : List ℕ) (end : End)
    → Exec env s (store_at value) new reads marks end → ComesTo (store_at (egress_of s.kind)) (s.number ∷ []) new marks end
exec_one env s value new reads marks end h =
    let body = does_one env s.kind value new reads h.later end h.body in
    record { store = body.store; marked = h.marked ∙ ap (λ ms. s.number ∷ ms) body.marked; ended = body.ended }

-- statements leave one store, and each of them begins
exec_all : (env : Environment) (ss : List Statement) (value : ℕ) (new : Store) (reads : List Read) (marks : List ℕ) (end : End)
    → ExecAll env ss (store_at value) new reads marks end → ComesTo (store_at (egress_after value ss)) (map number_of ss) new marks end
exec_all env [] value new reads marks end h = record { store = h.store; marked = h.no_mark; ended = h.ends }
exec_all env (s ∷ ss) value new reads marks end (inl h) =
    let one = exec_one env s value h.between h.first_reads h.first_marks Next h.first in
    let others = exec_all env ss (egress_of s.kind) new h.other_reads h.other_marks end
    (subst (λ store. ExecAll env ss store new h.other_reads h.other_marks end) one.store h.others) in
    record { store = others.store; marked = h.all_marks ∙ (λ i. one.marked i ++ others.marked i); ended = others.ended }
exec_all env (s ∷ ss) value new reads marks end (inr h) = absurd (h.ended (exec_one env s value new reads marks end h.first).ended)

-- through a block without statements
through_empty : (env : Environment) (block : Block) (Rest : Onward) (old : Store) (reads : List Read) (marks : List ℕ) (outcome : Outcome)
    → statements_of env.program block ≡ [] → BlockThen env block Rest old reads marks outcome → (rest_reads : List Read) × Rest old rest_reads marks outcome
through_empty env block Rest old reads marks outcome none h =
    let ran = subst (λ ss. ExecAll env ss old h.after h.block_reads h.block_marks h.end) none h.runs in
    let all : marks ≡ h.rest_marks = h.all_marks ∙ ap (λ ms. ms ++ h.rest_marks) ran.no_mark in
    (h.rest_reads, subst (λ ms. Rest old h.rest_reads ms outcome) (sym all) (subst (λ store. Rest store h.rest_reads h.rest_marks outcome) ran.store h.rest))

-- what a run comes to: its outcome and its marks
record EndsWith (sent : Outcome) (begun : List ℕ) (outcome : Outcome) (marks : List ℕ) : Type 0 where
  leaves : outcome ≡ sent
  marked : marks ≡ begun

-- egress and what follows it change nothing
from_egress : (env : Environment) (value : ℕ) (reads : List Read) (marks : List ℕ) (outcome : Outcome)
    → FromEgress env (store_at value) reads marks outcome → EndsWith (Sent value env.input.packet) [] outcome marks
from_egress env value reads marks outcome h =
    let after = through_empty env Egress _ (entering_egress (store_at value)) reads marks outcome refl h in
    elim after.1 [
      | inl drop ↦ let none : 0 ≡ DROP_PORT = drop.0 in absurd (omega arith)
      | inr on ↦
          let computed = through_empty env Compute _ _ after.0 marks outcome refl on.1 in
          let deparsed = through_empty env Deparser _ _ computed.0 marks outcome refl computed.1 in
          record { leaves = deparsed.1.sent; marked = deparsed.1.no_mark }
    ]

-- the drop decision
decision : (env : Environment) (value : ℕ) (reads : List Read) (marks : List ℕ) (outcome : Outcome)
    → DropDecision env (store_at value) reads marks outcome → EndsWith (outcome_at value env.input.packet) [] outcome marks
decision env value reads marks outcome (inl (inl group, drops)) = absurd (group refl)
decision env value reads marks outcome (inl (inr drop, drops)) = record { leaves = drops.dropped ∙ sym (rw (eq-eqb value DROP_PORT drop) refl); marked = drops.no_mark }
decision env value reads marks outcome (inr (other, on)) =
    let sent = from_egress env value reads marks outcome on in
    elim (eqb value DROP_PORT) as (λ b. eqb value DROP_PORT ≡ b → EndsWith (if b then Dropped else Sent value env.input.packet) [] outcome marks) [
      | true ↦ λ e. absurd (other (inr (eqb-true value DROP_PORT e)))
      | false ↦ λ e. sent
    ] refl

-- the egress_spec that the program's ingress leaves
abbrev pub egress : Program → ℕ
egress p = egress_after 0 p.statements

after_parser : (env : Environment) (reads : List Read) (marks : List ℕ) (outcome : Outcome)
    → AfterParser env (store_at 0) reads marks outcome → EndsWith (outcome_at (egress env.program) env.input.packet) (map number_of env.program.statements) outcome marks
after_parser env reads marks outcome h =
    let verified = through_empty env Verify _ (store_at 0) reads marks outcome refl h in
    let ingress = verified.1 in
    let ran = exec_all env env.program.statements 0 ingress.after ingress.block_reads ingress.block_marks ingress.end ingress.runs in
    let decided = decision env (egress env.program) ingress.rest_reads ingress.rest_marks outcome
    (subst (λ store. DropDecision env store ingress.rest_reads ingress.rest_marks outcome) ran.store ingress.rest) in
    record { leaves = decided.leaves; marked = ingress.all_marks ∙ (λ i. ran.marked i ++ decided.marked i) ∙ append-nil (map number_of env.program.statements) }

-- what the parser comes to
record ParsesTo (old new : Store) (marks : List ℕ) (end : ParserEnd) : Type 0 where
  store : new ≡ old
  marked : marks ≡ []
  ended : end ≡ Ended no_error

-- it accepts where a state may be entered
parses : (steps : ℕ) (env : Environment) (old new : Store) (reads : List Read) (marks : List ℕ) (end : ParserEnd)
    → 1 ≤ steps → ParsesWithin steps env old new reads marks end → ParsesTo old new marks end
parses zero env old new reads marks end some h = absurd (omega arith)
parses (suc steps) env old new reads marks end some (inl h) = record { store = h.body.store; marked = h.body.no_mark; ended = h.ended }
parses (suc steps) env old new reads marks end some (inr h) = let none = h.body.ends in cc

-- each run of an input is this one
run_ends : (p : Program) (b : Bounds) (x : Input) (outcome : Outcome) (marks : List ℕ) → Run p b x outcome marks
    → EndsWith (outcome_at (egress p) x.packet) (map number_of p.statements) outcome marks
run_ends p b x outcome marks run =
    let env : Environment = record { program = p; bounds = b; input = x } in
    elim run.under [
      | inl h ↦
          let parsed = parses b.steps env (store_at 0) h.after h.parser_reads h.parser_marks (Ended h.error) b.some_steps h.parses in
          let error : h.error ≡ no_error = let same = parsed.ended in cc in
          let on : AfterParser env (store_at 0) h.rest_reads h.rest_marks outcome =
          subst (λ store. AfterParser env store h.rest_reads h.rest_marks outcome)
          (λ i. with_metadata (record (parsed.store i).metadata { parser_error = error i }) (parsed.store i)) h.rest in
          let rest = after_parser env h.rest_reads h.rest_marks outcome on in
          record { leaves = rest.leaves; marked = h.all_marks ∙ ap (λ ms. ms ++ h.rest_marks) parsed.marked ∙ rest.marked }
      | inr h ↦
          let parsed = parses b.steps env (store_at 0) h.after run.reads h.parser_marks Overran b.some_steps h.parses in
          let none = parsed.ended in
          cc
    ]

-- so its outcome is known, and it begins the statements in the order of their numbers
pub run_is : (p : Program) (b : Bounds) (x : Input) (outcome : Outcome) (marks : List ℕ) → Run p b x outcome marks
    → (outcome ≡ outcome_at (egress p) x.packet) × (marks ≡ numbers_from 1 (length p.statements))
run_is p b x outcome marks run =
    let ends = run_ends p b x outcome marks run in
    (ends.leaves, ends.marked ∙ p.numbered)

-- what a run sends is the packet that came in
pub sent_is : (p : Program) (b : Bounds) (x : Input) (port : ℕ) (bytes marks : List ℕ) → Run p b x (Sent port bytes) marks → bytes ≡ x.packet
sent_is p b x port bytes marks run =
    elim (eqb (egress p) DROP_PORT) as (λ t. Sent port bytes ≡ (if t then Dropped else Sent (egress p) x.packet) → bytes ≡ x.packet) [
      | true ↦ λ e. cc
      | false ↦ λ e. cc
    ] (run_is p b x (Sent port bytes) marks run).0

-- a run that is sent or dropped is no overrun
no_overrun : (value : ℕ) (packet : List ℕ) → shape_of (outcome_at value packet) ≢ shape.Overrun
no_overrun value packet = elim (eqb value DROP_PORT) as (λ b. shape_of (if b then Dropped else Sent value packet) ≢ shape.Overrun) [ true ↦ λ e. cc | false ↦ λ e. cc ]

-- the numbers from the first on are among them
Contains_numbers : (first count n : ℕ) → first ≤ n → n < first + count → Contains (numbers_from first count) n
Contains_numbers first zero n low high = absurd (omega arith)
Contains_numbers first (suc count) n low high =
    elim (cases_lt first n) as (λ _. Contains (numbers_from first (suc count)) n) [
      | inl later ↦
          let found = Contains_numbers (suc first) count n (omega arith) (omega arith) in
          (suc found.0, omega arith, found.2)
      | inr here ↦ let same : first ≡ n = omega arith in (0, omega arith, same)
    ]

-- every bounded input is good for every statement
pub good_for_all : (p : Program) (b : Bounds) (x : Input) → Bounded p b x → (statement : ℕ) → 1 ≤ statement → statement ≤ length p.statements → Good p b x statement
good_for_all p b x bounded statement low high = record {
  bounded = bounded;
  steady = record {
    shape = shape_of (outcome_at (egress p) x.packet);
    no_overrun = no_overrun (egress p) x.packet;
    each = λ outcome marks run. ap shape_of (run_is p b x outcome marks run).0;
  };
  runs = λ outcome marks run. subst (λ ms. Contains ms statement) (sym (run_is p b x outcome marks run).1) (Contains_numbers 1 (length p.statements) statement low (omega arith));
}
