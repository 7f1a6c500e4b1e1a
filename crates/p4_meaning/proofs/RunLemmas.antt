-- Every bounded input has a run.
use Rattle.std.proofs.Common.{◌≡◌, ◌≤◌, ◌⊎◌, ℕ, true, false, List, [], ◌∷◌, map, inl, inr, refl, sym, ◌∙◌, arith}
use Prim.Native.Nat.{zero, suc}
use Rattle.std.proofs.Math.Dec.{eqb}
use Rattle.std.proofs.lemmas.Bool.{false≢true, eqb-true, eq-eqb}
use Rattle.p4_program.specs.Input.{Bounded}
use Rattle.p4_program.specs.Blocks.{statements_of}
use Rattle.p4_program.specs.Numbered.{number_of}
use Rattle.p4_program.specs.declared.bounds.Bounds.{Bounds}
use Rattle.p4_program.specs.declared.input.Input.{Input}
use Rattle.p4_program.specs.declared.program.Program.{Program}
use Rattle.p4_program.specs.declared.program.Statement.{Statement}
use Rattle.p4_program.specs.declared.program.StatementKind.{StatementKind}
use Rattle.p4_program.specs.declared.program.StatementKind.TheVariants.{AssignEgressSpec, MarkToDrop}
use Rattle.p4_program.specs.declared.v1model.Block.{Block}
use Rattle.p4_program.specs.declared.v1model.Block.TheVariants.{Verify, Ingress, Egress, Compute, Deparser}
use Rattle.p4_program.specs.declared.v1model.TheConstants.{DROP_PORT}
use Rattle.p4_program.specs.declared.outcome.Outcome.{Outcome}
use Rattle.p4_program.specs.declared.outcome.Outcome.TheVariants.{Dropped}
use Rattle.p4_meaning.specs.Execution.{Next, Becomes}
use Rattle.p4_meaning.specs.Parser.{ParsesWithin, Ended}
use Rattle.p4_meaning.specs.Reads.{Read}
use Rattle.p4_meaning.specs.Run.{Run}
use Rattle.p4_meaning.specs.Statements.{Does, Exec, ExecAll}
use Rattle.p4_meaning.specs.Store.{Environment, Store, starting_store, with_metadata}
use Rattle.p4_meaning.specs.V1modelMetadata.{no_error}
use Rattle.p4_meaning.specs.V1modelRun.{Onward, BlockThen, DropsOr, Leaves, IsForDropPort, IsDroppedAfterIngress, AfterEgress, FromEgress, AfterParser}

-- the store becomes any
becomes : (after : Store) → Becomes after after [] [] Next
becomes after = record { store = refl; no_read = refl; no_mark = refl; ends = refl }

-- a statement can be run in any store
does : (env : Environment) (kind : StatementKind) (old : Store) → (new : Store) × Does env kind old new [] [] Next
does env (AssignEgressSpec value) old = (_, becomes _)
does env MarkToDrop old = (_, becomes _)

exec : (env : Environment) (s : Statement) (old : Store) → (new : Store) × Exec env s old new [] (s.number ∷ []) Next
exec env s old =
    let body = does env s.kind old in
    (body.0, record { later = []; body = body.1; marked = refl })

-- and so can statements
exec_all : (env : Environment) (ss : List Statement) (old : Store) → (new : Store) × ExecAll env ss old new [] (map number_of ss) Next
exec_all env [] old = (old, becomes old)
exec_all env (s ∷ ss) old =
    let one = exec env s old in
    let others = exec_all env ss one.0 in (
      others.0,
      inl (record {
        between = one.0;
        first_reads = [];
        first_marks = s.number ∷ [];
        first = one.1;
        other_reads = [];
        other_marks = map number_of ss;
        others = others.1;
        all_reads = refl;
        all_marks = refl;
      }),
    )

-- from this store the run goes on somehow
abbrev GoesOn : Onward → Store → Type 0
GoesOn Rest store = (reads : List Read) × (marks : List ℕ) × (outcome : Outcome) × Rest store reads marks outcome

-- through a block
through : (env : Environment) (block : Block) (Rest : Onward) → ((store : Store) → GoesOn Rest store) → (store : Store) → GoesOn (BlockThen env block Rest) store
through env block Rest rest old =
    let body = exec_all env (statements_of env.program block) old in
    let then = rest body.0 in (
      _,
      _,
      then.2,
      record {
        after = body.0;
        end = Next;
        block_reads = [];
        block_marks = map number_of (statements_of env.program block);
        runs = body.1;
        rest_reads = then.0;
        rest_marks = then.1;
        rest = then.3;
        all_reads = refl;
        all_marks = refl;
      },
    )

-- past a drop that is decided
past_drop : (IsDropped : Store → Type 0) (Rest : Onward) → ((store : Store) → IsDropped store ⊎ (IsDropped store → ⊥)) → ((store : Store) → GoesOn Rest store)
    → (store : Store) → GoesOn (DropsOr IsDropped Rest) store
past_drop IsDropped Rest decide rest store =
    elim (decide store) [
      | inl drop ↦ ([], [], Dropped, inl (drop, record { no_read = refl; no_mark = refl; dropped = refl }))
      | inr other ↦ let then = rest store in (then.0, then.1, then.2, inr (other, then.3))
    ]

-- two numbers are equal or not
same_or_not : (m n : ℕ) → (m ≡ n) ⊎ (m ≡ n → ⊥)
same_or_not m n =
    elim (eqb m n) as (λ b. eqb m n ≡ b → (m ≡ n) ⊎ (m ≡ n → ⊥)) [
      | true ↦ λ e. inl (eqb-true m n e)
      | false ↦ λ e. inr (λ same. false≢true (sym e ∙ eq-eqb m n same))
    ] refl

for_drop_port : (store : Store) → IsForDropPort store ⊎ (IsForDropPort store → ⊥)
for_drop_port store = same_or_not store.metadata.egress_spec DROP_PORT

dropped_after_ingress : (store : Store) → IsDroppedAfterIngress store ⊎ (IsDroppedAfterIngress store → ⊥)
dropped_after_ingress store =
    elim (same_or_not store.metadata.mcast_grp 0) [
      | inr group ↦ inl (inl group)
      | inl no_group ↦ elim (for_drop_port store) [
        | inl drop ↦ inl (inr drop)
        | inr other ↦ inr (λ dropped. elim dropped [ inl group ↦ group no_group | inr drop ↦ other drop ])
      ]
    ]

-- the parts of a run, the last of them first
leaves : (env : Environment) (port : ℕ) (store : Store) → GoesOn (Leaves env port) store
leaves env port store = ([], [], _, record { no_read = refl; no_mark = refl; sent = refl })

after_egress : (env : Environment) (port : ℕ) (store : Store) → GoesOn (AfterEgress env port) store
after_egress env port = past_drop IsForDropPort _ for_drop_port (through env Compute _ (through env Deparser _ (leaves env port)))

from_egress : (env : Environment) (store : Store) → GoesOn (FromEgress env) store
from_egress env store = through env Egress _ (after_egress env store.metadata.egress_spec) _

after_parser : (env : Environment) (store : Store) → GoesOn (AfterParser env) store
after_parser env = through env Verify _ (through env Ingress _ (past_drop IsDroppedAfterIngress _ dropped_after_ingress (from_egress env)))

-- the parser accepts where a state may be entered
accepts : (steps : ℕ) (env : Environment) (old : Store) → 1 ≤ steps → ParsesWithin steps env old old [] [] (Ended no_error)
accepts zero env old some = absurd (omega arith)
accepts (suc steps) env old some = inl (record { body = becomes old; ended = refl })

pub some_run : (p : Program) (b : Bounds) (x : Input) → Bounded p b x → (outcome : Outcome) × (marks : List ℕ) × Run p b x outcome marks
some_run p b x bounded =
    let env : Environment = record { program = p; bounds = b; input = x } in
    let then = after_parser env (with_metadata (record (starting_store env).metadata { parser_error = no_error }) (starting_store env)) in (
      then.2,
      then.1,
      record {
        reads = then.0;
        under = inl (record {
          after = starting_store env;
          error = no_error;
          parser_reads = [];
          parser_marks = [];
          parses = accepts b.steps env (starting_store env) b.some_steps;
          rest_reads = then.0;
          rest_marks = then.1;
          rest = then.3;
          all_reads = refl;
          all_marks = refl;
        });
      },
    )
