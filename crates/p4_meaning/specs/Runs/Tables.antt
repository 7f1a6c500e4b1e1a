-- The application of a table (P4-16, "Match-action unit invocation"): keys in order, winner, action, hit or miss.
use Rattle.std.specs.Prelude.{ℕ, suc, ◌==◌, true, false, List, [], ◌∷◌, ◌++◌, map, filter, Option, Some, None, slice_get}
use Rattle.std.specs.List.{position}
use Rattle.std.specs.Option.{option_map_or}
use Rattle.p4_program.specs.declared.typed.input.Entry.{Entry}
use Rattle.p4_program.specs.declared.typed.tables.ConstantEntry.{ConstantEntry}
use Rattle.p4_program.specs.Syntax.Callables.{CoreTable}
use Rattle.p4_program.specs.Syntax.Lookup.{is_ordered}
use Rattle.p4_meaning.specs.Runs.Acts.{Act, gives, ◌>>=◌, ◌>>◌}
use Rattle.p4_meaning.specs.Runs.Calls.{runs_with, callee_of}
use Rattle.p4_meaning.specs.Runs.Contents.{number_in}
use Rattle.p4_meaning.specs.Runs.Expressions.{Reach, Applied, evaluate_all}
use Rattle.p4_program.specs.Winners.{Candidate, winner}

-- ---- entries

abbrev pub of_entry : Entry → Candidate
of_entry e = record { keys = e.keys; action = e.action; arguments = e.arguments; rank = e.priority }

abbrev pub of_constant : ℕ → ConstantEntry → Candidate
of_constant place e = record { keys = e.keys; action = e.action; arguments = e.arguments; rank = place }

abbrev pub of_constants : ℕ → List ConstantEntry → List Candidate
of_constants place [] = []
of_constants place (e ∷ es) = of_constant place e ∷ of_constants (suc place) es

-- "Entries": a table that has constant entries has these alone, also where there are none of them; another has those that the
-- control plane put into it.
abbrev pub candidates_in : Option (List ConstantEntry) → ℕ → List Entry → List Candidate
candidates_in (Some es) number entries = of_constants 0 es
candidates_in None number entries = map of_entry (filter (λ e. e.table == number) entries)

-- ---- the action

-- the place in the list where this action stands, if it does
abbrev pub place_of : CoreTable → ℕ → Option ℕ
place_of t action = position (λ listed. listed.action == action) t.actions

abbrev pub action_of : CoreTable → ℕ → ℕ
action_of t place = option_map_or (λ listed. listed.action) (slice_get t.actions place) 0

-- the winner's action, or without a match "Default action"
abbrev pub runs_for : Reach → CoreTable → Option Candidate → Act Applied
runs_for Γ t (Some w) =
    runs_with Γ (callee_of Γ.actions (action_of t w.action)) w.arguments >> gives (record { hit = true; ran = Some w.action })
runs_for Γ t None =
    runs_with Γ (callee_of Γ.actions t.default_action) t.default_arguments
    >> gives (record { hit = false; ran = place_of t t.default_action })

-- The table has this number among those of the program.
abbrev pub table_applies : Reach → ℕ → CoreTable → Act Applied
table_applies Γ number t =
    evaluate_all Γ (map (λ k. k.value) t.keys) >>= λ values.
    runs_for Γ t (winner (is_ordered t) (candidates_in t.entries number Γ.environment.input.entries) (map number_in values))

-- The tables of a control behind those that are known. A table's keys can apply the tables before it.
abbrev pub with_tables : Reach → List ℕ → List CoreTable → Reach
with_tables Γ (number ∷ numbers) (t ∷ ts) =
    with_tables (record Γ { tables = Γ.tables ++ table_applies Γ number t ∷ [] }) numbers ts
with_tables Γ _ _ = Γ
