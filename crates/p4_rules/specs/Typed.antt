-- The typed program of a source, or its faults.
use Rattle.std.specs.Prelude.{Bool, ◌≡◌, ℕ, ◌+◌, List, [], ◌∷◌, map, length, Option, None, Some, Contains}
use Rattle.std.specs.List.{flat_map}
use Rattle.tg_base.specs.declared.place.Refusal.{Refusal}
use Rattle.tg_base.specs.declared.place.Span.{Span}
use Rattle.p4_tree.specs.declared.declarations.Source.{Source}
use Rattle.p4_program.specs.Syntax.Callables.{CoreCallable}
use Rattle.p4_program.specs.Syntax.Callables as core
use Rattle.p4_program.specs.Syntax.Statements as statements
use Rattle.p4_program.specs.Syntax.Programs.{CoreProgram}
use Rattle.p4_rules.specs.declared.faults.Fault.{Fault}
use Rattle.p4_rules.specs.Faults.{Checked, Right, Wrong, faults_of, both, beside, Decides}
use Rattle.p4_rules.specs.Scopes.{Scope, header_type, struct_type}
use Rattle.p4_rules.specs.Core.{core_errors, core_scope}
use Rattle.p4_rules.specs.Tops.{Roles, Pieces, tops, right_pieces, behind_tops}
use Rattle.p4_rules.specs.Packages.{SixNumbers, blocks_named, roles_of, mains_of, before_main, package_of, switch_trees, switch_instances, placed_tables, named_table, core_instances, roots_of, blocks_at, names_once}
use Rattle.p4_rules.specs.Stores.{stores_within}
use Rattle.p4_rules.specs.Limits.{declarations_of, errors_in, within_limits}

abbrev pub roles_in : Source → Roles
roles_in s = roles_of (blocks_named s)

-- the scope before the source, which knows how many errors there will be
abbrev pub first_scope : Source → Scope
first_scope s = core_scope (length core_errors + length (flat_map errors_in (declarations_of s.parts)))

-- "The P4 core library": the action that does nothing, which is the first callable
abbrev pub no_action : CoreCallable
no_action = core.OfAction (record { within = None; parameters = []; variables = []; body = statements.NoStatements })

abbrev pub program_of : Scope → Pieces → (SixNumbers × Span) → CoreProgram
program_of Γ made main = let placed = switch_instances made.planes main.0 in let tables = placed_tables made.planes placed in record {
  headers = map header_type Γ.headers;
  structs = map (struct_type Γ) Γ.structs;
  errors = Γ.error_count;
  callables = no_action ∷ made.callables;
  instances = core_instances made.planes tables 0 placed;
  tables = map (named_table made.actions) tables;
  blocks = blocks_at main.0.parser (roots_of 0 (switch_trees made.planes main.0));
  main = main.1;
}

-- what the package is, where `main` stands
abbrev pub package_in : Source → Checked (SixNumbers × Span)
package_in s = package_of (before_main (roles_in s) (first_scope s) s.parts) s.end (mains_of s.parts)

abbrev pub blocks_if_right : Checked (SixNumbers × Span) → Option SixNumbers
blocks_if_right (Right main) = Some main.0
blocks_if_right (Wrong fault more) = None

-- the names of tables and actions, so far as these are right
abbrev pub names_in : Source → Checked Bool
names_in s = let made = right_pieces (roles_in s) (first_scope s) s.parts in
    names_once made.planes made.actions (blocks_if_right (package_in s))

-- A source is its typed program, or it is wrong.
abbrev pub checked : Source → Checked CoreProgram
checked s = beside (within_limits s.parts) (beside (stores_within (roles_in s) (first_scope s) (blocks_named s) s.parts) (beside (names_in s)
    (both (program_of (behind_tops (roles_in s) (first_scope s) s.parts)) (tops (roles_in s) (first_scope s) s.parts) (package_in s))))

-- the source has this typed program
abbrev pub Elaborates : Source → CoreProgram → Type 0
Elaborates s p = checked s ≡ Right p

-- the faults of a source
abbrev pub source_faults : Source → List Fault
source_faults s = faults_of (checked s)

abbrev pub Faults : Source → Fault → Type 0
Faults s fault = Contains (source_faults s) fault

-- the refusal of a source, in the pass of this number: of its faults the one that decides
abbrev pub IsRefusedIn : Source → ℕ → Refusal → Type 0
IsRefusedIn s pass refusal = Decides (source_faults s) pass refusal
