-- The scope of the rules that a scope in code is.
use Rattle.std.specs.Prelude.{ℕ, List, [], ◌∷◌, map, reverse, Result}
use Rattle.p4_rules.specs.declared.faults.Pass.{Pass}
use Rattle.p4_rules.specs.declared.types.SourceType.{SourceType}
use Rattle.p4_rules.specs.declared.types.FieldOf.{FieldOf}
use Rattle.p4_rules.specs.Chains as chains
use Rattle.p4_rules.specs.Scopes as rules
use Rattle.p4_rules.specs.declared.faults.Fault.{Fault}
use Rattle.p4_consts.specs.declared.meanings.Meaning.{Meaning}
use Rattle.p4_consts.specs.declared.scopes.Scope.{Scope}
use Rattle.p4_consts.specs.declared.scopes.Depths.{Depths}
use Rattle.p4_consts.specs.Meanings.{meaning_of, told_meaning}

abbrev pub fields_of : List (List ℕ × SourceType) → List FieldOf
fields_of names = map (λ e. record { name = e.0; type_of = e.1 }) names

-- members of an enumeration, and the names of a scope
abbrev pub members_of : List (List ℕ × Meaning) → List (List ℕ × rules.Meaning)
members_of names = map (λ e. (e.0, meaning_of e.1)) names

abbrev pub told_names : List (List ℕ × Result Meaning Fault) → rules.Names
told_names names = map (λ e. (e.0, told_meaning e.1)) names

abbrev pub depths_of : Depths → chains.Depths
depths_of d = record { callables = d.callables; tables = d.tables; children = d.children }

-- the scope in a pass, in which names and constants are refused there
abbrev pub scope_in : Pass → Scope → rules.Scope
scope_in pass s = record {
  structs = map fields_of s.structs.items;
  headers = map fields_of s.headers.items;
  enumerations = map members_of s.enumerations.items;
  errors = map (λ e. e.0) s.errors;
  error_count = s.error_count;
  top = told_names s.top;
  inner = reverse (map told_names s.inner.items);
  shapes = s.shapes;
  table_actions = s.table_actions.items;
  depths = depths_of s.depths;
  pass = pass;
  here = s.here;
  allowed = s.allowed;
  statement = s.statement;
  variable = s.variable;
  callable = s.callable;
  table = s.table;
  child = s.child;
}

-- the scope around the innermost one
abbrev pub outer_of : List rules.Names → List rules.Names
outer_of [] = []
outer_of (names ∷ outer) = outer

abbrev pub left : rules.Scope → rules.Scope
left Γ = record Γ { inner = outer_of Γ.inner }
