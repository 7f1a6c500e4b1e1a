-- What is in force at a place: the conditions that are open there, and the macros. Each directive changes it.
use Rattle.std.specs.Prelude.{ℕ, Bool, true, false, not, if◌then◌else◌, List, [], ◌∷◌, Option, Some, None, is_some}
use Rattle.std.specs.List.{list_all, find, filter}
use Rattle.std.specs.Str.{bytes_eq}
use Rattle.tg_base.specs.declared.place.Span.{Span}
use Rattle.p4_lexer.specs.Cuts.{Cut}
use Rattle.p4_lexer.specs.Directives.{Directive, Define, Undefine, IfDefined, IfNotDefined, Else, EndIf}

-- a condition that is open: the place of its `#`, whether the branch at hand is taken, and whether its `#else` came
pub record Condition : Type 0 where
  pub place : Span
  pub chosen : Bool
  pub turned : Bool

-- a name and what is put in its place
pub record Macro : Type 0 where
  pub name : List ℕ
  pub words : List Cut

-- the open conditions, the innermost first, and the macros, no two of one name
pub record Scope : Type 0 where
  pub conditions : List Condition
  pub macros : List Macro

-- where a text begins
abbrev pub outermost : Scope
outermost = record { conditions = []; macros = [] }

-- a part is taken where each open condition is in the branch that is taken
abbrev pub is_taken : Scope → Bool
is_taken scope = list_all (λ c. c.chosen) scope.conditions

-- the macro of a name
abbrev pub macro_of : List Macro → List ℕ → Option Macro
macro_of macros name = find (λ m. bytes_eq m.name name) macros

abbrev pub is_defined : Scope → List ℕ → Bool
is_defined scope name = is_some (macro_of scope.macros name)

-- the macros without the one of this name
abbrev pub without : List Macro → List ℕ → List Macro
without macros name = filter (λ m. not (bytes_eq m.name name)) macros

-- one more condition is open
abbrev pub with_condition : Scope → Span → Bool → Scope
with_condition scope place chosen = record { conditions = record { place = place; chosen = chosen; turned = false } ∷ scope.conditions; macros = scope.macros }

-- the other branch of a condition; a second `#else` changes nothing
abbrev pub turned_over : Condition → Condition
turned_over c = if c.turned then c else record { place = c.place; chosen = not c.chosen; turned = true }

abbrev pub turn_innermost : List Condition → List Condition
turn_innermost [] = []
turn_innermost (c ∷ outer) = turned_over c ∷ outer

abbrev pub end_innermost : List Condition → List Condition
end_innermost [] = []
end_innermost (c ∷ outer) = outer

-- The macros behind a directive in a part that is taken. A second definition of a name takes the place of the first.
abbrev pub macros_after : List Macro → Directive → List Macro
macros_after macros (Define name words) = record { name = name; words = words } ∷ without macros name
macros_after macros (Undefine name) = without macros name
macros_after macros _ = macros

-- what is in force behind a directive at this place
abbrev pub scope_after : Scope → Span → Directive → Scope
scope_after scope place (IfDefined name) = with_condition scope place (is_defined scope name)
scope_after scope place (IfNotDefined name) = with_condition scope place (not (is_defined scope name))
scope_after scope place Else = record { conditions = turn_innermost scope.conditions; macros = scope.macros }
scope_after scope place EndIf = record { conditions = end_innermost scope.conditions; macros = scope.macros }
scope_after scope place directive = if is_taken scope then record { conditions = scope.conditions; macros = macros_after scope.macros directive } else scope

-- an `#else` or an `#endif` belongs to an open condition, whose `#else` has not come yet
abbrev pub has_turned : List Condition → Bool
has_turned [] = true
has_turned (c ∷ outer) = c.turned

abbrev pub belongs : Scope → Directive → Bool
belongs scope Else = not (has_turned scope.conditions)
belongs scope EndIf = is_some (head_of scope.conditions) where
  head_of : List Condition → Option Condition
  head_of [] = None
  head_of (c ∷ outer) = Some c
belongs scope _ = true
