-- What the code's record of what is in force stands for.
use Rattle.std.specs.Prelude.{◌≡◌, ℕ, List, [], ◌∷◌, map, reverse}
use Rattle.std.specs.List.{list_all}
use Rattle.std.specs.Str.{bytes_eq}
use Rattle.std.specs.HashSet.{contains_by}
use Rattle.p4_lexer.specs.declared.scope.ConditionAt.{ConditionAt}
use Rattle.p4_lexer.specs.declared.scope.ScopeAt.{ScopeAt}
use Rattle.p4_lexer.specs.Cuts.{Cut}
use Rattle.p4_lexer.specs.Scope.{Condition, Scope, is_taken, is_defined, turn_innermost, end_innermost, without}

abbrev pub condition_at : ConditionAt → Condition
condition_at c = record { place = c.place; chosen = c.chosen; turned = c.turned }

-- each condition, the innermost first, knows whether the part around it is taken
abbrev pub KnowOutside : List ConditionAt → Type 0
KnowOutside [] = Unit {0}
KnowOutside (c ∷ outer) = (c.outside ≡ list_all (λ c. c.chosen) outer) × KnowOutside outer

-- the record stands for this scope: its conditions, whether a part is taken, and which names are defined
pub record StandsFor (s : ScopeAt) (scope : Scope) : Type 0 where
  pub conditions : scope.conditions ≡ map condition_at (reverse s.conditions)
  pub outside : KnowOutside (reverse s.conditions)
  pub taken : s.taken ≡ is_taken scope
  pub names : (name : List ℕ) → contains_by (λ k. bytes_eq name k.now) s.names ≡ is_defined scope name

abbrev pub turned_scope : Scope → Scope
turned_scope scope = record { conditions = turn_innermost scope.conditions; macros = scope.macros }

abbrev pub ended_scope : Scope → Scope
ended_scope scope = record { conditions = end_innermost scope.conditions; macros = scope.macros }

abbrev pub defined_scope : Scope → List ℕ → List Cut → Scope
defined_scope scope name words = record { conditions = scope.conditions; macros = record { name = name; words = words } ∷ without scope.macros name }

abbrev pub undefined_scope : Scope → List ℕ → Scope
undefined_scope scope name = record { conditions = scope.conditions; macros = without scope.macros name }
