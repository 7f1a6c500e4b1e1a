-- Parsers: their states, and what follows a state.
use Rattle.std.specs.Prelude.{ℕ, ◌+◌, List, [], ◌∷◌, ◌++◌, map, Bool, true, ◌||◌, Option, None, Some, codes, if◌then◌else◌}
use Rattle.std.specs.Str.{bytes_eq}
use Rattle.std.specs.List.{position}
use Rattle.tg_base.specs.declared.place.Span.{Span}
use Rattle.tg_base.specs.declared.place.Code.TheVariants as code
use Rattle.p4_tree.specs.declared.names.Name.{Name}
use Rattle.p4_tree.specs.declared.expressions.Expression.{Expression}
use Rattle.p4_tree.specs.declared.parsers.Parser.{Parser}
use Rattle.p4_tree.specs.declared.parsers.ParserPart.{ParserPart}
use Rattle.p4_tree.specs.declared.parsers.ParserPartKind.{ParserPartKind}
use Rattle.p4_tree.specs.declared.parsers.ParserPartKind.TheVariants as part
use Rattle.p4_tree.specs.declared.parsers.SelectCase.{SelectCase}
use Rattle.p4_tree.specs.declared.parsers.State.{State}
use Rattle.p4_tree.specs.declared.parsers.Transition.{Transition}
use Rattle.p4_tree.specs.declared.parsers.TransitionKind.{TransitionKind}
use Rattle.p4_tree.specs.declared.parsers.TransitionKind.TheVariants as transition
use Rattle.p4_program.specs.declared.typed.callables.SelectCase.{SelectCase as CoreCase}
use Rattle.p4_program.specs.declared.typed.callables.Target.{Target}
use Rattle.p4_program.specs.declared.typed.callables.Target.TheVariants as target
use Rattle.p4_program.specs.declared.typed.tables.Pattern.{Pattern}
use Rattle.p4_program.specs.declared.typed.types.ValueType.{ValueType}
use Rattle.p4_program.specs.Syntax.Callables.{CoreParser, CoreState, CoreTransition}
use Rattle.p4_program.specs.Syntax.Callables as core
use Rattle.p4_program.specs.Syntax.Statements.{CoreStatements}
use Rattle.p4_program.specs.Syntax.Statements as statements
use Rattle.p4_rules.specs.declared.faults.Pass.TheVariants.{Checking}
use Rattle.p4_rules.specs.Faults.{Checked, Right, fault_at, provided, and_then, made_of, both, all_three, given, all_of, beside}
use Rattle.p4_rules.specs.Types.{is_scalar}
use Rattle.p4_rules.specs.declared.scopes.ParameterShape.{ParameterShape}
use Rattle.p4_rules.specs.declared.scopes.Here.TheVariants.{InParser}
use Rattle.p4_rules.specs.Scopes.{Scope, StateOf, once, innermost, with_name, within}
use Rattle.p4_rules.specs.Operands.{Placed, type_of, core_of}
use Rattle.p4_rules.specs.Casts.{typing_fault}
use Rattle.p4_rules.specs.Variables.{value_in, with_constant, with_variable, constant_within, variable_within}
use Rattle.p4_rules.specs.Counts.{count_of_list}
use Rattle.p4_rules.specs.Statements.{passing, list_of, behind_list, variables_of}
use Rattle.p4_rules.specs.Callables.{with_parameters, parameter_shapes, core_parameters}
use Rattle.p4_rules.specs.Keys.{Form, Anything, Default, select_pattern}
use Rattle.p4_rules.specs.Tables.{same_length, forms_of}
use Rattle.p4_rules.specs.Notes.{noted}

-- the names of the states, in order: they are known in the whole parser
abbrev pub states_in : ParserPartKind → List (List ℕ)
states_in (part.State s) = s.name.text ∷ []
states_in _ = []

abbrev pub state_names : List ParserPart → List (List ℕ)
state_names [] = []
state_names (p ∷ ps) = states_in p.kind ++ state_names ps

abbrev pub is_final : List ℕ → Bool
is_final name = bytes_eq name (codes "accept") || bytes_eq name (codes "reject")

-- "Transition statements": to `accept`, `reject`, or a state of the parser
abbrev pub state_target : Name → Option ℕ → Checked Target
state_target name (Some k) = Right (target.State k)
state_target name None = fault_at Checking code.Name name.span

abbrev pub target_of : List (List ℕ) → Name → Checked Target
target_of states name =
    if bytes_eq name.text (codes "accept") then Right target.Accept
    else (if bytes_eq name.text (codes "reject") then Right target.Reject
    else state_target name (position (λ other. bytes_eq other name.text) states))

-- "Select expressions": values of sized types, `bool`, errors and enumerations
abbrev pub select_value : Scope → Expression → Checked Placed
select_value Γ e = and_then (value_in Γ e) (λ p. provided (is_scalar (type_of p.operand)) Checking code.Typing p.place p)

-- a pattern for each value; another number of keys is refused at the key set
abbrev pub patterns_for : Scope → Span → List Placed → List (Span × Form) → Checked (List Pattern)
patterns_for Γ place [] [] = Right []
patterns_for Γ place (x ∷ xs) (f ∷ fs) =
    both (λ p ps. p ∷ ps) (select_pattern Γ (type_of x.operand) f.1) (patterns_for Γ place xs fs)
patterns_for Γ place _ _ = typing_fault place

abbrev pub counted_patterns : Scope → Span → List Placed → List (Span × Form) → Checked (List Pattern)
counted_patterns Γ place xs fs = if same_length xs fs then patterns_for Γ place xs fs else typing_fault place

-- `_` or `default` alone stands for all values
abbrev pub case_patterns : Scope → Span → List Placed → List (Span × Form) → Checked (List Pattern)
case_patterns Γ place xs ((s, Anything) ∷ []) = all_of (map (λ x. select_pattern Γ (type_of x.operand) Anything) xs)
case_patterns Γ place xs ((s, Default) ∷ []) = all_of (map (λ x. select_pattern Γ (type_of x.operand) Default) xs)
case_patterns Γ place xs fs = counted_patterns Γ place xs fs

abbrev pub case_of : Scope → List (List ℕ) → List Placed → SelectCase → Checked CoreCase
case_of Γ states xs c = both (λ patterns to. record { place = c.span; keys = patterns; target = to })
    (and_then (forms_of Γ c.key_set) (case_patterns Γ c.key_set.span xs)) (target_of states c.target)

-- what a case holds, whatever is selected
abbrev pub case_parts : Scope → List (List ℕ) → SelectCase → Checked Bool
case_parts Γ states c = both (λ forms to. true) (forms_of Γ c.key_set) (target_of states c.target)

abbrev pub selected : Scope → List (List ℕ) → List SelectCase → List Placed → Checked CoreTransition
selected Γ states cases xs =
    made_of (λ made. core.Select (map (λ x. core_of Γ x.operand) xs) made) (all_of (map (case_of Γ states xs) cases))

abbrev pub transition_in : Scope → List (List ℕ) → TransitionKind → Checked CoreTransition
transition_in Γ states (transition.To name) = made_of (λ to. core.To to) (target_of states name)
transition_in Γ states (transition.Select es cases) = beside (all_of (map (case_parts Γ states) cases))
    (and_then (all_of (map (select_value Γ) es)) (selected Γ states cases))

-- a state without a transition leads to `reject`
abbrev pub transition_of : Scope → List (List ℕ) → Option Transition → Checked CoreTransition
transition_of Γ states None = Right (core.To target.Reject)
transition_of Γ states (Some t) = transition_in Γ states t.kind

-- "Parser states": `accept` and `reject` are not declared
abbrev pub state_name : Scope → Name → Checked Bool
state_name Γ name = beside (once (innermost Γ.inner) name)
    (if is_final name.text then fault_at Checking code.Name name.span else Right true)

abbrev pub state_of : Scope → List (List ℕ) → State → Checked CoreState
state_of Γ states s = beside (state_name Γ s.name) (both (λ body to. record { statements = body; transition = to })
    (list_of (within Γ) s.parts) (transition_of (behind_list (within Γ) s.parts) states s.transition))

-- "Parser states": what stands in a state is seen in its transition. Behind a state its name is seen
abbrev pub with_state : Scope → ℕ → State → Scope
with_state Γ k s = passing (with_name Γ s.name.text (Right (StateOf k))) (count_of_list s.parts)

-- what the parts of a parser make: the declarations of its variables, and its states
pub record ParserParts : Type 0 where
  pub beginning : CoreStatements
  pub states : List CoreState

abbrev pub no_parts : ParserParts
no_parts = record { beginning = statements.NoStatements; states = [] }

abbrev pub scope_behind : Scope → ℕ → ParserPartKind → Scope
scope_behind Γ k (part.Constant c) = with_constant Γ c
scope_behind Γ k (part.Variable v) = with_variable Γ v
scope_behind Γ k (part.State s) = with_state Γ k s

abbrev pub number_behind : ℕ → ParserPartKind → ℕ
number_behind k (part.State s) = k + 1
number_behind k _ = k

-- what one part puts before those that the later parts make
abbrev pub part_of : Scope → List (List ℕ) → ParserPartKind → Checked (ParserParts → ParserParts)
part_of Γ states (part.Constant c) = made_of (λ b made. made) (constant_within Γ c)
part_of Γ states (part.Variable v) =
    made_of (λ d made. record made { beginning = statements.Then d made.beginning }) (variable_within Γ v)
part_of Γ states (part.State s) = made_of (λ one made. record made { states = one ∷ made.states }) (state_of Γ states s)

-- the parts from one on, with the number of the next state
abbrev pub parser_parts : Scope → List (List ℕ) → ℕ → List ParserPart → Checked ParserParts
parser_parts Γ states k [] = Right no_parts
parser_parts Γ states k (p ∷ ps) = both (λ put made. put made)
    (noted p.annotations (part_of Γ states p.kind)) (parser_parts (scope_behind Γ k p.kind) states (number_behind k p.kind) ps)

abbrev pub parser_scope : Scope → Scope
parser_scope Γ = record (within Γ) { here = InParser; variable = 0 }

abbrev pub parser_shapes : Scope → Parser → Checked (List ParameterShape)
parser_shapes Γ p = parameter_shapes (parser_scope Γ) true p.parameters

-- the variables of a state's statements
abbrev pub variables_of_states : List CoreState → List ValueType
variables_of_states [] = []
variables_of_states (s ∷ ss) = variables_of s.statements ++ variables_of_states ss

abbrev pub start_of : Parser → Option ℕ
start_of p = position (λ name. bytes_eq name (codes "start")) (state_names p.parts)

pub record ParserMade : Type 0 where
  pub shapes : List ParameterShape
  pub parser : CoreParser

abbrev pub made_parser : Scope → List ParameterShape → ℕ → ParserParts → ParserMade
made_parser Γ shapes start made = record {
  shapes = shapes;
  parser = record {
    parameters = core_parameters Γ shapes;
    variables = variables_of made.beginning ++ variables_of_states made.states;
    beginning = made.beginning;
    states = made.states;
    start = start;
  };
}

-- "Parser declarations": a parser has the state `start`, else its name is refused
abbrev pub parser_of : Scope → Parser → Checked ParserMade
parser_of Γ p = all_three (made_parser Γ) (parser_shapes Γ p) (given (start_of p) Checking code.Name p.name.span)
    (parser_parts (with_parameters (parser_scope Γ) true p.parameters) (state_names p.parts) 0 p.parts)
