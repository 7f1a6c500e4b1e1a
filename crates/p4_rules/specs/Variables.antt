-- Constants and variables, at the top or within: what their names stand for, and what a variable's declaration does.
use Rattle.std.specs.Prelude.{ℕ, ◌+◌, Bool, true, Option, None, Some}
use Rattle.tg_base.specs.declared.place.Span.{Span}
use Rattle.tg_base.specs.declared.place.Code.TheVariants as code
use Rattle.p4_tree.specs.declared.names.Name.{Name}
use Rattle.p4_tree.specs.declared.declarations.Constant.{Constant}
use Rattle.p4_tree.specs.declared.declarations.Variable.{Variable}
use Rattle.p4_tree.specs.declared.expressions.Expression.{Expression}
use Rattle.p4_program.specs.declared.typed.paths.Root.{Root}
use Rattle.p4_program.specs.declared.typed.paths.Root.TheVariants as root
use Rattle.p4_program.specs.Syntax.Expressions.{CoreExpression}
use Rattle.p4_program.specs.Syntax.Statements.{CoreStatement}
use Rattle.p4_program.specs.Syntax.Statements as core
use Rattle.p4_rules.specs.declared.faults.Pass.TheVariants.{Checking}
use Rattle.p4_rules.specs.Faults.{Checked, Right, provided, and_then, made_of, with_both, beside}
use Rattle.p4_rules.specs.declared.types.SourceType.{SourceType}
use Rattle.p4_rules.specs.declared.types.SourceType.TheVariants.{Opaque}
use Rattle.p4_rules.specs.Types.{is_run_time}
use Rattle.p4_rules.specs.declared.scopes.Here.{Here}
use Rattle.p4_rules.specs.declared.scopes.Here.TheVariants.{InAction}
use Rattle.p4_rules.specs.Scopes.{Scope, Meaning, IntegerOf, ConstantOf, VariableOf, folding, once, innermost, with_name, value_type}
use Rattle.p4_rules.specs.Operands.{Operand, Whole, Fixed, Placed, varying_or, core_of}
use Rattle.p4_rules.specs.Casts.{cast_to, typing_fault, constant_fault}
use Rattle.p4_rules.specs.Things.{Judged, value_of}
use Rattle.p4_rules.specs.Expressions.{judged, written_type}

abbrev pub judged_expression : Scope → Expression → Checked Judged
judged_expression Γ e = judged Γ e.kind e.span

abbrev pub value_in : Scope → Expression → Checked Placed
value_in Γ e = and_then (judged_expression Γ e) value_of

-- a value of this type
abbrev pub value_for : Scope → SourceType → Placed → Checked CoreExpression
value_for Γ t p = made_of (core_of Γ) (cast_to Γ t p.place p.operand)

-- a type whose values have names: an extern, a parser, a control or the package is refused at the name that is declared
abbrev pub holdable : Name → SourceType → Checked SourceType
holdable name (Opaque object) = typing_fault name.span
holdable name t = Right t

-- a type of values that a run holds
abbrev pub held : Name → SourceType → Checked SourceType
held name t = provided (is_run_time t) Checking code.Typing name.span t

-- what is no constant is refused at its first part that is none
abbrev pub constant_meaning : Scope → Span → Operand → Checked Meaning
constant_meaning Γ place (Whole z) = Right (IntegerOf z)
constant_meaning Γ place (Fixed t v) = Right (ConstantOf t v)
constant_meaning Γ place x = constant_fault Γ (varying_or place x)

-- a constant fits its declared type; it is tested to be one before
abbrev pub constant_of_type : Scope → SourceType → Placed → Checked Meaning
constant_of_type Γ t p = and_then (constant_meaning Γ p.place p.operand)
    (λ m. and_then (cast_to Γ t p.place p.operand) (constant_meaning Γ p.place))

-- "Constants": what the name of a constant stands for
abbrev pub constant_value_of : Scope → Constant → Checked Meaning
constant_value_of Γ c = with_both (constant_of_type (folding Γ))
    (and_then (written_type Γ c.name.span c.type_form) (holdable c.name)) (value_in (folding Γ) c.value)

-- the place of the next variable, by whose frame it is in
abbrev pub next_root_in : Here → ℕ → Root
next_root_in InAction place = root.OfAction place
next_root_in _ place = root.OfBlock place

abbrev pub next_root : Scope → Root
next_root Γ = next_root_in Γ.here Γ.variable

-- "Variables": with the value that one takes, or uninitialised
abbrev pub initial : Scope → SourceType → Option Expression → Checked (Option CoreExpression)
initial Γ t None = Right None
initial Γ t (Some e) = made_of (λ x. Some x) (and_then (value_in Γ e) (value_for Γ t))

abbrev pub initial_faults : Scope → Option Expression → Checked Bool
initial_faults Γ None = Right true
initial_faults Γ (Some e) = made_of (λ p. true) (value_in Γ e)

abbrev pub variable_type : Scope → Variable → Checked SourceType
variable_type Γ v = and_then (written_type Γ v.name.span v.type_form) (held v.name)

-- the type and the value of a variable; both are read where the type is faulty too
abbrev pub declaration_of : Scope → Variable → Checked (SourceType × Option CoreExpression)
declaration_of Γ v = with_both (λ t read. made_of (λ e. (t, e)) (initial Γ t v.value)) (variable_type Γ v) (initial_faults Γ v.value)

abbrev pub variable_meaning : Scope → Checked (SourceType × Option CoreExpression) → Checked Meaning
variable_meaning Γ d = made_of (λ p. VariableOf p.0 true (next_root Γ)) d

abbrev pub variable_statement : Scope → Checked (SourceType × Option CoreExpression) → Checked CoreStatement
variable_statement Γ d = made_of (λ p. core.Declare (next_root Γ) (value_type Γ p.0) p.1) d

-- the scope behind a constant or a variable
abbrev pub with_constant : Scope → Constant → Scope
with_constant Γ c = with_name Γ c.name.text (constant_value_of Γ c)

abbrev pub with_variable : Scope → Variable → Scope
with_variable Γ v =
    let named = with_name Γ v.name.text (variable_meaning Γ (declaration_of Γ v)) in record named { variable = Γ.variable + 1 }

-- the faults of a constant within, and what a variable's declaration does
abbrev pub constant_within : Scope → Constant → Checked Bool
constant_within Γ c = beside (once (innermost Γ.inner) c.name) (made_of (λ m. true) (constant_value_of Γ c))

abbrev pub variable_within : Scope → Variable → Checked CoreStatement
variable_within Γ v = beside (once (innermost Γ.inner) v.name) (variable_statement Γ (declaration_of Γ v))
