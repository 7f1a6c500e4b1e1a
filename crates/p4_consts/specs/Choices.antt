-- Operators and choices that a run evaluates.
use Rattle.tg_base.specs.declared.place.Span.{Span}
use Rattle.p4_program.specs.Syntax.Expressions as core
use Rattle.p4_rules.specs.Scopes.{Scope}
use Rattle.p4_rules.specs.Operands.{Operand, Computed, type_of, core_of, varying_or}

-- the choice between a and b under the condition c
abbrev pub chosen_in_run : Scope → Span → Operand → Operand → Operand → Operand
chosen_in_run Γ place c a b = Computed (type_of a) (core.Choice (core_of Γ c) (core_of Γ a) (core_of Γ b))
    (varying_or (varying_or (varying_or place b) a) c)
