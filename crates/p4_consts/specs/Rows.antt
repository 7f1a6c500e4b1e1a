-- Rows of a tree by their items, as the rules judge them one after the other.
use Rattle.std.specs.Prelude.{List, map, Result}
use Rattle.std.specs.List.{fold}
use Rattle.tg_base.specs.declared.place.Span.{Span}
use Rattle.p4_tree.specs.declared.expressions.Expression.{Expression}
use Rattle.p4_tree.specs.declared.expressions.Operation.{Operation}
use Rattle.p4_tree.specs.declared.expressions.PostfixPart.{PostfixPart}
use Rattle.p4_rules.specs.declared.faults.Fault.{Fault}
use Rattle.p4_rules.specs.Faults.{Checked, and_then, made_of, with_both, all_of, told}
use Rattle.p4_rules.specs.Scopes.{Scope}
use Rattle.p4_rules.specs.Operands.{Placed}
use Rattle.p4_rules.specs.Things.{Judged, value_of}
use Rattle.p4_rules.specs.Expressions.{Run, judged, judged_at, one_more, after_part}

-- what an expression stands for, and the value that it has
abbrev pub judged_here : Scope → Expression → Checked Judged
judged_here Γ e = judged Γ e.kind e.span

abbrev pub valued_here : Scope → Expression → Checked Placed
valued_here Γ e = and_then (judged_here Γ e) value_of

-- expressions in a row
abbrev pub each_judged : Scope → List Expression → Checked (List Judged)
each_judged Γ es = all_of (map (judged_here Γ) es)

-- the run of operators with one more
abbrev pub operation_behind : Scope → Span → Checked Run → Operation → Checked Run
operation_behind Γ place run o = with_both (one_more Γ o.operator place) run (valued_here Γ o.operand)

-- the run of operators behind this one
abbrev pub operations_behind : Scope → Span → Checked Run → List Operation → Checked Run
operations_behind Γ place run os = fold (operation_behind Γ place) run os

-- what a part makes of what stands before it
abbrev pub part_behind : Scope → Span → Checked Judged → PostfixPart → Checked Judged
part_behind Γ place head part = made_of (judged_at place) (after_part Γ place head part.kind part.span)

abbrev pub parts_behind : Scope → Span → Checked Judged → List PostfixPart → Checked Judged
parts_behind Γ place head parts = fold (part_behind Γ place) head parts

-- the value of what is judged, or why it has none
abbrev pub told_by_rules : Judged → Result Placed Fault
told_by_rules j = told (value_of j)
