-- The rows of operators of the rules that rows in code are.
use Rattle.std.specs.Prelude.{true, false}
use Rattle.tg_base.specs.declared.place.Span.{Span}
use Rattle.p4_rules.specs.Expressions as rules
use Rattle.p4_rules.specs.Operands as operands
use Rattle.p4_consts.specs.declared.runs.Run.{Run}
use Rattle.p4_consts.specs.Operands.{placed_of}

abbrev pub run_of : Run → rules.Run
run_of r = record { left = placed_of r.left; goes_on = r.goes_on }

-- a row before its first operator
abbrev pub run_from : operands.Placed → rules.Run
run_from x = record { left = x; goes_on = false }

-- a row behind an operator, whose value is this
abbrev pub run_behind : Span → operands.Operand → rules.Run
run_behind place x = record { left = record { operand = x; place = place }; goes_on = true }
