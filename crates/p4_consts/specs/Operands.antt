-- The operands of the rules that operands in code are.
use Rattle.p4_program.specs.Trees.Expressions.{expression_of}
use Rattle.p4_rules.specs.Operands as rules
use Rattle.p4_consts.specs.declared.operands.Operand.{Operand}
use Rattle.p4_consts.specs.declared.operands.Operand.TheVariants as operand
use Rattle.p4_consts.specs.declared.operands.Placed.{Placed}
use Rattle.p4_consts.specs.Integers.{integer_of}

abbrev pub operand_of : Operand → rules.Operand
operand_of (operand.Whole i) = rules.Whole (integer_of i)
operand_of (operand.Fixed c) = rules.Fixed c.type_of c.value
operand_of (operand.Stored t writable path at) = rules.Stored t writable path at
operand_of (operand.Sliced writable path p at) = rules.Sliced writable path p.high p.low at
operand_of (operand.Computed t e at) = rules.Computed t (expression_of e) at

abbrev pub placed_of : Placed → rules.Placed
placed_of p = record { operand = operand_of p.operand; place = p.place }
