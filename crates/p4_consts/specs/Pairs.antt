-- The pairs of operands of the rules that pairs in code are.
use Rattle.std.specs.Prelude.{ℤ, Bool, Option, None, Some}
use Rattle.p4_rules.specs.Faults.{Checked, and_then}
use Rattle.p4_rules.specs.Scopes.{Scope}
use Rattle.p4_rules.specs.Operands as operands
use Rattle.p4_rules.specs.Operators as rules
use Rattle.p4_consts.specs.declared.integer.Integer.{Integer}
use Rattle.p4_consts.specs.declared.pairs.Pair.{Pair}
use Rattle.p4_consts.specs.declared.wanted.Wanted.{Wanted}
use Rattle.p4_consts.specs.declared.wanted.Wanted.TheVariants as wanted
use Rattle.p4_consts.specs.declared.operands.Operand.{Operand}
use Rattle.p4_consts.specs.Integers.{integer_of}
use Rattle.p4_consts.specs.Operands.{operand_of, placed_of}

abbrev pub pair_of : Pair → rules.Pair
pair_of p = record { left = placed_of p.left; right = placed_of p.right; place = p.place }

abbrev pub operands_of : (Operand × Operand) → (operands.Operand × operands.Operand)
operands_of e = (operand_of e.0, operand_of e.1)

-- the operands alone
abbrev pub operands_in : rules.Pair → (operands.Operand × operands.Operand)
operands_in p = (p.left.operand, p.right.operand)

-- the test of the rules that an operand in such a place passes
abbrev pub fits_of : Wanted → operands.Operand → Bool
fits_of wanted.Number = rules.is_number
fits_of wanted.Integer = rules.is_integer
fits_of wanted.Bits = rules.is_of_bits
fits_of wanted.Boolean = rules.is_boolean
fits_of wanted.Comparable = rules.is_comparable

-- both in one type, where each alone is what its place wants
abbrev pub unified_each : Scope → (operands.Operand → Bool) → rules.Pair → Checked (operands.Operand × operands.Operand)
unified_each Γ fits p = and_then (rules.each fits p) (rules.unified Γ)

-- the integers of two
abbrev pub integers_of : (Integer × Integer) → (ℤ × ℤ)
integers_of e = (integer_of e.0, integer_of e.1)

-- the numbers of two compile-time integers
abbrev pub whole_numbers : operands.Operand → operands.Operand → Option (ℤ × ℤ)
whole_numbers (operands.Whole a) (operands.Whole b) = Some (a, b)
whole_numbers _ _ = None
