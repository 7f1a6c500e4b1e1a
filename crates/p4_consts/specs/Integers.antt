-- The integers of the rules that integers in code are.
use Rattle.std.specs.Prelude.{ℕ, ℤ, pos, neg_ℤ, Bool, Option, None, Some, if◌then◌else◌}
use Rattle.p4_rules.specs.Integers.{is_kept}
use Rattle.p4_consts.specs.declared.integer.Integer.{Integer}

-- a number below 0 where the flag is set, by its magnitude
abbrev pub signed : Bool → ℕ → ℤ
signed negative m = if negative then neg_ℤ (pos m) else pos m

abbrev pub integer_of : Integer → ℤ
integer_of i = signed i.negative i.magnitude

-- an integer that this profile keeps
abbrev pub kept_or_none : ℤ → Option ℤ
kept_or_none z = if is_kept z then Some z else None
