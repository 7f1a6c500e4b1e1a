-- A literal as one number: twice its variable, and one more where it is positive.
use Rattle.std.specs.Prelude.{ℕ, ◌+◌, ◌*◌, ◌/◌, ◌%◌, if◌then◌else◌, nat_eq}
use Rattle.cnf_core.specs.declared.formula.Lit.{Lit}

abbrev pub code_of : Lit → ℕ
code_of l = 2 * l.var + (if l.positive then 1 else 0)

abbrev pub lit_of : ℕ → Lit
lit_of n = record { var = n / 2; positive = nat_eq (n % 2) 1 }
