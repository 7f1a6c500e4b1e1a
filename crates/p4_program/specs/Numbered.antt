-- Statements and tests are numbered from 1.
use Rattle.std.specs.Prelude.{List, [], ◌∷◌, Option, None, slice_get}
use Prim.Native.Nat.{ℕ, zero, suc}
use Rattle.p4_program.specs.declared.program.Statement.{Statement}

-- the item of a number, where the list has one
abbrev pub numbered : {X : Type 0} → List X → ℕ → Option X
numbered xs zero = None
numbered xs (suc n) = slice_get xs n

-- the number of a statement
abbrev pub number_of : Statement → ℕ
number_of statement = statement.number

-- this many numbers in order, from this one on
abbrev pub numbers_from : ℕ → ℕ → List ℕ
numbers_from first zero = []
numbers_from first (suc count) = first ∷ numbers_from (suc first) count
