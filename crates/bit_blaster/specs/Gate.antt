-- What gates compute. Variable n has its value at place n - 1 of the list.
use Rattle.std.specs.Prelude.{◌≢◌, ℕ, suc, ◌-◌, ◌≤◌, Bool, false, not, ◌&&◌, if◌then◌else◌, List, [], ◌∷◌, ◌++◌, slice_index_or, ⊤}
use Rattle.cnf_core.specs.declared.formula.Lit.{Lit}
use Rattle.bits_core.specs.Circuit.{exclusive_or, carry_bit}
use Rattle.bit_blaster.specs.declared.gate.Gate.{Gate}
use Rattle.bit_blaster.specs.declared.gate.Gate.TheVariants.{And, Xor, Choose, Majority}

abbrev pub literal_value : List Bool → Lit → Bool
literal_value values l =
    if l.positive then slice_index_or values (l.var - 1) false else not (slice_index_or values (l.var - 1) false)

abbrev pub gate_value : List Bool → Gate → Bool
gate_value values (And a b) = literal_value values a && literal_value values b
gate_value values (Xor a b) = exclusive_or (literal_value values a) (literal_value values b)
gate_value values (Choose c a b) =
    if literal_value values c then literal_value values a else literal_value values b
gate_value values (Majority a b c) =
    carry_bit (literal_value values a) (literal_value values b) (literal_value values c)

-- the values of the inputs and then of each gate, in order
abbrev pub all_values : List Bool → List Gate → List Bool
all_values values [] = values
all_values values (gate ∷ gates) = all_values (values ++ gate_value values gate ∷ []) gates

-- the literal is of one of the first n variables
abbrev pub IsLiteralOf : ℕ → Lit → Type 0
IsLiteralOf n l = (1 ≤ l.var) × (l.var ≤ n)

-- the gate is over the first n variables, and no clause that says what it computes has a variable twice
abbrev pub GateFits : ℕ → Gate → Type 0
GateFits n (And a b) = IsLiteralOf n a × IsLiteralOf n b × (a.var ≢ b.var)
GateFits n (Xor a b) = IsLiteralOf n a × IsLiteralOf n b × (a.var ≢ b.var)
GateFits n (Choose c a b) =
    IsLiteralOf n c × IsLiteralOf n a × IsLiteralOf n b × (c.var ≢ a.var) × (c.var ≢ b.var)
GateFits n (Majority a b c) =
    IsLiteralOf n a × IsLiteralOf n b × IsLiteralOf n c × (a.var ≢ b.var) × (a.var ≢ c.var) × (b.var ≢ c.var)

-- each gate is over the n variables before the first gate and the earlier gates
abbrev pub AreGates : ℕ → List Gate → Type 0
AreGates n [] = ⊤
AreGates n (gate ∷ gates) = GateFits n gate × AreGates (suc n) gates
