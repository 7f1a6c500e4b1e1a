-- The operators between two operands and before one: which types they take, which they give, and the values of constants.
use Rattle.std.specs.Prelude.{ℕ, ◌+◌, ◌-◌, ◌*◌, ◌==◌, nat_le, max, Bool, true, false, ◌&&◌, not, Option, None, Some, ℤ, pos, ◌+ℤ◌, ◌-ℤ◌, ◌*ℤ◌, neg_ℤ, int_lt, int_le, unsigned_abs, if◌then◌else◌}
use Rattle.tg_base.specs.declared.place.Span.{Span}
use Rattle.tg_base.specs.declared.place.Code.TheVariants as code
use Rattle.bits_core.specs.declared.operator.Op.{Op}
use Rattle.bits_core.specs.declared.operator.Op.TheVariants as op
use Rattle.bits_core.specs.Operator.{operator_value}
use Rattle.p4_tree.specs.declared.expressions.Operator.{Operator}
use Rattle.p4_tree.specs.declared.expressions.Operator.TheVariants as sign
use Rattle.p4_tree.specs.declared.expressions.UnaryOperator.{UnaryOperator}
use Rattle.p4_tree.specs.declared.expressions.UnaryOperator.TheVariants as unary
use Rattle.p4_program.specs.declared.typed.expressions.Operator.{Operator as CoreOperator}
use Rattle.p4_program.specs.declared.typed.expressions.Operator.TheVariants as between
use Rattle.p4_program.specs.Syntax.Expressions.{CoreExpression, CoreOperations}
use Rattle.p4_program.specs.Syntax.Expressions as core
use Rattle.p4_rules.specs.declared.faults.Pass.TheVariants.{Checking}
use Rattle.p4_rules.specs.Faults.{Checked, Right, fault_at, provided, and_then, made_of, both}
use Rattle.p4_rules.specs.Integers.{kept, is_negative, shifted_left, shifted_right, quotient, remainder, widest}
use Rattle.p4_rules.specs.declared.types.SourceType.{SourceType}
use Rattle.p4_rules.specs.declared.types.SourceType.TheVariants.{Bit, Signed, Integer, Boolean, BitEnumeration, Structure, Header, Stack, Opaque}
use Rattle.p4_rules.specs.Types.{same_type, is_sized}
use Rattle.p4_rules.specs.Scopes.{Scope}
use Rattle.p4_rules.specs.Operands.{Operand, Whole, Fixed, Computed, Placed, type_of, varying_or, core_of}
use Rattle.p4_rules.specs.Casts.{cast_to, as_bits, typing_fault, constant_fault}

-- two operands, and the first token of the expression that they make
pub record Pair : Type 0 where
  pub left : Placed
  pub right : Placed
  pub place : Span

-- the operators of one rule
pub data Row : Type 0 where
  Arithmetic Division Shift Concatenation Order Equality Logic : Row

abbrev pub row_of : Operator → Row
row_of sign.Times = Arithmetic
row_of sign.Plus = Arithmetic
row_of sign.Minus = Arithmetic
row_of sign.SaturatingPlus = Arithmetic
row_of sign.SaturatingMinus = Arithmetic
row_of sign.BitAnd = Arithmetic
row_of sign.BitXor = Arithmetic
row_of sign.BitOr = Arithmetic
row_of sign.Divide = Division
row_of sign.Remainder = Division
row_of sign.ShiftLeft = Shift
row_of sign.ShiftRight = Shift
row_of sign.Concat = Concatenation
row_of sign.Less = Order
row_of sign.AtMost = Order
row_of sign.Greater = Order
row_of sign.AtLeast = Order
row_of sign.Equal = Equality
row_of sign.NotEqual = Equality
row_of sign.And = Logic
row_of sign.Or = Logic

-- The operator of a run: the signedness of its operands stands in its name. There is none for `/` and `%`, which are of compile
-- time alone.
abbrev pub core_operator : Operator → Bool → Option CoreOperator
core_operator sign.Times signed = Some (between.Plain op.Mul)
core_operator sign.Plus signed = Some (between.Plain op.Add)
core_operator sign.Minus signed = Some (between.Plain op.Sub)
core_operator sign.SaturatingPlus true = Some (between.Plain op.AddSatS)
core_operator sign.SaturatingPlus false = Some (between.Plain op.AddSatU)
core_operator sign.SaturatingMinus true = Some (between.Plain op.SubSatS)
core_operator sign.SaturatingMinus false = Some (between.Plain op.SubSatU)
core_operator sign.BitAnd signed = Some (between.Plain op.And)
core_operator sign.BitXor signed = Some (between.Plain op.Xor)
core_operator sign.BitOr signed = Some (between.Plain op.Or)
core_operator sign.ShiftLeft signed = Some (between.Plain op.Shl)
core_operator sign.ShiftRight true = Some (between.Plain op.ShrS)
core_operator sign.ShiftRight false = Some (between.Plain op.ShrU)
core_operator sign.Concat signed = Some (between.Plain op.Cat)
core_operator sign.Less true = Some (between.Plain op.LtS)
core_operator sign.Less false = Some (between.Plain op.LtU)
core_operator sign.AtMost true = Some (between.Plain op.LeS)
core_operator sign.AtMost false = Some (between.Plain op.LeU)
core_operator sign.Greater true = Some between.GreaterS
core_operator sign.Greater false = Some between.GreaterU
core_operator sign.AtLeast true = Some between.AtLeastS
core_operator sign.AtLeast false = Some between.AtLeastU
core_operator sign.Equal signed = Some (between.Plain op.Eq)
core_operator sign.NotEqual signed = Some between.NotEqual
core_operator sign.And signed = Some between.LogicalAnd
core_operator sign.Or signed = Some between.LogicalOr
core_operator sign.Divide signed = None
core_operator sign.Remainder signed = None

-- the value of an operator on x of w bits and y of v bits, as runs have it
abbrev pub constant_value : CoreOperator → ℕ → ℕ → ℕ → ℕ → ℕ
constant_value (between.Plain o) w x v y = operator_value o w x v y
constant_value between.NotEqual w x v y = 1 - operator_value op.Eq w x v y
constant_value between.GreaterU w x v y = operator_value op.LtU v y w x
constant_value between.GreaterS w x v y = operator_value op.LtS v y w x
constant_value between.AtLeastU w x v y = operator_value op.LeU v y w x
constant_value between.AtLeastS w x v y = operator_value op.LeS v y w x
constant_value between.LogicalAnd w x v y = x * y
constant_value between.LogicalOr w x v y = max x y

-- the width of the values of a type of bits; a member's number has no width, and none is used of it
abbrev pub width_in : SourceType → ℕ
width_in (Bit w) = w
width_in (Signed w) = w
width_in Boolean = 1
width_in (BitEnumeration n w) = w
width_in _ = 8

abbrev pub is_signed : SourceType → Bool
is_signed (Signed w) = true
is_signed _ = false

-- one more operator behind the operators of an expression
abbrev pub behind : CoreOperations → CoreOperator → CoreExpression → CoreOperations
behind core.NoOperations o e = core.Behind o e core.NoOperations
behind (core.Behind p f rest) o e = core.Behind p f (behind rest o e)

-- operators of one level are one node, with what stands between them from left to right
abbrev pub extended : CoreExpression → CoreOperator → CoreExpression → CoreExpression
extended (core.Operations first rest) o e = core.Operations first (behind rest o e)
extended f o e = core.Operations f (core.Behind o e core.NoOperations)

-- An operator in a run or on constants. Every operator on two constants is one. `open` says that the left operand is a row of
-- operators of this level, which goes on.
abbrev pub applied : Scope → Bool → SourceType → CoreOperator → Span → Operand → Operand → Operand
applied Γ goes_on t o place (Fixed u x) (Fixed v y) = Fixed t (constant_value o (width_in u) x (width_in v) y)
applied Γ true t o place (Computed u e at) b = Computed t (extended e o (core_of Γ b)) at
applied Γ goes_on t o place a b =
    Computed t (core.Operations (core_of Γ a) (core.Behind o (core_of Γ b) core.NoOperations)) (varying_or (varying_or place b) a)

-- an operator that has none in a run gives nothing there
abbrev pub applied_with : Scope → Bool → SourceType → Option CoreOperator → Span → Operand → Operand → Checked Operand
applied_with Γ goes_on t None place a b = typing_fault place
applied_with Γ goes_on t (Some o) place a b = Right (applied Γ goes_on t o place a b)

-- "Implicit casts": two operands of one type. A compile-time integer takes the other's sized type, and so does an enumeration
-- over bits beside a compile-time integer or these bits.
abbrev pub unified_with : Scope → SourceType → SourceType → Pair → Checked (Operand × Operand)
unified_with Γ Integer Integer p = Right (p.left.operand, p.right.operand)
unified_with Γ Integer t p =
    if is_sized (type_of (as_bits Γ p.right.operand))
    then both (λ a b. (a, b)) (cast_to Γ (type_of (as_bits Γ p.right.operand)) p.left.place p.left.operand) (Right (as_bits Γ p.right.operand))
    else typing_fault p.place
unified_with Γ t Integer p =
    if is_sized (type_of (as_bits Γ p.left.operand))
    then both (λ a b. (a, b)) (Right (as_bits Γ p.left.operand)) (cast_to Γ (type_of (as_bits Γ p.left.operand)) p.right.place p.right.operand)
    else typing_fault p.place
unified_with Γ (Bit w) (BitEnumeration n v) p = provided (w == v) Checking code.Typing p.place (p.left.operand, as_bits Γ p.right.operand)
unified_with Γ (BitEnumeration n v) (Bit w) p = provided (v == w) Checking code.Typing p.place (as_bits Γ p.left.operand, p.right.operand)
unified_with Γ t u p = provided (same_type t u) Checking code.Typing p.place (p.left.operand, p.right.operand)

abbrev pub unified : Scope → Pair → Checked (Operand × Operand)
unified Γ p = unified_with Γ (type_of p.left.operand) (type_of p.right.operand) p

-- an operand that alone breaks what its place wants is refused, the left one first
abbrev pub each : (Operand → Bool) → Pair → Checked Pair
each fits p = and_then (provided (fits p.left.operand) Checking code.Typing p.left.place p)
    (λ q. provided (fits q.right.operand) Checking code.Typing q.right.place q)

-- both with enumerations over bits cast to these
abbrev pub with_bits : Scope → Pair → Pair
with_bits Γ p = record p {
  left = record { operand = as_bits Γ p.left.operand; place = p.left.place };
  right = record { operand = as_bits Γ p.right.operand; place = p.right.place };
}

abbrev pub is_number_type : SourceType → Bool
is_number_type Integer = true
is_number_type t = is_sized t

abbrev pub is_number : Operand → Bool
is_number x = is_number_type (type_of x)

abbrev pub is_bit_type : SourceType → Bool
is_bit_type (Bit w) = true
is_bit_type _ = false

abbrev pub is_of_bits : Operand → Bool
is_of_bits x = is_bit_type (type_of x)

abbrev pub is_sized_value : Operand → Bool
is_sized_value x = is_sized (type_of x)

abbrev pub is_integer_type : SourceType → Bool
is_integer_type Integer = true
is_integer_type _ = false

abbrev pub is_integer : Operand → Bool
is_integer x = is_integer_type (type_of x)

abbrev pub is_boolean_type : SourceType → Bool
is_boolean_type Boolean = true
is_boolean_type _ = false

abbrev pub is_boolean : Operand → Bool
is_boolean x = is_boolean_type (type_of x)

-- "Operations on error types", "Operations on enum types": sized values, `bool`, errors and enumerations have `==` and `!=`; a
-- compile-time integer has them beside a sized value
abbrev pub is_comparable_type : SourceType → Bool
is_comparable_type (Structure n) = false
is_comparable_type (Header n) = false
is_comparable_type (Stack n size) = false
is_comparable_type (Opaque object) = false
is_comparable_type _ = true

abbrev pub is_comparable : Operand → Bool
is_comparable x = is_comparable_type (type_of x)

-- headers and structs, whose comparison this profile leaves out
abbrev pub has_fields : SourceType → Bool
has_fields (Structure n) = true
has_fields (Header n) = true
has_fields _ = false

-- "Operations on arbitrary-precision integers": of two integers the sum, the difference and the product
abbrev pub integer_result : Operator → ℤ → ℤ → Option ℤ
integer_result sign.Plus a b = Some (a +ℤ b)
integer_result sign.Minus a b = Some (a -ℤ b)
integer_result sign.Times a b = Some (a *ℤ b)
integer_result _ a b = None

abbrev pub folded_integers : Scope → Span → Option ℤ → Checked Operand
folded_integers Γ place None = typing_fault place
folded_integers Γ place (Some z) = made_of (λ k. Whole k) (kept Γ.pass place z)

abbrev pub bool_value : Bool → ℕ
bool_value true = 1
bool_value false = 0

-- two integers in an order
abbrev pub integer_order : Operator → ℤ → ℤ → Bool
integer_order sign.Less a b = int_lt a b
integer_order sign.AtMost a b = int_le a b
integer_order sign.Greater a b = int_lt b a
integer_order _ a b = int_le b a

abbrev pub divided : Operator → ℤ → ℤ → ℤ
divided sign.Divide a b = quotient a b
divided _ a b = remainder a b

abbrev pub shifted : Operator → ℤ → ℕ → ℤ
shifted sign.ShiftLeft a amount = shifted_left a amount
shifted _ a amount = shifted_right a amount

-- "Operations on fixed-width bit types", "Operations on fixed-width signed integers": both of one sized type, which is that of
-- the result
abbrev pub arithmetic_on : Scope → Bool → Operator → Span → (Operand × Operand) → Checked Operand
arithmetic_on Γ goes_on o place (Whole a, Whole b) = folded_integers Γ place (integer_result o a b)
arithmetic_on Γ goes_on o place (a, b) = applied_with Γ goes_on (type_of a) (core_operator o (is_signed (type_of a))) place a b

abbrev pub arithmetic : Scope → Bool → Operator → Pair → Checked Operand
arithmetic Γ goes_on o p =
    and_then (each is_number (with_bits Γ p)) (λ q. and_then (unified Γ q) (arithmetic_on Γ goes_on o q.place))

-- "Operations on arbitrary-precision integers": `/` and `%` stand between compile-time integers that are not negative, the
-- second above 0
abbrev pub division_on : Scope → Operator → Pair → Operand → Operand → Checked Operand
division_on Γ o p (Whole a) (Whole b) =
    if is_negative a then typing_fault p.left.place
    else (if is_negative b then typing_fault p.right.place
    else (if unsigned_abs b == 0 then constant_fault Γ p.right.place
    else Right (Whole (divided o a b))))
division_on Γ o p a b = typing_fault p.place

abbrev pub division : Scope → Operator → Pair → Checked Operand
division Γ o p = and_then (each is_integer p) (λ q. division_on Γ o q q.left.operand q.right.operand)

-- "A note about shifts": the amount is a `bit` value or a compile-time integer that is not negative; the result has the left
-- operand's type. A compile-time integer is shifted by a constant amount alone, else the shift is refused.
abbrev pub integer_shift : Scope → Operator → ℤ → Option ℤ → Pair → Checked Operand
integer_shift Γ o a None p = constant_fault Γ p.place
integer_shift Γ o a (Some b) p =
    if is_negative b then constant_fault Γ p.place
    else made_of (λ z. Whole z) (kept Γ.pass p.place (shifted o a (unsigned_abs b)))

-- the number of a constant amount, which is a compile-time integer or of `bit`
abbrev pub shift_amount : Operand → Option ℤ
shift_amount (Whole z) = Some z
shift_amount (Fixed (Bit w) v) = Some (pos v)
shift_amount _ = None

abbrev pub may_be_amount : Operand → Bool
may_be_amount (Whole z) = not (is_negative z)
may_be_amount x = is_of_bits x

abbrev pub value_shift : Scope → Bool → Operator → Operand → Operand → Span → Checked Operand
value_shift Γ goes_on o (Fixed t v) (Whole b) place =
    applied_with Γ goes_on t (core_operator o (is_signed t)) place (Fixed t v) (Fixed (Bit widest) (unsigned_abs b))
value_shift Γ goes_on o a b place = applied_with Γ goes_on (type_of a) (core_operator o (is_signed (type_of a))) place a b

abbrev pub shift_of : Scope → Bool → Operator → Operand → Operand → Pair → Checked Operand
shift_of Γ goes_on o (Whole a) b p = integer_shift Γ o a (shift_amount b) p
shift_of Γ goes_on o a b p =
    and_then (provided (is_sized_value a) Checking code.Typing p.left.place p)
    (λ q. and_then (provided (may_be_amount b) Checking code.Typing p.right.place q)
    (λ r. value_shift Γ goes_on o a b p.place))

abbrev pub shift : Scope → Bool → Operator → Pair → Checked Operand
shift Γ goes_on o p = shift_of Γ goes_on o (as_bits Γ p.left.operand) (as_bits Γ p.right.operand) p

-- "Concatenation": two `bit` values, together of no more bits than a value has
abbrev pub concatenation : Scope → Bool → Operator → Pair → Checked Operand
concatenation Γ goes_on o p = and_then (each is_of_bits (with_bits Γ p))
    (λ q. let width = width_in (type_of q.left.operand) + width_in (type_of q.right.operand) in
    if nat_le width widest
    then applied_with Γ goes_on (Bit width) (core_operator o false) q.place q.left.operand q.right.operand
    else typing_fault q.place)

-- `<` and its like: both of one sized type, or two compile-time integers
abbrev pub order_on : Scope → Bool → Operator → Span → (Operand × Operand) → Checked Operand
order_on Γ goes_on o place (Whole a, Whole b) = Right (Fixed Boolean (bool_value (integer_order o a b)))
order_on Γ goes_on o place (a, b) = applied_with Γ goes_on Boolean (core_operator o (is_signed (type_of a))) place a b

abbrev pub order : Scope → Bool → Operator → Pair → Checked Operand
order Γ goes_on o p =
    and_then (each is_number (with_bits Γ p)) (λ q. and_then (unified Γ q) (order_on Γ goes_on o q.place))

-- `==` and `!=`: both of one type among those that may be compared. Two compile-time integers may not.
abbrev pub equality_on : Scope → Bool → Operator → Span → (Operand × Operand) → Checked Operand
equality_on Γ goes_on o place (Whole a, Whole b) = typing_fault place
equality_on Γ goes_on o place (a, b) = applied_with Γ goes_on Boolean (core_operator o false) place a b

abbrev pub equality : Scope → Bool → Operator → Pair → Checked Operand
equality Γ goes_on o p =
    if has_fields (type_of p.left.operand) && same_type (type_of p.left.operand) (type_of p.right.operand)
    then fault_at Checking code.Unsupported p.place
    else and_then (each is_comparable p) (λ q. and_then (unified Γ q) (equality_on Γ goes_on o q.place))

-- "Expressions on Booleans"
abbrev pub logic : Scope → Bool → Operator → Pair → Checked Operand
logic Γ goes_on o p = and_then (each is_boolean p)
    (λ q. applied_with Γ goes_on Boolean (core_operator o false) q.place q.left.operand q.right.operand)

-- the rule of an operator
abbrev pub binary_in : Row → Scope → Bool → Operator → Pair → Checked Operand
binary_in Arithmetic Γ goes_on o p = arithmetic Γ goes_on o p
binary_in Division Γ goes_on o p = division Γ o p
binary_in Shift Γ goes_on o p = shift Γ goes_on o p
binary_in Concatenation Γ goes_on o p = concatenation Γ goes_on o p
binary_in Order Γ goes_on o p = order Γ goes_on o p
binary_in Equality Γ goes_on o p = equality Γ goes_on o p
binary_in Logic Γ goes_on o p = logic Γ goes_on o p

-- what an operator between two operands gives
abbrev pub binary : Scope → Bool → Operator → Pair → Checked Operand
binary Γ goes_on o p = binary_in (row_of o) Γ goes_on o p

-- an operator of one operand in a run or on a constant
abbrev pub applied_one : Scope → Op → Span → Operand → Operand
applied_one Γ o place (Fixed t v) = Fixed t (operator_value o (width_in t) v (width_in t) v)
applied_one Γ o place x = Computed (type_of x) (core.Unary o (core_of Γ x)) (varying_or place x)

-- `-` of a compile-time integer is one; of another value, and `~`, the value is sized
abbrev pub minus_of : Scope → Span → Operand → Checked Operand
minus_of Γ place (Whole z) = Right (Whole (neg_ℤ z))
minus_of Γ place x = provided (is_sized_value x) Checking code.Typing place (applied_one Γ op.Neg place x)

abbrev pub unary_of : Scope → UnaryOperator → Placed → Checked Operand
unary_of Γ unary.Not p = provided (is_boolean p.operand) Checking code.Typing p.place (applied_one Γ op.Not p.place p.operand)
unary_of Γ unary.Complement p =
    provided (is_sized_value (as_bits Γ p.operand)) Checking code.Typing p.place (applied_one Γ op.Not p.place (as_bits Γ p.operand))
unary_of Γ unary.Minus p = minus_of Γ p.place (as_bits Γ p.operand)

-- "Conditional operator": a constant only where all three are; two compile-time integers need a constant condition
abbrev pub chosen : {X : Type 0} → ℕ → X → X → X
chosen bit one other = if bit == 0 then other else one

abbrev pub choice_on : Scope → Span → Operand → (Operand × Operand) → Checked Operand
choice_on Γ place (Fixed t c) (Whole a, Whole b) = Right (Whole (chosen c a b))
choice_on Γ place c (Whole a, Whole b) = typing_fault place
choice_on Γ place (Fixed t c) (Fixed u a, Fixed v b) = Right (Fixed u (chosen c a b))
choice_on Γ place c (a, b) = Right (Computed (type_of a) (core.Choice (core_of Γ c) (core_of Γ a) (core_of Γ b))
    (varying_or (varying_or (varying_or place b) a) c))

abbrev pub choice : Scope → Placed → Pair → Checked Operand
choice Γ c p = and_then (provided (is_boolean c.operand) Checking code.Typing c.place p)
    (λ q. and_then (unified Γ q) (choice_on Γ q.place c.operand))
