-- Operators whose operands are taken in one type, where each alone is what its place wants.
use Rattle.std.proofs.Common.{◌≡◌, ℕ, ◌==◌, zero, suc, Bool, true, false, ◌&&◌, ℤ, refl, ap, sym, ◌∙◌, Option, Some, None}
use Rattle.std.specs.Prelude.{unsigned_abs, if◌then◌else◌}
use Rattle.tg_base.specs.declared.place.Span.{Span}
use Rattle.tg_base.specs.declared.place.Code.{Code}
use Rattle.tg_base.specs.declared.place.Code.TheVariants.{Typing, Unsupported}
use Rattle.p4_tree.specs.declared.expressions.Operator.{Operator}
use Rattle.p4_tree.specs.declared.expressions.Operator.TheVariants.{Divide}
use Rattle.p4_rules.specs.declared.faults.Fault.{Fault}
use Rattle.p4_rules.specs.declared.faults.Pass.{Pass}
use Rattle.p4_rules.specs.declared.faults.Pass.TheVariants.{Checking}
use Rattle.p4_rules.specs.declared.types.SourceType.TheVariants.{Boolean}
use Rattle.p4_rules.specs.Casts.{typing_fault}
use Rattle.p4_rules.specs.Faults.{Checked, Right, Wrong, fault_at, and_then, provided}
use Rattle.p4_rules.specs.Integers.{remainder}
use Rattle.p4_rules.specs.Scopes.{Scope}
use Rattle.p4_rules.specs.Operands.{Operand, Whole, type_of}
use Rattle.p4_rules.specs.Operators.{Pair, each, unified, core_operator, is_signed, has_fields, is_comparable, is_integer, applied_with, arithmetic_on, division, division_on, divided, order_on, equality, equality_on}
use Rattle.p4_rules.specs.Types.{same_type}
use Rattle.p4_consts.specs.Integers.{signed}
use Rattle.p4_consts.specs.Noted.{noted, right_of}
use Rattle.p4_consts.specs.Pairs.{unified_each, whole_numbers}
use Rattle.p4_consts.proofs.NotedLaws.{and_then_right, and_then_wrong, right_noted}

provided_is : {X : Type 0} (b : Bool) (pass : Pass) (code : Code) (place : Span) (x y : X) → right_of (provided b pass code place x) ≡ Some y → x ≡ y
provided_is true pass code place x y e = cc
provided_is false pass code place x y e = absurd (cc)

each_step : (b : Bool) (fits : Operand → Bool) (p q : Pair) →
    right_of (and_then (provided b Checking Typing p.left.place p) (λ r. provided (fits r.right.operand) Checking Typing r.right.place r)) ≡ Some q → p ≡ q
each_step true fits p q e = provided_is (fits p.right.operand) Checking Typing p.right.place p q e
each_step false fits p q e = absurd (cc)

-- the pair of which each is what its place wants is the pair
each_is : (fits : Operand → Bool) (p q : Pair) → right_of (each fits p) ≡ Some q → p ≡ q
each_is fits p q e = each_step (fits p.left.operand) fits p q e

right_step : {X : Type 0} (Γ : Scope) (p : Pair) (whole : Span → (Operand × Operand) → Checked X) (e : Operand × Operand) (r : Checked Pair) →
    ((q : Pair) → right_of r ≡ Some q → p ≡ q) → right_of (and_then r (unified Γ)) ≡ Some e →
    and_then r (λ q. and_then (unified Γ q) (whole q.place)) ≡ whole p.place e
right_step Γ p whole e (Right q) h k =
    and_then_right (unified Γ q) (whole q.place) e k ∙ ap (λ (s : Pair). whole s.place e) (sym (h q refl))
right_step Γ p whole e (Wrong fault more) h k = absurd (cc)

pub unified_each_right : {X : Type 0} (Γ : Scope) (fits : Operand → Bool) (p : Pair) (whole : Span → (Operand × Operand) → Checked X) (e : Operand × Operand) →
    right_of (unified_each Γ fits p) ≡ Some e → and_then (each fits p) (λ q. and_then (unified Γ q) (whole q.place)) ≡ whole p.place e
unified_each_right Γ fits p whole e k = right_step Γ p whole e (each fits p) (each_is fits p) k

pub unified_each_noted : {X : Type 0} (Γ : Scope) (fits : Operand → Bool) (p : Pair) (whole : Span → (Operand × Operand) → Checked X) (e : Operand × Operand)
    (first : Option Fault) → right_of (unified_each Γ fits p) ≡ Some e →
    noted first (and_then (each fits p) (λ q. and_then (unified Γ q) (whole q.place))) ≡ noted (noted first (unified_each Γ fits p)) (whole p.place e)
unified_each_noted Γ fits p whole e first k =
    ap (noted first) (unified_each_right Γ fits p whole e k)
    ∙ ap (λ g. noted g (whole p.place e)) (sym (right_noted (unified_each Γ fits p) e first k))

wrong_step : {X : Type 0} (Γ : Scope) (whole : Span → (Operand × Operand) → Checked X) (first : Option Fault) (r : Checked Pair) →
    right_of (and_then r (unified Γ)) ≡ None →
    (right_of (and_then r (λ q. and_then (unified Γ q) (whole q.place))) ≡ None)
    × (noted first (and_then r (λ q. and_then (unified Γ q) (whole q.place))) ≡ noted first (and_then r (unified Γ)))
wrong_step Γ whole first (Right q) k = and_then_wrong (unified Γ q) (whole q.place) first k
wrong_step Γ whole first (Wrong fault more) k = (refl, refl)

pub unified_each_wrong : {X : Type 0} (Γ : Scope) (fits : Operand → Bool) (p : Pair) (whole : Span → (Operand × Operand) → Checked X) (first : Option Fault) →
    right_of (unified_each Γ fits p) ≡ None →
    (right_of (and_then (each fits p) (λ q. and_then (unified Γ q) (whole q.place))) ≡ None)
    × (noted first (and_then (each fits p) (λ q. and_then (unified Γ q) (whole q.place))) ≡ noted first (unified_each Γ fits p))
unified_each_wrong Γ fits p whole first k = wrong_step Γ whole first (each fits p) k

-- ---- compile-time integers, and other operands

abbrev as_wholes : (ℤ × ℤ) → (Operand × Operand)
as_wholes n = (Whole n.0, Whole n.1)

pub whole_numbers_are : (a b : Operand) (x y : ℤ) → whole_numbers a b ≡ Some (x, y) → ◌≡◌ {A = Operand × Operand} (a, b) (Whole x, Whole y)
whole_numbers_are (Whole z) (Whole w) x y e = let same : ◌≡◌ {A = ℤ × ℤ} (z, w) (x, y) = cc in ap as_wholes same
whole_numbers_are _ _ x y e = absurd (cc)

pub arithmetic_beside : (Γ : Scope) (goes_on : Bool) (o : Operator) (place : Span) (a b : Operand) → whole_numbers a b ≡ None →
    applied_with Γ goes_on (type_of a) (core_operator o (is_signed (type_of a))) place a b ≡ arithmetic_on Γ goes_on o place (a, b)
arithmetic_beside Γ goes_on o place (Whole z) (Whole w) e = absurd (cc)
arithmetic_beside Γ goes_on o place _ _ e = refl

pub order_beside : (Γ : Scope) (goes_on : Bool) (o : Operator) (place : Span) (a b : Operand) → whole_numbers a b ≡ None →
    applied_with Γ goes_on Boolean (core_operator o (is_signed (type_of a))) place a b ≡ order_on Γ goes_on o place (a, b)
order_beside Γ goes_on o place (Whole z) (Whole w) e = absurd (cc)
order_beside Γ goes_on o place _ _ e = refl

pub equality_beside : (Γ : Scope) (goes_on : Bool) (o : Operator) (place : Span) (a b : Operand) → whole_numbers a b ≡ None →
    applied_with Γ goes_on Boolean (core_operator o false) place a b ≡ equality_on Γ goes_on o place (a, b)
equality_beside Γ goes_on o place (Whole z) (Whole w) e = absurd (cc)
equality_beside Γ goes_on o place _ _ e = refl

pub zero_signed : (b : Bool) (m : ℕ) → (unsigned_abs (signed b m) == 0) ≡ (m == 0)
zero_signed false m = refl
zero_signed true zero = refl
zero_signed true (suc m) = refl

-- ---- equality

pub equality_taken : (Γ : Scope) (goes_on : Bool) (o : Operator) (p : Pair) →
    (has_fields (type_of p.left.operand) && same_type (type_of p.left.operand) (type_of p.right.operand)) ≡ false →
    equality Γ goes_on o p ≡ and_then (each is_comparable p) (λ q. and_then (unified Γ q) (equality_on Γ goes_on o q.place))
equality_taken Γ goes_on o p e =
    ap (λ (b : Bool). if b then fault_at Checking Unsupported p.place
    else and_then (each is_comparable p) (λ q. and_then (unified Γ q) (equality_on Γ goes_on o q.place))) e

pub equality_refused : (Γ : Scope) (goes_on : Bool) (o : Operator) (p : Pair) →
    (has_fields (type_of p.left.operand) && same_type (type_of p.left.operand) (type_of p.right.operand)) ≡ true →
    equality Γ goes_on o p ≡ fault_at Checking Unsupported p.place
equality_refused Γ goes_on o p e =
    ap (λ (b : Bool). if b then fault_at Checking Unsupported p.place
    else and_then (each is_comparable p) (λ q. and_then (unified Γ q) (equality_on Γ goes_on o q.place))) e

-- ---- division

abbrev divided_pair : Scope → Operator → Pair → Checked Operand
divided_pair Γ o q = division_on Γ o q q.left.operand q.right.operand

pub division_taken : (Γ : Scope) (o : Operator) (p q : Pair) → right_of (each is_integer p) ≡ Some q →
    division Γ o p ≡ division_on Γ o q q.left.operand q.right.operand
division_taken Γ o p q e = and_then_right (each is_integer p) (divided_pair Γ o) q e

pub division_wrong : (Γ : Scope) (o : Operator) (p : Pair) (first : Option Fault) → right_of (each is_integer p) ≡ None →
    (right_of (division Γ o p) ≡ None) × (noted first (division Γ o p) ≡ noted first (each is_integer p))
division_wrong Γ o p first e = and_then_wrong (each is_integer p) (divided_pair Γ o) first e

pub division_beside : (Γ : Scope) (o : Operator) (p : Pair) (a b : Operand) → whole_numbers a b ≡ None →
    division_on Γ o p a b ≡ typing_fault p.place
division_beside Γ o p (Whole z) (Whole w) e = absurd (cc)
division_beside Γ o p _ _ e = refl

pub divided_other : (o : Operator) (a b : ℤ) → (o ≡ Divide → ⊥) → remainder a b ≡ divided o a b
divided_other Divide a b h = absurd (h refl)
divided_other _ a b h = refl
