-- Places: which integers are the number of one of so many.
use Rattle.std.proofs.Common.{◌≡◌, ℕ, zero, suc, ◌+◌, ◌-◌, ◌≤◌, ◌<◌, Bool, true, false, refl, arith}
use Rattle.std.specs.Prelude.{ℤ, pos, negsuc, unsigned_abs, nat_lt, int_lt}
use Rattle.std.proofs.lemmas.Bool.Decides.{nat_tests}
use Rattle.std.proofs.lemmas.Int.{ints}
use Rattle.tg_base.specs.declared.place.Span.{Span}
use Rattle.p4_program.specs.declared.typed.paths.Path.{Path}
use Rattle.p4_program.specs.Syntax.Expressions as core
use Rattle.p4_rules.specs.declared.types.SourceType.{SourceType}
use Rattle.p4_rules.specs.declared.types.SourceType.TheVariants.{Bit}
use Rattle.p4_rules.specs.Integers.{is_negative}
use Rattle.p4_rules.specs.Scopes.{Scope}
use Rattle.p4_rules.specs.Operands.{core_of, varying_or}
use Rattle.p4_rules.specs.Operands as rules
use Rattle.p4_rules.specs.Expressions.{is_bit_place, bits_of}
use Rattle.p4_consts.specs.declared.constants.Constant.{Constant}
use Rattle.p4_consts.specs.declared.places.Places.{Places}
use Rattle.p4_consts.specs.declared.operands.Operand.{Operand}
use Rattle.p4_consts.specs.declared.operands.Operand.TheVariants.{Whole, Fixed, Stored, Sliced, Computed as Run}
use Rattle.p4_consts.specs.Integers.{signed}
use Rattle.p4_consts.specs.Operands.{operand_of}

pub place_below : (count m : ℕ) (b : Bool) → is_negative (signed b m) ≡ true → is_bit_place count (signed b m) ≡ false
place_below count m false e = grind (arith, ints, nat_tests)
place_below count zero true e = grind (arith, ints, nat_tests)
place_below count (suc m) true e = refl

pub place_past : (count m : ℕ) (b : Bool) → count ≤ m → is_bit_place count (signed b m) ≡ false
place_past count m false past = grind (arith, ints, nat_tests)
place_past count zero true past = grind (arith, ints, nat_tests)
place_past count (suc m) true past = refl

pub place_kept : (count m : ℕ) (b : Bool) → is_negative (signed b m) ≡ false → m < count → is_bit_place count (signed b m) ≡ true
place_kept count m false e within = grind (arith, ints, nat_tests)
place_kept count zero true e within = grind (arith, ints, nat_tests)
place_kept count (suc m) true e within = cc

-- the order of two places is that of their numbers
pub place_order : (count : ℕ) (y z : ℤ) → is_bit_place count y ≡ true → is_bit_place count z ≡ true →
    int_lt y z ≡ nat_lt (unsigned_abs y) (unsigned_abs z)
place_order count (pos m) (pos n) e f = grind (arith, ints, nat_tests)
place_order count (pos m) (negsuc n) e f = cc
place_order count (negsuc m) z e f = cc

-- the bits of what neither a constant nor a path leads to
pub bits_of_run : (Γ : Scope) (place : Span) (x : Operand) (high low : ℕ) → ((c : Constant) → x ≡ Fixed c → ⊥) →
    ((t : SourceType) (writable : Bool) (path : Path) (at : Span) → x ≡ Stored t writable path at → ⊥) →
    ((writable : Bool) (path : Path) (places : Places) (at : Span) → x ≡ Sliced writable path places at → ⊥) →
    bits_of Γ place (operand_of x) high low
    ≡ rules.Computed (Bit (high - low + 1)) (core.Slice (core_of Γ (operand_of x)) high low) (varying_or place (operand_of x))
bits_of_run Γ place (Whole i) high low f g h = refl
bits_of_run Γ place (Fixed c) high low f g h = absurd (f c refl)
bits_of_run Γ place (Stored t writable path at) high low f g h = absurd (g t writable path at refl)
bits_of_run Γ place (Sliced writable path places at) high low f g h = absurd (h writable path places at refl)
bits_of_run Γ place (Run t e at) high low f g h = refl
