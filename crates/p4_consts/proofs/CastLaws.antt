-- Casts of what is no compile-time integer, and of what is no constant.
use Rattle.std.proofs.Common.{◌≡◌, ℕ, ◌==◌, Bool, false, refl, arith}
use Rattle.std.specs.Prelude.{if◌then◌else◌}
use Rattle.std.proofs.lemmas.Grind.{common_steps}
use Rattle.std.proofs.lemmas.Bool.Decides.{nat_tests}
use Rattle.tg_base.specs.declared.place.Span.{Span}
use Rattle.p4_program.specs.Syntax.Expressions.{CoreExpression, Resize}
use Rattle.p4_rules.specs.declared.types.SourceType.{SourceType}
use Rattle.p4_rules.specs.declared.types.SourceType.TheVariants.{Bit, Signed, Boolean, BitEnumeration}
use Rattle.p4_rules.specs.declared.faults.Pass.TheVariants.{Checking}
use Rattle.tg_base.specs.declared.place.Code.TheVariants.{Typing}
use Rattle.p4_rules.specs.Faults.{provided}
use Rattle.p4_rules.specs.Types.{is_sized}
use Rattle.p4_rules.specs.Scopes.{Scope}
use Rattle.p4_rules.specs.Operands.{Operand as RulesOperand, Computed, type_of, core_of, varying_or, retyped}
use Rattle.p4_rules.specs.Casts.{cast_to, cast, value_as, value_cast, resized}
use Rattle.p4_consts.specs.declared.constants.Constant.{Constant}
use Rattle.p4_consts.specs.declared.integer.Integer.{Integer}
use Rattle.p4_consts.specs.declared.operands.Operand.{Operand}
use Rattle.p4_consts.specs.declared.operands.Operand.TheVariants.{Whole, Fixed, Stored, Sliced, Computed as Run}
use Rattle.p4_consts.specs.Operands.{operand_of}

-- a value that is no compile-time integer, by the type that it has
pub cast_to_value : (Γ : Scope) (t u : SourceType) (place : Span) (x : Operand) → ((i : Integer) → x ≡ Whole i → ⊥) →
    u ≡ type_of (operand_of x) → value_as Γ t u place (operand_of x) ≡ cast_to Γ t place (operand_of x)
cast_to_value Γ t u place (Whole i) h p = absurd (h i refl)
cast_to_value Γ t u place (Fixed c) h p = cc
cast_to_value Γ t u place (Stored s w path at) h p = cc
cast_to_value Γ t u place (Sliced w path b at) h p = cc
cast_to_value Γ t u place (Run s e at) h p = cc

pub cast_value : (Γ : Scope) (t u : SourceType) (place : Span) (x : Operand) → ((i : Integer) → x ≡ Whole i → ⊥) →
    u ≡ type_of (operand_of x) → value_cast Γ t u place (operand_of x) ≡ cast Γ t place (operand_of x)
cast_value Γ t u place (Whole i) h p = absurd (h i refl)
cast_value Γ t u place (Fixed c) h p = cc
cast_value Γ t u place (Stored s w path at) h p = cc
cast_value Γ t u place (Sliced w path b at) h p = cc
cast_value Γ t u place (Run s e at) h p = cc

-- the value of a run at another width
resized_run : (Γ : Scope) (signed : Bool) (w v : ℕ) (t : SourceType) (place : Span) (x : Operand) → ((c : Constant) → x ≡ Fixed c → ⊥) →
    resized Γ signed w v t place (operand_of x)
    ≡ Computed t (if w == v then core_of Γ (operand_of x) else Resize signed v (core_of Γ (operand_of x))) (varying_or place (operand_of x))
resized_run Γ signed w v t place (Whole i) h = refl
resized_run Γ signed w v t place (Fixed c) h = absurd (h c refl)
resized_run Γ signed w v t place (Stored s r path at) h = refl
resized_run Γ signed w v t place (Sliced r path b at) h = refl
resized_run Γ signed w v t place (Run s e at) h = refl

at_one_width : (t : SourceType) (signed : Bool) (w v : ℕ) (e f : CoreExpression) (at : Span) → w ≡ v →
    Computed t e at ≡ Computed t (if w == v then e else f) at
at_one_width t signed w v e f at p = grind (arith, nat_tests, common_steps)

at_two_widths : (t : SourceType) (signed : Bool) (w v : ℕ) (e f : CoreExpression) (at : Span) → (w ≡ v → ⊥) →
    Computed t f at ≡ Computed t (if w == v then e else f) at
at_two_widths t signed w v e f at p = grind (arith, nat_tests, common_steps)

pub resized_same : (Γ : Scope) (signed : Bool) (w v : ℕ) (t : SourceType) (place : Span) (x : Operand) (e : CoreExpression) (at : Span) →
    ((c : Constant) → x ≡ Fixed c → ⊥) → w ≡ v → e ≡ core_of Γ (operand_of x) → at ≡ varying_or place (operand_of x) →
    Computed t e at ≡ resized Γ signed w v t place (operand_of x)
resized_same Γ signed w v t place x e at h p r s =
    let whole = at_one_width t signed w v (core_of Γ (operand_of x)) (Resize signed v (core_of Γ (operand_of x))) (varying_or place (operand_of x)) p in
    let run = resized_run Γ signed w v t place x h in
    cc

pub resized_other : (Γ : Scope) (signed : Bool) (w v : ℕ) (t : SourceType) (place : Span) (x : Operand) (e : CoreExpression) (at : Span) →
    ((c : Constant) → x ≡ Fixed c → ⊥) → (w ≡ v → ⊥) → e ≡ core_of Γ (operand_of x) → at ≡ varying_or place (operand_of x) →
    Computed t (Resize signed v e) at ≡ resized Γ signed w v t place (operand_of x)
resized_other Γ signed w v t place x e at h p r s =
    let whole = at_two_widths t signed w v (core_of Γ (operand_of x)) (Resize signed v (core_of Γ (operand_of x))) (varying_or place (operand_of x)) p in
    let run = resized_run Γ signed w v t place x h in
    cc

-- a cast to `bit` or `int` from what has no bits
pub to_bit_otherwise : (Γ : Scope) (v : ℕ) (u : SourceType) (place : Span) (x : RulesOperand) →
    ((w : ℕ) → u ≡ Bit w → ⊥) → ((w : ℕ) → u ≡ Signed w → ⊥) → (u ≡ Boolean → ⊥) → ((n w : ℕ) → u ≡ BitEnumeration n w → ⊥) →
    provided false Checking Typing place (retyped Γ (Bit v) x) ≡ value_cast Γ (Bit v) u place x
to_bit_otherwise Γ v (Bit w) place x a b c d = absurd (a w refl)
to_bit_otherwise Γ v (Signed w) place x a b c d = absurd (b w refl)
to_bit_otherwise Γ v Boolean place x a b c d = absurd (c refl)
to_bit_otherwise Γ v (BitEnumeration n w) place x a b c d = absurd (d n w refl)
to_bit_otherwise Γ v _ place x a b c d = refl

pub to_int_otherwise : (Γ : Scope) (v : ℕ) (u : SourceType) (place : Span) (x : RulesOperand) →
    ((w : ℕ) → u ≡ Signed w → ⊥) → ((w : ℕ) → u ≡ Bit w → ⊥) →
    provided false Checking Typing place (retyped Γ (Signed v) x) ≡ value_cast Γ (Signed v) u place x
to_int_otherwise Γ v (Bit w) place x a b = absurd (b w refl)
to_int_otherwise Γ v (Signed w) place x a b = absurd (a w refl)
to_int_otherwise Γ v _ place x a b = refl

pub not_sized : (t : SourceType) → ((w : ℕ) → t ≡ Bit w → ⊥) → ((w : ℕ) → t ≡ Signed w → ⊥) → is_sized t ≡ false
not_sized (Bit w) a b = absurd (a w refl)
not_sized (Signed w) a b = absurd (b w refl)
not_sized _ a b = refl
