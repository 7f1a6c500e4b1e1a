-- Two operands in one type, by the types that they have.
use Rattle.std.proofs.Common.{◌≡◌, ◌≢◌, ℕ, ◌==◌, Bool, true, false, refl, ap, ◌∙◌}
use Rattle.std.specs.Prelude.{if◌then◌else◌}
use Rattle.tg_base.specs.declared.place.Code.TheVariants.{Typing}
use Rattle.p4_rules.specs.declared.faults.Pass.TheVariants.{Checking}
use Rattle.p4_rules.specs.declared.types.SourceType.{SourceType}
use Rattle.p4_rules.specs.declared.types.SourceType.TheVariants.{Integer, Bit, BitEnumeration}
use Rattle.p4_rules.specs.Casts.{as_bits, cast_to, typing_fault}
use Rattle.p4_rules.specs.Faults.{Right, both, provided}
use Rattle.p4_rules.specs.Operands.{Operand, type_of}
use Rattle.p4_rules.specs.Operators.{Pair, unified, unified_with, with_bits}
use Rattle.p4_rules.specs.Scopes.{Scope}
use Rattle.p4_rules.specs.Types.{is_sized, same_type}
use Rattle.p4_consts.specs.Pairs.{operands_in}

pub unified_left : (Γ : Scope) (u : SourceType) (p : Pair) → u ≢ Integer →
    unified_with Γ Integer u p ≡ (if is_sized (type_of (as_bits Γ p.right.operand))
    then both (λ a b. (a, b)) (cast_to Γ (type_of (as_bits Γ p.right.operand)) p.left.place p.left.operand) (Right (as_bits Γ p.right.operand))
    else typing_fault p.place)
unified_left Γ Integer p h = absurd (h refl)
unified_left Γ _ p h = refl

pub unified_right : (Γ : Scope) (t : SourceType) (p : Pair) → t ≢ Integer →
    unified_with Γ t Integer p ≡ (if is_sized (type_of (as_bits Γ p.left.operand))
    then both (λ a b. (a, b)) (Right (as_bits Γ p.left.operand)) (cast_to Γ (type_of (as_bits Γ p.left.operand)) p.right.place p.right.operand)
    else typing_fault p.place)
unified_right Γ Integer p h = absurd (h refl)
unified_right Γ _ p h = refl

-- neither is cast
pub bits_beside : (Γ : Scope) (w : ℕ) (u : SourceType) (p : Pair) → u ≢ Integer → ((n v : ℕ) → u ≡ BitEnumeration n v → ⊥) →
    provided (same_type (Bit w) u) Checking Typing p.place (p.left.operand, p.right.operand) ≡ unified_with Γ (Bit w) u p
bits_beside Γ w Integer p g h = absurd (g refl)
bits_beside Γ w (BitEnumeration n v) p g h = absurd (h n v refl)
bits_beside Γ w _ p g h = refl

pub enumeration_beside : (Γ : Scope) (n v : ℕ) (u : SourceType) (p : Pair) → u ≢ Integer → ((w : ℕ) → u ≡ Bit w → ⊥) →
    provided (same_type (BitEnumeration n v) u) Checking Typing p.place (p.left.operand, p.right.operand) ≡ unified_with Γ (BitEnumeration n v) u p
enumeration_beside Γ n v Integer p g h = absurd (g refl)
enumeration_beside Γ n v (Bit w) p g h = absurd (h w refl)
enumeration_beside Γ n v _ p g h = refl

pub others_beside : (Γ : Scope) (t u : SourceType) (p : Pair) → t ≢ Integer → u ≢ Integer →
    ((w : ℕ) → t ≡ Bit w → ⊥) → ((n v : ℕ) → t ≡ BitEnumeration n v → ⊥) →
    provided (same_type t u) Checking Typing p.place (p.left.operand, p.right.operand) ≡ unified_with Γ t u p
others_beside Γ Integer u p f g h k = absurd (f refl)
others_beside Γ t Integer p f g h k = absurd (g refl)
others_beside Γ (Bit w) u p f g h k = absurd (h w refl)
others_beside Γ (BitEnumeration n v) u p f g h k = absurd (k n v refl)
others_beside Γ _ _ p f g h k = refl

-- ---- a compile-time integer beside another operand

pub left_refused : (Γ : Scope) (p : Pair) (other : Operand) → type_of p.left.operand ≡ Integer → type_of p.right.operand ≢ Integer →
    other ≡ as_bits Γ p.right.operand → is_sized (type_of other) ≡ false → unified Γ p ≡ typing_fault p.place
left_refused Γ p other e h o k =
    ap (λ t. unified_with Γ t (type_of p.right.operand) p) e ∙ unified_left Γ (type_of p.right.operand) p h
    ∙ rw (← o, k) refl

pub left_taken : (Γ : Scope) (p : Pair) (t : SourceType) (other : Operand) → type_of p.left.operand ≡ Integer → type_of p.right.operand ≢ Integer →
    other ≡ as_bits Γ p.right.operand → t ≡ type_of other → is_sized t ≡ true →
    unified Γ p ≡ both (λ a b. (a, b)) (cast_to Γ t p.left.place p.left.operand) (Right other)
left_taken Γ p t other e h o s k =
    ap (λ u. unified_with Γ u (type_of p.right.operand) p) e ∙ unified_left Γ (type_of p.right.operand) p h
    ∙ rw (← o, ← s, k) refl

pub right_refused : (Γ : Scope) (p : Pair) (one : Operand) → type_of p.left.operand ≢ Integer → type_of p.right.operand ≡ Integer →
    one ≡ as_bits Γ p.left.operand → is_sized (type_of one) ≡ false → unified Γ p ≡ typing_fault p.place
right_refused Γ p one h e o k =
    ap (λ t. unified_with Γ (type_of p.left.operand) t p) e ∙ unified_right Γ (type_of p.left.operand) p h
    ∙ rw (← o, k) refl

pub right_taken : (Γ : Scope) (p : Pair) (t : SourceType) (one : Operand) → type_of p.left.operand ≢ Integer → type_of p.right.operand ≡ Integer →
    one ≡ as_bits Γ p.left.operand → t ≡ type_of one → is_sized t ≡ true →
    unified Γ p ≡ both (λ a b. (a, b)) (Right one) (cast_to Γ t p.right.place p.right.operand)
right_taken Γ p t one h e o s k =
    ap (λ u. unified_with Γ (type_of p.left.operand) u p) e ∙ unified_right Γ (type_of p.left.operand) p h
    ∙ rw (← o, ← s, k) refl

-- ---- by the types that two operands have

pub of_types : (Γ : Scope) (t u : SourceType) (p : Pair) → t ≡ type_of p.left.operand → u ≡ type_of p.right.operand → unified_with Γ t u p ≡ unified Γ p
of_types Γ t u p e f = ap (λ s. unified_with Γ s u p) e ∙ ap (λ s. unified_with Γ (type_of p.left.operand) s p) f

pub bits_with_enumeration : (Γ : Scope) (w n v : ℕ) (p : Pair) → type_of p.left.operand ≡ Bit w → type_of p.right.operand ≡ BitEnumeration n v →
    provided (w == v) Checking Typing p.place (operands_in (with_bits Γ p)) ≡ unified Γ p
bits_with_enumeration Γ w n v p e f = rw (e, f, f) refl

pub enumeration_with_bits : (Γ : Scope) (n v w : ℕ) (p : Pair) → type_of p.left.operand ≡ BitEnumeration n v → type_of p.right.operand ≡ Bit w →
    provided (v == w) Checking Typing p.place (operands_in (with_bits Γ p)) ≡ unified Γ p
enumeration_with_bits Γ n v w p e f = rw (e, f, e) refl

pub unified_alike : (Γ : Scope) (t u : SourceType) (p : Pair) (b : Bool) → b ≡ same_type t u → t ≡ type_of p.left.operand → u ≡ type_of p.right.operand →
    provided (same_type t u) Checking Typing p.place (p.left.operand, p.right.operand) ≡ unified_with Γ t u p →
    provided b Checking Typing p.place (operands_in p) ≡ unified Γ p
unified_alike Γ t u p b h e f k = ap (λ d. provided d Checking Typing p.place (operands_in p)) h ∙ k ∙ of_types Γ t u p e f
