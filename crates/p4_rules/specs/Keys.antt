-- What values are matched with: the patterns of `select` and of constant entries.
use Rattle.std.specs.Prelude.{ℕ, zero, suc, ◌-◌, ◌%◌, ◌^◌, ◌==◌, ◌&&◌, List, [], ◌∷◌, Bool, true, false, Option, None, Some, min, bit_and, if◌then◌else◌}
use Rattle.tg_base.specs.declared.place.Span.{Span}
use Rattle.tg_base.specs.declared.place.Code.TheVariants as code
use Rattle.bits_core.specs.declared.number.Bits.{Bits}
use Rattle.p4_tree.specs.declared.expressions.ExpressionKind.{more_of-SimpleKey, end_of-SimpleKey}
use Rattle.p4_tree.specs.declared.expressions.ExpressionKind.TheVariants as kind
use Rattle.p4_tree.specs.declared.expressions.SimpleKeyKind.{SimpleKeyKind}
use Rattle.p4_tree.specs.declared.expressions.SimpleKeyKind.TheVariants as key
use Rattle.p4_program.specs.declared.typed.tables.MatchKind.{MatchKind}
use Rattle.p4_program.specs.declared.typed.tables.MatchKind.TheVariants as match
use Rattle.p4_program.specs.declared.typed.tables.Pattern.{Pattern}
use Rattle.p4_program.specs.declared.typed.tables.Pattern.TheVariants as pattern
use Rattle.std.proofs.Common.{zero-le, suc-le-suc}
use Rattle.std.proofs.Math.Nat.{min-le_right, mod-lt}
use Rattle.std.proofs.lemmas.Nat.{pow_pos}
use Rattle.p4_rules.specs.declared.faults.Pass.TheVariants.{Checking}
use Rattle.p4_rules.specs.Faults.{Checked, Right, fault_at, and_then, made_of, both, with_both}
use Rattle.p4_rules.specs.declared.types.SourceType.{SourceType}
use Rattle.p4_rules.specs.Types.{is_sized}
use Rattle.p4_rules.specs.Scopes.{Scope}
use Rattle.p4_rules.specs.Operands.{Operand, Whole, Fixed, Placed, varying_or}
use Rattle.p4_rules.specs.Operators.{width_in}
use Rattle.p4_rules.specs.Casts.{cast_to, typing_fault, constant_fault}
use Rattle.p4_rules.specs.Things.{value_of}
use Rattle.p4_rules.specs.Expressions.{judged}

-- A width from 1 to 128: the width itself, where it is one.
abbrev pub width_within : ℕ → ℕ
width_within w = suc (min (w - 1) 127)

-- a number of so many bits
abbrev pub bits_at : ℕ → ℕ → Bits
bits_at w v = record {
  width = width_within w;
  value = v % 2 ^ width_within w;
  some_bit = suc-le-suc zero-le;
  at_most_widest = suc-le-suc (min-le_right (w - 1) 127);
  fits = mod-lt v (pow_pos (width_within w));
}

-- all bits of a width set
abbrev pub all_ones : ℕ → ℕ
all_ones w = 2 ^ w - 1

-- a key as it is written: `_`, `default`, a value, or a value and a mask
pub data Form : Type 0 where
  Anything Default : Form
  OfValue : Placed → Form
  OfMask : Placed → Placed → Form

-- a key in parentheses is the key
abbrev pub form_of : Scope → SimpleKeyKind → Span → Checked Form
form_of Γ key.Default place = Right Default
form_of Γ key.Any place = Right Anything
form_of Γ (key.Value' (kind.ParenthesizedKey' one (more_of-SimpleKey k s end_of-SimpleKey)) t) place = form_of Γ k s
form_of Γ (key.Value' k s) place = made_of (λ p. OfValue p) (and_then (judged Γ k s) value_of)
form_of Γ (key.Mask' k s l t) place =
    both (λ p q. OfMask p q) (and_then (judged Γ k s) value_of) (and_then (judged Γ l t) value_of)
form_of Γ (key.Range' k s l t) place =
    with_both (λ p q. fault_at Checking code.Unsupported p.place) (and_then (judged Γ k s) value_of) (and_then (judged Γ l t) value_of)

-- a constant of the type of what is matched
abbrev pub fixed_in : Scope → Span → Operand → Checked ℕ
fixed_in Γ place (Fixed t v) = Right v
fixed_in Γ place x = constant_fault Γ (varying_or place x)

abbrev pub constant_or : Scope → Placed → Operand → Checked Placed
constant_or Γ p (Whole z) = Right p
constant_or Γ p (Fixed t v) = Right p
constant_or Γ p x = constant_fault Γ (varying_or p.place x)

-- a value that is no constant is refused as that, whatever its type
abbrev pub constant_first : Scope → Placed → Checked Placed
constant_first Γ p = constant_or Γ p p.operand

abbrev pub constant_for : Scope → SourceType → Placed → Checked ℕ
constant_for Γ t p = and_then (constant_first Γ p)
    (λ q. and_then (cast_to Γ t q.place q.operand) (fixed_in Γ q.place))

-- A value of a type and a mask, which sized values alone have.
abbrev pub masked_for : Scope → SourceType → Placed → Placed → Checked (ℕ × ℕ)
masked_for Γ t p m = if is_sized t then both (λ v n. (bit_and v n, n)) (constant_for Γ t p) (constant_for Γ t m) else typing_fault p.place

-- "Select expressions": a value, a value and a mask, `_` or `default`
abbrev pub select_pattern : Scope → SourceType → Form → Checked Pattern
select_pattern Γ t Anything = Right (pattern.Masked (bits_at (width_in t) 0) (bits_at (width_in t) 0))
select_pattern Γ t Default = Right (pattern.Masked (bits_at (width_in t) 0) (bits_at (width_in t) 0))
select_pattern Γ t (OfValue p) = made_of (λ v. pattern.Exact (bits_at (width_in t) v)) (constant_for Γ t p)
select_pattern Γ t (OfMask p m) =
    made_of (λ vm. pattern.Masked (bits_at (width_in t) vm.0) (bits_at (width_in t) vm.1)) (masked_for Γ t p m)

-- "Longest-prefix match": how many leading ones a mask of w bits has, where it has no others
abbrev pub prefix_from : ℕ → ℕ → ℕ → Option ℕ
prefix_from w mask zero = if mask == 0 then Some 0 else None
prefix_from w mask (suc n) = if mask == all_ones w - all_ones (w - suc n) then Some (suc n) else prefix_from w mask n

abbrev pub prefix_length : ℕ → ℕ → Option ℕ
prefix_length w mask = prefix_from w mask w

abbrev pub prefix_pattern : ℕ → Span → ℕ → Option ℕ → Checked Pattern
prefix_pattern w place v (Some n) = Right (pattern.Prefix (bits_at w v) n)
prefix_pattern w place v None = typing_fault place

-- "Entries": an exact key has a value; an lpm key a value, a value with a mask of leading ones, or `_`; a ternary key a value, a
-- value with a mask, or `_`
abbrev pub entry_pattern : Scope → MatchKind → SourceType → Span → Form → Checked Pattern
entry_pattern Γ kind t place Default = typing_fault place
entry_pattern Γ match.Exact t place (OfValue p) = made_of (λ v. pattern.Exact (bits_at (width_in t) v)) (constant_for Γ t p)
entry_pattern Γ match.Exact t place form = typing_fault place
entry_pattern Γ match.Lpm t place Anything = Right (pattern.Prefix (bits_at (width_in t) 0) 0)
entry_pattern Γ match.Lpm t place (OfValue p) = made_of (λ v. pattern.Prefix (bits_at (width_in t) v) (width_in t)) (constant_for Γ t p)
entry_pattern Γ match.Lpm t place (OfMask p m) =
    and_then (masked_for Γ t p m) (λ vm. prefix_pattern (width_in t) m.place vm.0 (prefix_length (width_in t) vm.1))
entry_pattern Γ match.Ternary t place Anything = Right (pattern.Masked (bits_at (width_in t) 0) (bits_at (width_in t) 0))
entry_pattern Γ match.Ternary t place (OfValue p) =
    made_of (λ v. pattern.Masked (bits_at (width_in t) v) (bits_at (width_in t) (all_ones (width_in t)))) (constant_for Γ t p)
entry_pattern Γ match.Ternary t place (OfMask p m) =
    made_of (λ vm. pattern.Masked (bits_at (width_in t) vm.0) (bits_at (width_in t) vm.1)) (masked_for Γ t p m)

-- the same pattern: masked or cut to the prefix, so many bits are compared and they are the same
abbrev pub same_bits : Bits → Bits → Bool
same_bits a b = a.value == b.value

abbrev pub same_pattern : Pattern → Pattern → Bool
same_pattern (pattern.Exact a) (pattern.Exact b) = same_bits a b
same_pattern (pattern.Prefix a m) (pattern.Prefix b n) = (m == n) && same_bits a b
same_pattern (pattern.Masked a m) (pattern.Masked b n) = same_bits a b && same_bits m n
same_pattern _ _ = false

abbrev pub same_patterns : List Pattern → List Pattern → Bool
same_patterns [] [] = true
same_patterns (p ∷ ps) (q ∷ qs) = same_pattern p q && same_patterns ps qs
same_patterns _ _ = false
