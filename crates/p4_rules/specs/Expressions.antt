-- Expressions and types as they are written: what each stands for in a scope. The two lead to one another, since a cast has a
-- type, and a width or the size of a stack is an expression.
use Rattle.std.specs.Prelude.{ℕ, ◌+◌, ◌-◌, nat_le, nat_lt, List, [], ◌∷◌, map, Bool, true, false, ◌&&◌, not, Option, None, Some, ℤ, pos, int_lt, int_le, unsigned_abs, codes, if◌then◌else◌}
use Rattle.std.specs.Str.{bytes_eq}
use Rattle.tg_base.specs.declared.place.Span.{Span}
use Rattle.tg_base.specs.declared.place.Code.TheVariants as code
use Rattle.bits_core.specs.Number.{slice_value}
use Rattle.p4_tree.specs.declared.names.Name.{Name}
use Rattle.p4_tree.specs.declared.expressions.BaseType.{BaseType, BaseType-Bit-0-None', BaseType-Bit-0-Some', BaseType-Named-1-None', BaseType-Named-1-Some'}
use Rattle.p4_tree.specs.declared.expressions.BaseType.TheVariants as base
use Rattle.p4_tree.specs.declared.expressions.WidthKind.{WidthKind}
use Rattle.p4_tree.specs.declared.expressions.WidthKind.TheVariants as width
use Rattle.p4_tree.specs.declared.expressions.TypeForm.{TypeForm, TypeForm', TypeForm-size-None', TypeForm-size-Some'}
use Rattle.p4_tree.specs.declared.expressions.Operator.{Operator}
use Rattle.p4_tree.specs.declared.expressions.ExpressionKind.{ExpressionKind, Row_of-Expression, end_of-Expression, more_of-Expression, Row_of-Operation, end_of-Operation, more_of-Operation, Row_of-PostfixPart, end_of-PostfixPart, more_of-PostfixPart, end_of-SimpleKey, more_of-SimpleKey, end_of-TypeForm, more_of-TypeForm}
use Rattle.p4_tree.specs.declared.expressions.ExpressionKind.TheVariants as kind
use Rattle.p4_tree.specs.declared.expressions.PostfixKind.{PostfixKind}
use Rattle.p4_tree.specs.declared.expressions.PostfixKind.TheVariants as postfix
use Rattle.p4_tree.specs.declared.expressions.SimpleKeyKind.{SimpleKeyKind}
use Rattle.p4_tree.specs.declared.expressions.SimpleKeyKind.TheVariants as key
use Rattle.p4_program.specs.Syntax.Expressions as core
use Rattle.p4_program.specs.declared.typed.paths.Step.TheVariants as step
use Rattle.p4_rules.specs.declared.faults.Pass.TheVariants.{Folding, Checking}
use Rattle.p4_rules.specs.Faults.{Checked, Right, fault_at, provided, and_then, made_of, both, with_both, with_three, told}
use Rattle.p4_rules.specs.Integers.{widest}
use Rattle.p4_rules.specs.declared.types.SourceType.{SourceType}
use Rattle.p4_rules.specs.declared.types.Object.TheVariants.{Register}
use Rattle.p4_rules.specs.declared.types.SourceType.TheVariants.{Bit, Signed, Integer, Boolean, Error, Header, Stack, Opaque}
use Rattle.p4_rules.specs.Scopes.{Scope, folding, meaning_of, type_meaning, as_type}
use Rattle.p4_rules.specs.Operands.{Operand, Fixed, Stored, Sliced, Computed, Placed, type_of, varying_or, core_of, constant_number}
use Rattle.p4_rules.specs.Casts.{cast, as_bits, typing_fault}
use Rattle.p4_rules.specs.Operators.{binary, unary_of, choice, is_of_bits, is_number, bool_value, width_in}
use Rattle.p4_rules.specs.Things.{Thing, Value, TypeName, Errors, Text, Braced, Judged, value_at, value_of, number_of, literal, thing_of, member_of, lookahead_of, step_from}
use Rattle.p4_rules.specs.Callees.{call}

-- the greatest size of a stack
abbrev pub largest_stack : ℕ
largest_stack = 16

-- A width or a size: at least 1, else no constant for its place; more than there may be passes a limit.
abbrev pub size_within : ℕ → Span → ℤ → Checked ℕ
size_within most place z =
    if int_lt z (pos 1) then fault_at Folding code.Constant place
    else (if nat_le (unsigned_abs z) most then Right (unsigned_abs z) else fault_at Checking code.Limit place)

abbrev pub judged_at : Span → Thing → Judged
judged_at place thing = record { thing = thing; place = place }

-- `error` before a `.`, or the type of this name
abbrev pub base_thing : Scope → Name → Checked Thing
base_thing Γ name =
    if bytes_eq name.text (codes "error") then Right Errors
    else made_of (λ t. TypeName t) (and_then (type_meaning Γ name) (as_type name.span))

-- the number of a size, and where it is refused
abbrev pub sized_number : Scope → ℕ → Judged → Checked ℕ
sized_number Γ most j = and_then (number_of Γ j) (size_within most j.place)

abbrev pub named_number : Scope → Name → Checked Judged
named_number Γ name = made_of (judged_at name.span) (and_then (meaning_of Γ name) (thing_of Γ name.span))

-- a type with a size is a stack, whose elements are headers; another is refused where the type stands in something
abbrev pub stack_of : Span → SourceType → ℕ → Checked SourceType
stack_of place (Header n) size = Right (Stack n size)
stack_of place t size = typing_fault place

-- a register is left out
abbrev pub kept_type : Span → SourceType → Checked SourceType
kept_type place (Opaque Register) = fault_at Checking code.Unsupported place
kept_type place t = Right t

abbrev pub named_type : Scope → Name → Checked SourceType
named_type Γ name = and_then (and_then (type_meaning Γ name) (as_type name.span)) (kept_type name.span)

-- "Operations on header stacks": a constant index that the stack has
abbrev pub element_at : Scope → ℕ → ℕ → Operand → Span → ℤ → Checked Thing
element_at Γ n size x place z =
    if int_le (pos 0) z && nat_lt (unsigned_abs z) size then Right (Value (step_from Γ (step.Element (unsigned_abs z)) (Header n) x))
    else typing_fault place

abbrev pub run_time_index : Span → Span → Operand → Checked Thing
run_time_index whole place (Fixed t v) = typing_fault place
run_time_index whole place x =
    if is_number x then fault_at Checking code.Unsupported whole else typing_fault place

-- an index that a run computes is left out
abbrev pub index_in : Scope → ℕ → ℕ → Operand → Span → Placed → Option ℤ → Checked Thing
index_in Γ n size x whole i (Some z) = element_at Γ n size x i.place z
index_in Γ n size x whole i None = run_time_index whole i.place i.operand

abbrev pub indexed_in : Scope → SourceType → Span → Placed → Placed → Checked Thing
indexed_in Γ (Stack n size) whole x i = index_in Γ n size x.operand whole i (constant_number i.operand)
indexed_in Γ t whole x i = typing_fault x.place

abbrev pub indexed : Scope → Span → Judged → Judged → Checked Thing
indexed Γ whole head index =
    with_both (λ x i. indexed_in Γ (type_of x.operand) whole x i) (value_of head) (value_of index)

-- the bits of a value, from the high one down to the low one
abbrev pub bits_of : Scope → Span → Operand → ℕ → ℕ → Operand
bits_of Γ place (Fixed t v) high low = Fixed (Bit (high - low + 1)) (slice_value v high low)
bits_of Γ place (Stored t writable path at) high low = Sliced writable path high low at
bits_of Γ place (Sliced writable path top bottom at) high low = Sliced writable path (bottom + high) (bottom + low) at
bits_of Γ place x high low = Computed (Bit (high - low + 1)) (core.Slice (core_of Γ x) high low) (varying_or place x)

-- "Operations on fixed-width bit types": x[m:l], where 0 ≤ l ≤ m < W. A bound that alone is wrong is refused at its place.
abbrev pub is_bit_place : ℕ → ℤ → Bool
is_bit_place w z = int_le (pos 0) z && nat_lt (unsigned_abs z) w

abbrev pub bit_value : Scope → Judged → Checked Placed
bit_value Γ j = and_then (value_of j)
    (λ p. provided (is_of_bits (as_bits Γ p.operand)) Checking code.Typing p.place (record { operand = as_bits Γ p.operand; place = p.place }))

abbrev pub slice_within : Scope → Placed → Judged → ℤ → Judged → ℤ → Checked Thing
slice_within Γ x high m low l =
    if not (is_bit_place (width_in (type_of x.operand)) m) then typing_fault high.place
    else (if not (is_bit_place (width_in (type_of x.operand)) l) then typing_fault low.place
    else (if int_lt m l then typing_fault x.place
    else Right (Value (bits_of Γ x.place x.operand (unsigned_abs m) (unsigned_abs l)))))

abbrev pub sliced : Scope → Judged → Judged → Judged → Checked Thing
sliced Γ head high low =
    with_three (λ x m l. slice_within Γ x high m low l) (bit_value Γ head) (number_of Γ high) (number_of Γ low)

-- a row of operators so far; it goes on with the next where it has one already
pub record Run : Type 0 where
  pub left : Placed
  pub goes_on : Bool

abbrev pub one_more : Scope → Operator → Span → Run → Placed → Checked Run
one_more Γ o place run right = made_of (λ x. record { left = record { operand = x; place = place }; goes_on = true })
    (binary Γ run.goes_on o (record { left = run.left; right = right; place = place }))

abbrev mutual
  -- what an expression with this first token stands for
  pub judged : Scope → ExpressionKind → Span → Checked Judged
  judged Γ (kind.Literal l) place = literal l place
  judged Γ (kind.Text text) place = Right (judged_at place Text)
  judged Γ (kind.Bool b) place = Right (value_at place (Fixed Boolean (bool_value b)))
  judged Γ (kind.Name name) place = made_of (judged_at place) (and_then (meaning_of Γ name) (thing_of Γ name.span))
  judged Γ (kind.Base name) place = made_of (judged_at place) (base_thing Γ name)
  judged Γ (kind.List' count row) place = made_of (λ js. judged_at place (Braced (map (λ j. told (value_of j)) js))) (all_judged Γ row)
  judged Γ (kind.Parenthesized' one (more_of-Expression k s end_of-Expression)) place = judged Γ k s
  -- a key with a mask, a range, `_` or `default` in parentheses is no value
  judged Γ (kind.ParenthesizedKey' one (more_of-SimpleKey k s end_of-SimpleKey)) place = and_then (key_parts Γ k s) (λ js. typing_fault place)
  judged Γ (kind.Postfix' one (more_of-Expression k s end_of-Expression) count parts) place = after_parts Γ place (judged Γ k s) parts
  judged Γ (kind.Unary' o one (more_of-Expression k s end_of-Expression)) place =
      made_of (value_at place) (and_then (and_then (judged Γ k s) value_of) (unary_of Γ o))
  -- "Explicit casts"
  judged Γ (kind.Cast' one (more_of-TypeForm t end_of-TypeForm) other (more_of-Expression k s end_of-Expression)) place =
      made_of (value_at place) (with_both (λ u x. cast Γ u x.place x.operand) (written_type Γ place t) (and_then (judged Γ k s) value_of))
  judged Γ (kind.Operations' one (more_of-Expression k s end_of-Expression) count row) place =
      made_of (λ run. value_at place run.left.operand)
      (after_operations Γ place (made_of (λ x. record { left = x; goes_on = false }) (and_then (judged Γ k s) value_of)) row)
  judged Γ (kind.Choice' one (more_of-Expression k s end_of-Expression) two (more_of-Expression l t end_of-Expression) three (more_of-Expression m u end_of-Expression)) place =
      made_of (value_at place) (with_three (λ c a b. choice Γ c (record { left = a; right = b; place = place }))
      (and_then (judged Γ k s) value_of) (and_then (judged Γ l t) value_of) (and_then (judged Γ m u) value_of))

  -- expressions in a row
  pub all_judged : Scope → {n : _} → Row_of-Expression n → Checked (List Judged)
  all_judged Γ end_of-Expression = Right []
  all_judged Γ (more_of-Expression k s rest) = both (λ j js. j ∷ js) (judged Γ k s) (all_judged Γ rest)

  -- operators of one level, from left to right
  pub after_operations : Scope → Span → Checked Run → {n : _} → Row_of-Operation n → Checked Run
  after_operations Γ place run end_of-Operation = run
  after_operations Γ place run (more_of-Operation o k s at rest) =
      after_operations Γ place (with_both (one_more Γ o place) run (and_then (judged Γ k s) value_of)) rest

  -- what stands behind an operand, from left to right
  pub after_parts : Scope → Span → Checked Judged → {n : _} → Row_of-PostfixPart n → Checked Judged
  after_parts Γ place head end_of-PostfixPart = head
  after_parts Γ place head (more_of-PostfixPart k s rest) = after_parts Γ place (made_of (judged_at place) (after_part Γ place head k s)) rest

  pub after_part : Scope → Span → Checked Judged → PostfixKind → Span → Checked Thing
  after_part Γ place head (postfix.Member name) s = and_then head (λ j. member_of Γ j.thing place name)
  after_part Γ place head (postfix.Lookahead t) s =
      with_both (λ j u. lookahead_of Γ j.thing u s) head (written_type Γ place t)
  after_part Γ place head (postfix.Index' k at) s = with_both (indexed Γ place) head (judged Γ k at)
  after_part Γ place head (postfix.Slice' k at l to) s = with_three (sliced Γ) head (judged Γ k at) (judged Γ l to)
  after_part Γ place head (postfix.Call' count row) s = with_both (λ j js. call Γ j.thing place js) head (all_judged Γ row)

  -- the parts of a key
  pub key_parts : Scope → SimpleKeyKind → Span → Checked (List Judged)
  key_parts Γ key.Default place = Right []
  key_parts Γ key.Any place = Right []
  key_parts Γ (key.Value' k s) place = made_of (λ j. j ∷ []) (judged Γ k s)
  key_parts Γ (key.Mask' k s l t) place = both (λ j i. j ∷ i ∷ []) (judged Γ k s) (judged Γ l t)
  -- a range is left out
  key_parts Γ (key.Range' k s l t) place =
      with_both (λ j i. fault_at Checking code.Unsupported j.place) (judged Γ k s) (judged Γ l t)

  -- the type that a form stands for, in the declaration of the name or in the expression at this place
  pub written_type : Scope → Span → TypeForm → Checked SourceType
  written_type Γ within (TypeForm' b TypeForm-size-None' place) = base_type Γ b place
  written_type Γ within (TypeForm' b (TypeForm-size-Some' one (more_of-Expression k s end_of-Expression)) place) =
      with_both (stack_of within) (base_type Γ b place) (and_then (judged (folding Γ) k s) (sized_number (folding Γ) largest_stack))

  -- "Base types"
  pub base_type : Scope → BaseType → Span → Checked SourceType
  base_type Γ (base.Bit' BaseType-Bit-0-None') place = Right (Bit 1)
  base_type Γ (base.Bit' (BaseType-Bit-0-Some' w s)) place = made_of (λ n. Bit n) (width_of Γ w s)
  base_type Γ (base.Int' BaseType-Bit-0-None') place = Right Integer
  base_type Γ (base.Int' (BaseType-Bit-0-Some' w s)) place = made_of (λ n. Signed n) (width_of Γ w s)
  base_type Γ base.Bool place = Right Boolean
  base_type Γ base.Error place = Right Error
  base_type Γ (base.Named' name BaseType-Named-1-None') place = named_type Γ name
  -- a type with an argument is `register` alone, which is left out
  base_type Γ (base.Named' name (BaseType-Named-1-Some' one (more_of-TypeForm t end_of-TypeForm))) place =
      with_both (λ u v. typing_fault name.span) (named_type Γ name) (written_type Γ name.span t)

  -- a width, which is folded
  pub width_of : Scope → WidthKind → Span → Checked ℕ
  width_of Γ (width.Literal l) place = and_then (literal l place) (sized_number (folding Γ) widest)
  width_of Γ (width.Name name) place = and_then (named_number (folding Γ) name) (sized_number (folding Γ) widest)
  width_of Γ (width.Parenthesized' one (more_of-Expression k s end_of-Expression)) place =
      and_then (judged (folding Γ) k s) (sized_number (folding Γ) widest)
