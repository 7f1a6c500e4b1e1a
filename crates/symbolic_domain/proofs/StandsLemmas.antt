-- The term of a node stands for what the operator gives on what its operands stand for.
use Rattle.std.proofs.Common.{◌≡◌, ℕ, ◌+◌, ◌-◌, ◌<◌, ◌≤◌, ◌^◌, Bool, true, false, not, ◌&&◌, ◌||◌, List, Some, slice_get, refl, sym, ap, subst, ◌∙◌, arith}
use Rattle.std.specs.Prelude.{if◌then◌else◌, ◌==◌}
use Rattle.std.proofs.lemmas.Nat.{pow_pos, mod_below}
use mir.Val.{bool_byte}
use Rattle.bits_core.proofs.RowLaws.{operator_value_below, operator_value_test}
use Rattle.bits_core.proofs.WidthLaws.{wrapped_below}
use Rattle.bits_core.specs.BitList.{bit_value}
use Rattle.bits_core.specs.Number.{slice_value, extend_value}
use Rattle.bits_core.specs.Operator.{shape_of, WidthsFit, result_width, operator_value, test_value}
use Rattle.bits_core.specs.declared.number.Bits.{Bits}
use Rattle.bits_core.specs.declared.operator.Op.{Op}
use Rattle.bits_core.specs.declared.operator.Op.TheVariants.{And, Or, Not}
use Rattle.bits_core.specs.declared.operator.OpShape.TheVariants.{One as OneOperand, Test}
use Rattle.bits_core.specs.declared.points.Point.{Point}
use Rattle.term_dag.specs.declared.node.Node.{Node}
use Rattle.term_dag.specs.declared.node.Node.TheVariants.{Constant, Read, One, Two, Slice, Extend, Choose}
use Rattle.term_dag.specs.declared.node.Term.{Term}
use Rattle.term_dag.specs.Value.{NodeGives, Values}
use Rattle.term_dag.specs.Width.{width_of, IsDag}
use Rattle.term_dag.proofs.ValueLemmas.{width_of_value}
use Rattle.symbolic_domain.specs.Meaning.{StandsFor}
use Rattle.term_dag.proofs.BoundLemmas.{IsWidth, result_is_width, slice_is_width}

pub stands_same : (nodes : List Node) (t : Term) (p : Point) (x y : ℕ) → x ≡ y → StandsFor nodes t p x → StandsFor nodes t p y
stands_same nodes t p x y e s = record { b = s.b; value = s.value; is = s.is ∙ e }

pub cast_is_bit : (f : Bool) → bool_byte f ≡ bit_value f
cast_is_bit true = refl
cast_is_bit false = refl

abbrev of_bits : (b : Bits) → IsWidth b.width
of_bits b = record { some_bit = b.some_bit; at_most_widest = b.at_most_widest }

abbrev number : (w x : ℕ) → IsWidth w → x < 2 ^ w → Bits
number w x h fits = record { width = w; value = x; some_bit = h.some_bit; at_most_widest = h.at_most_widest; fits = fits }

module _ (old new : List Node) (t : Term) (p : Point) where
  pub constant_stands : (c : Bits) → ((p : Point) (b : Bits) → NodeGives (Values old p) p (Constant c) b → Values new p t b)
      → StandsFor new t p c.value
  constant_stands c made = record { b = c; value = made p c refl; is = refl }

  pub read_stands : (read width : ℕ) → ((p : Point) (b : Bits) → NodeGives (Values old p) p (Read read width) b → Values new p t b)
      → (b : Bits) → slice_get p.reads read ≡ Some b → b.width ≡ width → StandsFor new t p b.value
  read_stands read width made b at is = record { b = b; value = made p b record { there = at; width = is }; is = refl }

module _ (old new : List Node) (dag : IsDag old) (t : Term) (p : Point) where
  width_is : (a : Term) (x : ℕ) → (s : StandsFor old a p x) → s.b.width ≡ width_of old a
  width_is a x s = width_of_value old dag p a s.b s.value

  pub two_stands : (op : Op) (a d : Term) → WidthsFit (shape_of op) (width_of old a) (width_of old d)
      → ((p : Point) (b : Bits) → NodeGives (Values old p) p (Two op a d) b → Values new p t b)
      → (x y : ℕ) → StandsFor old a p x → StandsFor old d p y
      → StandsFor new t p (operator_value op (width_of old a) x (width_of old d) y)
  two_stands op a d fit made x y s r =
      let e : s.b.width ≡ width_of old a = width_is a x s in
      let f : r.b.width ≡ width_of old d = width_is d y r in
      let fits : WidthsFit (shape_of op) s.b.width r.b.width =
      subst (λ (w : ℕ). WidthsFit (shape_of op) w r.b.width) (sym e)
      (subst (λ (v : ℕ). WidthsFit (shape_of op) (width_of old a) v) (sym f) fit) in
      let z : Bits = number (result_width (shape_of op) s.b.width r.b.width)
      (operator_value op s.b.width s.b.value r.b.width r.b.value)
      (result_is_width (shape_of op) s.b.width r.b.width fits (of_bits s.b) (of_bits r.b))
      (operator_value_below op s.b.width s.b.value r.b.width r.b.value fits s.b.fits r.b.fits) in
      record {
        b = z;
        value = made p z record { x = s.b; y = r.b; first = s.value; second = r.value; width = refl; value = refl };
        is = λ i. operator_value op (e i) (s.is i) (f i) (r.is i);
      }

  pub one_stands : (op : Op) (a : Term) → shape_of op ≡ OneOperand
      → ((p : Point) (b : Bits) → NodeGives (Values old p) p (One op a) b → Values new p t b)
      → (x : ℕ) → StandsFor old a p x → StandsFor new t p (operator_value op (width_of old a) x 0 0)
  one_stands op a one made x s =
      let e : s.b.width ≡ width_of old a = width_is a x s in
      let fits : WidthsFit (shape_of op) s.b.width 0 = subst (λ h. WidthsFit h s.b.width 0) (sym one) tt in
      let same : result_width (shape_of op) s.b.width 0 ≡ s.b.width = ap (λ h. result_width h s.b.width 0) one in
      let z : Bits = number s.b.width (operator_value op s.b.width s.b.value 0 0) (of_bits s.b)
      (subst (λ (w : ℕ). operator_value op s.b.width s.b.value 0 0 < 2 ^ w) same
      (operator_value_below op s.b.width s.b.value 0 0 fits s.b.fits (omega arith))) in
      record {
        b = z;
        value = made p z record { x = s.b; operand = s.value; width = refl; value = refl };
        is = λ i. operator_value op (e i) (s.is i) 0 0;
      }

  pub slice_stands : (a : Term) (high low : ℕ) → low ≤ high → high < width_of old a
      → ((p : Point) (b : Bits) → NodeGives (Values old p) p (Slice a high low) b → Values new p t b)
      → (x : ℕ) → StandsFor old a p x → StandsFor new t p (slice_value x high low)
  slice_stands a high low ordered within made x s =
      let l : high < s.b.width = subst (λ (w : ℕ). high < w) (sym (width_is a x s)) within in
      let z : Bits = number (high - low + 1) (slice_value s.b.value high low) (slice_is_width s.b.width high low ordered l (of_bits s.b))
      (mod_below _ _ (pow_pos (high - low + 1))) in
      record {
        b = z;
        value = made p z record { x = s.b; operand = s.value; width = refl; value = refl };
        is = ap (λ n. slice_value n high low) s.is;
      }

  pub extend_stands : (a : Term) (w : ℕ) (signed : Bool) → 1 ≤ w → w ≤ 128
      → ((p : Point) (b : Bits) → NodeGives (Values old p) p (Extend a w signed) b → Values new p t b)
      → (x : ℕ) → StandsFor old a p x → StandsFor new t p (extend_value signed (width_of old a) x w)
  extend_stands a w signed some most made x s =
      let e : s.b.width ≡ width_of old a = width_is a x s in
      let z : Bits = number w (extend_value signed s.b.width s.b.value w) record { some_bit = some; at_most_widest = most }
      (wrapped_below w _) in
      record {
        b = z;
        value = made p z record { x = s.b; operand = s.value; width = refl; value = refl };
        is = λ i. extend_value signed (e i) (s.is i) w;
      }

  pub choose_stands : (c a d : Term)
      → ((p : Point) (b : Bits) → NodeGives (Values old p) p (Choose c a d) b → Values new p t b)
      → (truth : Bool) (x y : ℕ) → StandsFor old c p (bit_value truth) → StandsFor old a p x → StandsFor old d p y
      → StandsFor new t p (if truth then x else y)
  choose_stands c a d made truth x y q s r =
      record {
        b = if q.b.value == 1 then s.b else r.b;
        value = made p _ record { test = q.b; x = s.b; y = r.b; condition = q.value; first = s.value; second = r.value; value = refl };
        is = by truth q.b.value q.is;
      }
    where
      by : (truth : Bool) (v : ℕ) → v ≡ bit_value truth → (if v == 1 then s.b else r.b).value ≡ (if truth then x else y)
      by true v e = ap (λ (n : ℕ). (if n == 1 then s.b else r.b).value) e ∙ s.is
      by false v e = ap (λ (n : ℕ). (if n == 1 then s.b else r.b).value) e ∙ r.is

  pub test_stands : (op : Op) (a d : Term) → shape_of op ≡ Test → width_of old a ≡ width_of old d
      → ((p : Point) (b : Bits) → NodeGives (Values old p) p (Two op a d) b → Values new p t b)
      → (x y : ℕ) → StandsFor old a p x → StandsFor old d p y
      → StandsFor new t p (bit_value (test_value op (width_of old a) x y))
  test_stands op a d test fit made x y s r =
      stands_same new t p _ _ (operator_value_test op (width_of old a) x (width_of old d) y test)
      (two_stands op a d (subst (λ h. WidthsFit h (width_of old a) (width_of old d)) (sym test) fit) made x y s r)

  pub both_stand : (f g : Term) → width_of old f ≡ 1 → width_of old g ≡ 1
      → ((p : Point) (b : Bits) → NodeGives (Values old p) p (Two And f g) b → Values new p t b)
      → (h k : Bool) → StandsFor old f p (bit_value h) → StandsFor old g p (bit_value k) → StandsFor new t p (bit_value (h && k))
  both_stand f g one also made h k s r =
      stands_same new t p _ _ (and_of_bits h k) (two_stands And f g (one ∙ sym also) made (bit_value h) (bit_value k) s r)
    where
      and_of_bits : (h k : Bool) → operator_value And (width_of old f) (bit_value h) (width_of old g) (bit_value k) ≡ bit_value (h && k)
      and_of_bits true true = refl
      and_of_bits true false = refl
      and_of_bits false true = refl
      and_of_bits false false = refl

  pub either_stands : (f g : Term) → width_of old f ≡ 1 → width_of old g ≡ 1
      → ((p : Point) (b : Bits) → NodeGives (Values old p) p (Two Or f g) b → Values new p t b)
      → (h k : Bool) → StandsFor old f p (bit_value h) → StandsFor old g p (bit_value k) → StandsFor new t p (bit_value (h || k))
  either_stands f g one also made h k s r =
      stands_same new t p _ _ (or_of_bits h k) (two_stands Or f g (one ∙ sym also) made (bit_value h) (bit_value k) s r)
    where
      or_of_bits : (h k : Bool) → operator_value Or (width_of old f) (bit_value h) (width_of old g) (bit_value k) ≡ bit_value (h || k)
      or_of_bits true true = refl
      or_of_bits true false = refl
      or_of_bits false true = refl
      or_of_bits false false = refl

  pub not_stands : (f : Term) → width_of old f ≡ 1
      → ((p : Point) (b : Bits) → NodeGives (Values old p) p (One Not f) b → Values new p t b)
      → (h : Bool) → StandsFor old f p (bit_value h) → StandsFor new t p (bit_value (not h))
  not_stands f one made h s =
      stands_same new t p _ _ (ap (λ w. operator_value Not w (bit_value h) 0 0) one ∙ not_of_bit h)
      (one_stands Not f refl made (bit_value h) s)
    where
      not_of_bit : (h : Bool) → operator_value Not 1 (bit_value h) 0 0 ≡ bit_value (not h)
      not_of_bit true = refl
      not_of_bit false = refl
