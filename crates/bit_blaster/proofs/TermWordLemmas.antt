-- Words of terms: the wires of inputs, reads and constants carry what these give, and words stay right when the circuit grows.
use Rattle.std.proofs.Common.{◌≡◌, ℕ, suc, zero, ◌+◌, ◌-◌, ◌<◌, ◌≤◌, ◌%◌, ◌/◌, append_assoc, inl, inr, Bool, true, false, List, [], ◌∷◌, ◌++◌, map, reverse, Some, length, take, slice_get, get_or, refl, sym, ap, ◌∙◌, subst, arith}
use Rattle.std.specs.Prelude.{slice_range, ◌==◌, if◌then◌else◌}
use Rattle.std.specs.List.{All, AllZip}
use Rattle.std.proofs.lemmas.List.{reverse-append, get_or_append_left, append-nil}
use Rattle.std.proofs.lemmas.List.Elements.{All-cons, All-nil}
use Rattle.std.proofs.lemmas.Option.{slice_get_within, slice_get-get_or}
use Rattle.std.proofs.Math.Nat.{mod-eq_of_lt}
use Rattle.bits_core.specs.BitList.{bits_of, number_of}
use Rattle.bits_core.specs.Number.{slice_value, extend_value}
use Rattle.bits_core.specs.Operator.{operator_value, result_width, shape_of}
use Rattle.bits_core.specs.declared.number.Bits.{Bits}
use Rattle.bits_core.specs.declared.operator.Op.{Op}
use Rattle.bits_core.specs.declared.operator.Op.TheVariants.{Not, Neg}
use Rattle.bits_core.specs.declared.operator.OpShape.TheVariants.{One as OneOperand}
use Rattle.bits_core.specs.declared.points.Point.{Point}
use Rattle.bits_core.proofs.BitListLaws.{length_bits_of, number_of_bits_of}
use Rattle.cnf_core.specs.declared.derivation.Var.{Var}
use Rattle.cnf_core.specs.declared.derivation.Var.TheVariants.{Input, Read}
use Rattle.term_dag.specs.Marks.{IsMarked, AreMarks}
use Rattle.term_dag.specs.Value.{ReadGives, Values}
use Rattle.term_dag.specs.Width.{IsDag, width_of}
use Rattle.term_dag.proofs.NodeListLemmas.{before_or_last}
use Rattle.term_dag.proofs.ValueLemmas.{value_to, width_of_value}
use Rattle.term_dag.proofs.WidthLemmas.{width_of_at}
use Rattle.term_dag.specs.declared.node.Node.{Node}
use Rattle.term_dag.specs.declared.node.Node.TheVariants.{Constant, Input as InputNode, Read as ReadNode, One, Two, Slice, Extend, Choose}
use Rattle.term_dag.specs.declared.node.Term.{Term}
use Rattle.term_dag.proofs.BitRunLemmas.{range_one_more, no_bits}
use Rattle.bit_blaster.specs.declared.wire.Wire.{Wire}
use Rattle.bit_blaster.specs.declared.wire.Wire.TheVariants.{Known}
use Rattle.bit_blaster.specs.Gate.{all_values}
use Rattle.bit_blaster.specs.Netlist.{Netlist, HasWire, StandsFor, Carries, Extends}
use Rattle.bit_blaster.specs.Word.{Computes}
use Rattle.bit_blaster.specs.TermWord.{CarriesGiven, IsWordOf, IsNodeWord, IsWordTable, HasOperandWords, ComputesOne, ComputesChoice, IsWireOfVar, AreWiresOf, input_bits, read_bits}
use Rattle.bit_blaster.specs.Vars.{HasBit, HasBits}
use Rattle.bit_blaster.proofs.FormulaLemmas.{HasMore, all_values_more}
use Rattle.bit_blaster.proofs.NetlistLemmas.{has_word_along, carries_along}

some_same : {X : Type 0} (x y : X) → Some x ≡ Some y → x ≡ y
some_same x y e = grind arith

-- ---- the values of variables

module _ {X Y : Type 0} (R : X → Y → Type 0) where
  zip_long : (xs : List X) (ys : List Y) → AllZip R xs ys → length ys ≡ length xs
  zip_long [] [] h = refl
  zip_long [] (y ∷ ys) h = absurd h
  zip_long (x ∷ xs) [] h = absurd h
  zip_long (x ∷ xs) (y ∷ ys) h = ap suc (zip_long xs ys h.1)

  zip_push : (xs : List X) (ys : List Y) (x : X) (y : Y) → AllZip R xs ys → R x y → AllZip R (xs ++ x ∷ []) (ys ++ y ∷ [])
  zip_push [] [] x y h r = (r, tt)
  zip_push [] (z ∷ ys) x y h r = absurd h
  zip_push (z ∷ xs) [] x y h r = absurd h
  zip_push (z ∷ xs) (w ∷ ys) x y h r = (h.0, zip_push xs ys x y h.1 r)

value_at : (p : Point) (vars : List Var) (values : List Bool) → AllZip (HasBit p) vars values → (place : ℕ) (v : Var) →
    slice_get vars place ≡ Some v → HasBit p v (get_or values place false)
value_at p [] values h place v at = absurd (omega (arith, slice_get_within [] place v at))
value_at p (x ∷ xs) [] h place v at = absurd h
value_at p (x ∷ xs) (b ∷ bs) h zero v at = subst (λ (w : Var). HasBit p w b) (some_same x v at) h.0
value_at p (x ∷ xs) (b ∷ bs) h (suc place) v at = value_at p xs bs h.1 place v at

one_bit : (p : Point) (v : Var) (b c : Bool) → HasBit p v b → HasBit p v c → b ≡ c
one_bit p (Input n) b c h k = some_same b c (sym h ∙ k)
one_bit p (Read r n) b c (x, there, is) (y, here, also) =
    let same : x ≡ y = some_same x y (sym there ∙ here) in
    some_same b c (sym is ∙ ap (λ (z : Bits). slice_get (bits_of z.width z.value) n) same ∙ also)

module _ (net : Netlist) (vars : List Var) (count : net.inputs ≡ length vars) where
  inputs_long : (p : Point) (inputs : List Bool) → HasBits p vars inputs → length inputs ≡ net.inputs
  inputs_long p inputs h = zip_long (HasBit p) vars inputs h.each ∙ sym count

  has_variable : (w : Wire) (v : Var) → IsWireOfVar vars w v → HasWire net w
  has_variable w v i =
      let inside : i.place < length vars = slice_get_within vars i.place v i.at in
      subst (HasWire net) (sym i.is) (omega arith, omega (arith, inside, count))

  -- the wire of a bit carries what the point has there
  wire_stands : (p : Point) (inputs : List Bool) (w : Wire) (v : Var) (b : Bool) → IsWireOfVar vars w v → HasBits p vars inputs →
      HasBit p v b → StandsFor net inputs w b
  wire_stands p inputs w v b i h k =
      subst (λ (x : Wire). StandsFor net inputs x b) (sym i.is) record {
        has = subst (HasWire net) i.is (has_variable w v i);
        long = inputs_long p inputs h;
        is = read (all_values_more inputs net.gates);
      } where
        inside : i.place < length inputs
        inside = omega (arith, slice_get_within vars i.place v i.at, zip_long (HasBit p) vars inputs h.each)

        back : suc i.place - 1 ≡ i.place
        back = omega arith

        read : HasMore inputs (all_values inputs net.gates) → get_or (all_values inputs net.gates) (suc i.place - 1) false ≡ b
        read m =
            ap (λ (k : ℕ). get_or (all_values inputs net.gates) k false) back
            ∙ ap (λ (l : List Bool). get_or l i.place false) m.is
            ∙ get_or_append_left inputs m.more false i.place inside
            ∙ one_bit p v (get_or inputs i.place false) b (value_at p vars inputs h.each i.place v i.at) k

  wires_carry : (p : Point) (inputs : List Bool) (word : List Wire) (bits : List Var) (truths : List Bool) → HasBits p vars inputs →
      AllZip (IsWireOfVar vars) word bits → AllZip (HasBit p) bits truths → AllZip (StandsFor net inputs) word truths
  wires_carry p inputs [] [] [] h i k = tt
  wires_carry p inputs [] [] (b ∷ bs) h i k = absurd k
  wires_carry p inputs [] (v ∷ vs) bs h i k = absurd i
  wires_carry p inputs (w ∷ ws) [] bs h i k = absurd i
  wires_carry p inputs (w ∷ ws) (v ∷ vs) [] h i k = absurd k
  wires_carry p inputs (w ∷ ws) (v ∷ vs) (b ∷ bs) h i k =
      (wire_stands p inputs w v b i.0 h k.0, wires_carry p inputs ws vs bs h i.1 k.1)

  has_wires : (word : List Wire) (bits : List Var) → AllZip (IsWireOfVar vars) word bits → All (HasWire net) word
  has_wires [] bits i = All-nil (HasWire net)
  has_wires (w ∷ ws) [] i = absurd i
  has_wires (w ∷ ws) (v ∷ vs) i = All-cons (HasWire net) w ws (has_variable w v i.0) (has_wires ws vs i.1)

-- ---- inputs and reads

pub length_input_bits : (first w : ℕ) → length (input_bits first w) ≡ w
length_input_bits first zero = refl
length_input_bits first (suc w) = ap suc (length_input_bits first w)

pub length_read_bits : (read from w : ℕ) → length (read_bits read from w) ≡ w
length_read_bits read from zero = refl
length_read_bits read from (suc w) = ap suc (length_read_bits read (suc from) w)

input_values : (p : Point) (first w : ℕ) → first + w ≤ length p.inputs →
    AllZip (HasBit p) (input_bits first w) (reverse (slice_range p.inputs first (first + w)))
input_values p first zero there =
    let none : slice_range p.inputs first (first + zero) ≡ [] =
    ap (slice_range p.inputs first) (omega arith) ∙ no_bits p.inputs first in
    subst (λ (l : List Bool). AllZip (HasBit p) [] (reverse l)) (sym none) tt
input_values p first (suc w) there = one_more (input_values p first w (omega arith)) where
  x : Bool
  x = get_or p.inputs (first + w) false

  at : slice_get p.inputs (first + w) ≡ Some x
  at = slice_get-get_or p.inputs (first + w) false (omega arith)

  next : first + suc w ≡ first + w + 1
  next = omega arith

  whole : reverse (slice_range p.inputs first (first + suc w)) ≡ x ∷ reverse (slice_range p.inputs first (first + w))
  whole =
      ap (λ (n : ℕ). reverse (slice_range p.inputs first n)) next
      ∙ ap reverse (range_one_more p.inputs first (first + w) x (omega arith) at)
      ∙ reverse-append (slice_range p.inputs first (first + w)) (x ∷ [])

  one_more : AllZip (HasBit p) (input_bits first w) (reverse (slice_range p.inputs first (first + w))) →
      AllZip (HasBit p) (input_bits first (suc w)) (reverse (slice_range p.inputs first (first + suc w)))
  one_more rest = subst (AllZip (HasBit p) (input_bits first (suc w))) (sym whole) (at, rest)

read_values : (p : Point) (read from : ℕ) (l : List Bool) →
    ((i : ℕ) → i < length l → HasBit p (Read read (from + i)) (get_or l i false)) → AllZip (HasBit p) (read_bits read from (length l)) l
read_values p read from [] h = tt
read_values p read from (b ∷ l) h = (first, read_values p read (suc from) l later) where
  first : HasBit p (Read read from) b
  first = subst (λ (n : ℕ). HasBit p (Read read n) b) (omega arith) (h 0 (omega arith))

  later : (i : ℕ) → i < length l → HasBit p (Read read (suc from + i)) (get_or l i false)
  later i inside = subst (λ (n : ℕ). HasBit p (Read read n) (get_or l i false)) (omega arith) (h (suc i) (omega arith))

read_given : (p : Point) (read w : ℕ) (b : Bits) → ReadGives p read w b → AllZip (HasBit p) (read_bits read 0 w) (bits_of b.width b.value)
read_given p read w b g =
    subst (λ (n : ℕ). AllZip (HasBit p) (read_bits read 0 n) (bits_of b.width b.value)) (length_bits_of b.width b.value ∙ g.width)
    (read_values p read 0 (bits_of b.width b.value) bit) where
      bit : (i : ℕ) → i < length (bits_of b.width b.value) → HasBit p (Read read (0 + i)) (get_or (bits_of b.width b.value) i false)
      bit i inside =
          let zero_more : i ≡ 0 + i = omega arith in
          subst (λ (n : ℕ). HasBit p (Read read n) (get_or (bits_of b.width b.value) i false)) zero_more
          (b, g.there, slice_get-get_or (bits_of b.width b.value) i false inside)

number_is : (b : Bits) → number_of (bits_of b.width b.value) ≡ b.value
number_is b = number_of_bits_of b.width b.value ∙ mod-eq_of_lt b.fits

module _ (nodes : List Node) (net : Netlist) (vars : List Var) (count : net.inputs ≡ length vars) (word : List Wire) where
  pub input_word_right : (first w : ℕ) → AreWiresOf vars word (input_bits first w) → IsNodeWord nodes vars net (InputNode first w) word
  input_word_right first w i = record {
    has = record { each = has_wires net vars count word (input_bits first w) i.each };
    long = sym (zip_long (IsWireOfVar vars) word (input_bits first w) i.each) ∙ length_input_bits first w;
    value = λ inputs p b h g. record {
      bits = reverse (slice_range p.inputs first (first + w));
      carries = record {
        long = inputs_long net vars count p inputs h;
        each =
            wires_carry net vars count p inputs word (input_bits first w) (reverse (slice_range p.inputs first (first + w))) h i.each
            (input_values p first w g.there);
      };
      is = sym g.value;
    };
  }

  pub read_word_right : (read w : ℕ) → AreWiresOf vars word (read_bits read 0 w) → IsNodeWord nodes vars net (ReadNode read w) word
  read_word_right read w i = record {
    has = record { each = has_wires net vars count word (read_bits read 0 w) i.each };
    long = sym (zip_long (IsWireOfVar vars) word (read_bits read 0 w) i.each) ∙ length_read_bits read 0 w;
    value = λ inputs p b h g. record {
      bits = bits_of b.width b.value;
      carries = record {
        long = inputs_long net vars count p inputs h;
        each = wires_carry net vars count p inputs word (read_bits read 0 w) (bits_of b.width b.value) h i.each (read_given p read w b g);
      };
      is = number_is b;
    };
  }

-- ---- constants

known_carry : (net : Netlist) (inputs l : List Bool) → length inputs ≡ net.inputs → AllZip (StandsFor net inputs) (map Known l) l
known_carry net inputs [] long = tt
known_carry net inputs (b ∷ l) long = (record { has = tt; long = long; is = refl }, known_carry net inputs l long)

has_known : (net : Netlist) (l : List Bool) → All (HasWire net) (map Known l)
has_known net [] = All-nil (HasWire net)
has_known net (b ∷ l) = All-cons (HasWire net) (Known b) (map Known l) tt (has_known net l)

length_known : (l : List Bool) → length (map Known l) ≡ length l
length_known [] = refl
length_known (b ∷ l) = ap suc (length_known l)

pub constant_word_right : (nodes : List Node) (net : Netlist) (vars : List Var) → net.inputs ≡ length vars → (c : Bits) (word : List Wire) →
    word ≡ map Known (bits_of c.width c.value) → IsNodeWord nodes vars net (Constant c) word
constant_word_right nodes net vars count c word is = record {
  has = record { each = subst (All (HasWire net)) (sym is) (has_known net (bits_of c.width c.value)) };
  long = ap length is ∙ length_known (bits_of c.width c.value) ∙ length_bits_of c.width c.value;
  value = λ inputs p b h g. record {
    bits = bits_of c.width c.value;
    carries = record {
      long = inputs_long net vars count p inputs h;
      each =
          subst (λ (w : List Wire). AllZip (StandsFor net inputs) w (bits_of c.width c.value)) (sym is)
          (known_carry net inputs (bits_of c.width c.value) (inputs_long net vars count p inputs h));
    };
    is = number_is c ∙ ap (λ (x : Bits). x.value) (sym g);
  };
}

-- ---- the loops that make words

pub wires_of_none : (vars : List Var) → AreWiresOf vars [] []
wires_of_none vars = record { each = tt }

wires_of_push : (vars : List Var) (word : List Wire) (bits : List Var) (w : Wire) (v : Var) → AreWiresOf vars word bits →
    IsWireOfVar vars w v → AreWiresOf vars (word ++ w ∷ []) (bits ++ v ∷ [])
wires_of_push vars word bits w v are is = record { each = zip_push (IsWireOfVar vars) word bits w v are.each is }

take_suc_more : {X : Type 0} (k : ℕ) (xs : List X) (x : X) → slice_get xs k ≡ Some x → take (suc k) xs ≡ take k xs ++ x ∷ []
take_suc_more k [] x at = absurd (omega (arith, slice_get_within [] k x at))
take_suc_more zero (y ∷ ys) x at = ap (λ z. z ∷ []) (some_same y x at)
take_suc_more (suc k) (y ∷ ys) x at = ap (λ l. y ∷ l) (take_suc_more k ys x at)

take_one_more : {X : Type 0} (k : ℕ) (xs : List X) (x : X) → slice_get xs k ≡ Some x → take (k + 1) xs ≡ take k xs ++ x ∷ []
take_one_more k xs x at = ap (λ (n : ℕ). take n xs) one ∙ take_suc_more k xs x at where
  one : k + 1 ≡ suc k
  one = omega arith

input_bit_at : (first w k : ℕ) → k < w → slice_get (input_bits first w) k ≡ Some (Input (first + (w - 1 - k)))
input_bit_at first zero k inside = absurd (omega arith)
input_bit_at first (suc w) zero inside = ap (λ (n : ℕ). Some (Input n)) (omega arith)
input_bit_at first (suc w) (suc k) inside =
    input_bit_at first w k (omega arith) ∙ ap (λ (n : ℕ). Some (Input n)) same where
      same : first + (w - 1 - k) ≡ first + (suc w - 1 - suc k)
      same = omega arith

read_bit_at : (read from w k : ℕ) → k < w → slice_get (read_bits read from w) k ≡ Some (Read read (from + k))
read_bit_at read from zero k inside = absurd (omega arith)
read_bit_at read from (suc w) zero inside = ap (λ (n : ℕ). Some (Read read n)) (omega arith)
read_bit_at read from (suc w) (suc k) inside =
    read_bit_at read (suc from) w k (omega arith) ∙ ap (λ (n : ℕ). Some (Read read n)) (omega arith)

module _ (vars : List Var) (word new : List Wire) (w : Wire) (is : new ≡ word ++ w ∷ []) where
  pub next_input_wire : (first width k bit : ℕ) → k < width → bit ≡ first + (width - 1 - k) → IsWireOfVar vars w (Input bit) →
      AreWiresOf vars word (take k (input_bits first width)) → AreWiresOf vars new (take (k + 1) (input_bits first width))
  next_input_wire first width k bit inside at one are =
      subst (λ (l : List Wire). AreWiresOf vars l (take (k + 1) (input_bits first width))) (sym is)
      (subst (AreWiresOf vars (word ++ w ∷ [])) (sym (take_one_more k (input_bits first width) (Input bit)
      (input_bit_at first width k inside ∙ ap (λ (n : ℕ). Some (Input n)) (sym at))))
      (wires_of_push vars word (take k (input_bits first width)) w (Input bit) are one))

  pub next_read_wire : (read width k : ℕ) → k < width → IsWireOfVar vars w (Read read k) →
      AreWiresOf vars word (take k (read_bits read 0 width)) → AreWiresOf vars new (take (k + 1) (read_bits read 0 width))
  next_read_wire read width k inside one are =
      subst (λ (l : List Wire). AreWiresOf vars l (take (k + 1) (read_bits read 0 width))) (sym is)
      (subst (AreWiresOf vars (word ++ w ∷ [])) (sym (take_one_more k (read_bits read 0 width) (Read read k)
      (read_bit_at read 0 width k inside ∙ ap (λ (n : ℕ). Some (Read read n)) zero_more)))
      (wires_of_push vars word (take k (read_bits read 0 width)) w (Read read k) are one)) where
        zero_more : 0 + k ≡ k
        zero_more = omega arith

-- ---- words of nodes whose operands have words

module _ (nodes : List Node) (dag : IsDag nodes) (vars : List Var) (old new : Netlist) where
  second_ignored : (op : Op) (w x v y : ℕ) → shape_of op ≡ OneOperand → operator_value op w x v y ≡ operator_value op w x 0 0
  second_ignored Not w x v y e = refl
  second_ignored Neg w x v y e = refl
  second_ignored op w x v y e = grind arith

  -- the operand's number, and that it has as many bits as its word
  same_width : (a : Term) (word : List Wire) (p : Point) (x : Bits) → IsWordOf nodes vars old a word → Values nodes p a x → length word ≡ x.width
  same_width a word p x is v = is.long ∙ sym (width_of_value nodes dag p a x v)

  pub one_word_right : (op : Op) (a : Term) (x r : List Wire) → shape_of op ≡ OneOperand → IsWordOf nodes vars old a x →
      Computes op old new x x r → IsNodeWord nodes vars new (One op a) r
  one_word_right op a x r one is computes = record {
    has = computes.has;
    long = computes.width ∙ ap (λ s. result_width s (length x) (length x)) one ∙ is.long;
    value = λ inputs p b h g.
        subst (Carries new inputs r)
        (second_ignored op (length x) g.x.value (length x) g.x.value one
        ∙ ap (λ (w : ℕ). operator_value op w g.x.value 0 0) (same_width a x p g.x is g.operand) ∙ sym g.value)
        (computes.value inputs g.x.value g.x.value (is.value inputs p g.x h g.operand) (is.value inputs p g.x h g.operand));
  }

  pub two_word_right : (op : Op) (a c : Term) (x y r : List Wire) → IsWordOf nodes vars old a x → IsWordOf nodes vars old c y →
      Computes op old new x y r → IsNodeWord nodes vars new (Two op a c) r
  two_word_right op a c x y r is_x is_y computes = record {
    has = computes.has;
    long =
        computes.width ∙ ap (λ (w : ℕ). result_width (shape_of op) w (length y)) is_x.long
        ∙ ap (λ (w : ℕ). result_width (shape_of op) (width_of nodes a) w) is_y.long;
    value = λ inputs p b h g.
        subst (Carries new inputs r)
        (ap (λ (w : ℕ). operator_value op w g.x.value (length y) g.y.value) (same_width a x p g.x is_x g.first)
        ∙ ap (λ (w : ℕ). operator_value op g.x.width g.x.value w g.y.value) (same_width c y p g.y is_y g.second) ∙ sym g.value)
        (computes.value inputs g.x.value g.y.value (is_x.value inputs p g.x h g.first) (is_y.value inputs p g.y h g.second));
  }

  pub slice_word_right : (a : Term) (high low : ℕ) (x r : List Wire) → IsWordOf nodes vars old a x →
      ComputesOne (high - low + 1) (λ n. slice_value n high low) old new x r → IsNodeWord nodes vars new (Slice a high low) r
  slice_word_right a high low x r is computes = record {
    has = computes.has;
    long = computes.long;
    value = λ inputs p b h g.
        subst (Carries new inputs r) (sym g.value) (computes.value inputs g.x.value (is.value inputs p g.x h g.operand));
  }

  pub extend_word_right : (a : Term) (w : ℕ) (signed : Bool) (x r : List Wire) → IsWordOf nodes vars old a x →
      ComputesOne w (λ n. extend_value signed (length x) n w) old new x r → IsNodeWord nodes vars new (Extend a w signed) r
  extend_word_right a w signed x r is computes = record {
    has = computes.has;
    long = computes.long;
    value = λ inputs p b h g.
        subst (Carries new inputs r)
        (ap (λ (v : ℕ). extend_value signed v g.x.value w) (same_width a x p g.x is g.operand) ∙ sym g.value)
        (computes.value inputs g.x.value (is.value inputs p g.x h g.operand));
  }

  pub choose_word_right : (c a d : Term) (test x y r : List Wire) → width_of nodes a ≡ width_of nodes d → IsWordOf nodes vars old c test →
      IsWordOf nodes vars old a x → IsWordOf nodes vars old d y → ComputesChoice old new test x y r →
      IsNodeWord nodes vars new (Choose c a d) r
  choose_word_right c a d test x y r same is_test is_x is_y computes = record {
    has = computes.has;
    long = computes.long ∙ is_x.long;
    value = λ inputs p b h g.
        subst (Carries new inputs r) (chosen (g.test.value == 1) g.x g.y ∙ ap (λ (z : Bits). z.value) (sym g.value))
        (computes.value inputs g.test.value g.x.value g.y.value (is_test.value inputs p g.test h g.condition)
        (is_x.value inputs p g.x h g.first) (is_y.value inputs p g.y h g.second));
  } where
    chosen : (b : Bool) (m n : Bits) → (if b then m.value else n.value) ≡ (if b then m else n).value
    chosen true m n = refl
    chosen false m n = refl

-- ---- the table of words

pub given_along : (vars : List Var) (old new : Netlist) (w : ℕ) (Gives : Point → Bits → Type 0) (word : List Wire) → Extends old new →
    CarriesGiven vars old w Gives word → CarriesGiven vars new w Gives word
given_along vars old new w Gives word extends is = record {
  has = has_word_along old new word extends is.has;
  long = is.long;
  value = λ inputs p b h g. carries_along old new inputs word b.value extends (is.value inputs p b h g);
}

module _ (nodes : List Node) (dag : IsDag nodes) (vars : List Var) where
  pub word_of_node : (net : Netlist) (t : Term) (node : Node) (word : List Wire) → slice_get nodes t.number ≡ Some node →
      IsNodeWord nodes vars net node word → IsWordOf nodes vars net t word
  word_of_node net t node word at is = record {
    has = is.has;
    long = is.long ∙ sym (width_of_at nodes dag t node at);
    value = λ inputs p b h v. is.value inputs p b h (value_to nodes dag p t node b at v);
  }

  pub no_words : (net : Netlist) (marks : List Bool) → IsWordTable nodes vars net marks []
  no_words net marks = record { each = λ u word m at. absurd (omega (arith, slice_get_within [] u.number word at)) }

  pub one_more_word : (old new : Netlist) (marks : List Bool) (table : List (List Wire)) (word : List Wire) (number : ℕ) →
      Extends old new → IsWordTable nodes vars old marks table → length table ≡ number →
      (slice_get marks number ≡ Some true → IsWordOf nodes vars new record { number = number } word) →
      IsWordTable nodes vars new marks (table ++ word ∷ [])
  one_more_word old new marks table word number extends are long here = record { each = each } where
    last : (u : Term) (w : List Wire) → IsMarked marks u → u.number ≡ length table → Some word ≡ Some w → IsWordOf nodes vars new u w
    last u w m is e =
        let same : u ≡ record { number = number } = λ i. record { number = (is ∙ long) i } in
        subst (IsWordOf nodes vars new u) (some_same word w e)
        (subst (λ (t : Term). IsWordOf nodes vars new t word) (sym same) (here (ap (slice_get marks) (sym (is ∙ long)) ∙ m)))

    each : (u : Term) (w : List Wire) → IsMarked marks u → slice_get (table ++ word ∷ []) u.number ≡ Some w → IsWordOf nodes vars new u w
    each u w m at = elim (before_or_last table word w u.number at) [
      | inl before ↦ given_along vars old new (width_of nodes u) (λ p. Values nodes p u) w extends (are.each u w m before)
      | inr here ↦ last u w m here.0 here.1
    ]

  pub operand_words : (net : Netlist) (marks : List Bool) (table : List (List Wire)) (u : Term) (node : Node) (t : Term) →
      AreMarks nodes t marks → IsMarked marks u → slice_get nodes u.number ≡ Some node → IsWordTable nodes vars net marks table →
      HasOperandWords nodes vars net node table
  operand_words net marks table u node t marked m at are =
      record { each = λ a word is found. are.each a word (marked.operands u a node m at is) found }

-- ---- a constant's bits, from the lowest on

pub bits_start : (w x : ℕ) → [] ++ map Known (bits_of w x) ≡ map Known (bits_of w x)
bits_start w x = refl

unrolled : (n y : ℕ) → bits_of (suc n) y ≡ (y % 2 == 1) ∷ bits_of n (y / 2)
unfolding bits_of
unrolled n y = refl

no_bits_left : (n : ℕ) → n ≡ 0 → (y : ℕ) → bits_of n y ≡ []
unfolding bits_of
no_bits_left zero e y = refl
no_bits_left (suc n) e y = absurd (omega arith)

pub next_known : (w i x rest : ℕ) (word new : List Wire) → i < w → word ++ map Known (bits_of (w - i) rest) ≡ map Known (bits_of w x) →
    new ≡ word ++ Known (rest % 2 == 1) ∷ [] → new ++ map Known (bits_of (w - (i + 1)) (rest / 2)) ≡ map Known (bits_of w x)
next_known w i x rest word new inside before is =
    ap (λ (l : List Wire). l ++ map Known (bits_of (w - (i + 1)) (rest / 2))) is
    ∙ append_assoc word (Known (rest % 2 == 1) ∷ []) (map Known (bits_of (w - (i + 1)) (rest / 2)))
    ∙ ap (λ (l : List Bool). word ++ map Known l) (sym (unrolled (w - (i + 1)) rest))
    ∙ ap (λ (n : ℕ). word ++ map Known (bits_of n rest)) same
    ∙ before where
      same : suc (w - (i + 1)) ≡ w - i
      same = omega arith

pub known_done : (w i x rest : ℕ) (word : List Wire) → w ≤ i → word ++ map Known (bits_of (w - i) rest) ≡ map Known (bits_of w x) →
    word ≡ map Known (bits_of w x)
known_done w i x rest word all before =
    sym (append-nil word) ∙ ap (λ (l : List Bool). word ++ map Known l) (sym (no_bits_left (w - i) (omega arith) rest)) ∙ before

pub wires_done : (vars : List Var) (word : List Wire) (bits : List Var) (i : ℕ) → length bits ≤ i → AreWiresOf vars word (take i bits) →
    AreWiresOf vars word bits
wires_done vars word bits i all are = subst (AreWiresOf vars word) (take_whole bits i all) are where
  take_whole : (bits : List Var) (i : ℕ) → length bits ≤ i → take i bits ≡ bits
  take_whole [] zero all = refl
  take_whole [] (suc i) all = refl
  take_whole (x ∷ xs) zero all = absurd (omega arith)
  take_whole (x ∷ xs) (suc i) all = ap (λ l. x ∷ l) (take_whole xs i (omega arith))
