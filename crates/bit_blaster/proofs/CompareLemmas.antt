-- Equality, and the order of signed numbers.
use Rattle.std.proofs.Common.{◌≡◌, ℕ, ◌-◌, Bool, true, false, List, [], ◌∷◌, ◌++◌, length, take, get_or, refl, sym, ap, ◌∙◌, subst, arith}
use Rattle.std.specs.Prelude.{◌+◌, not, ◌&&◌, ◌||◌, nat_lt, nat_le, int_lt, int_le, if◌then◌else◌}
use Rattle.std.proofs.lemmas.List.{length-append, length-take-le}
use Rattle.std.proofs.lemmas.List.Elements.{All-take}
use Rattle.bits_core.specs.BitList.{number_of, sign_bit}
use Rattle.bits_core.specs.Circuit.{bitwise, exclusive_or, equal_bits, sign_turned}
use Rattle.bits_core.specs.Number.{signed_value}
use Rattle.bits_core.specs.Operator.{operator_value, result_width, shape_of}
use Rattle.bits_core.specs.declared.operator.Op.{Op}
use Rattle.bits_core.specs.declared.operator.Op.TheVariants.{Eq, LtU, LeU, LtS, LeS}
use Rattle.bits_core.proofs.ComparatorLaws.{equal_by_bits, less_by_sign_turned, less_equal_by_sign_turned}
use Rattle.bit_blaster.specs.declared.wire.Wire.{Wire}
use Rattle.bit_blaster.specs.declared.wire.Wire.TheVariants.{Known}
use Rattle.bit_blaster.specs.Wire.{opposite}
use Rattle.bit_blaster.specs.Netlist.{Netlist, HasWire, HasWord, CarriesBits, Carries}
use Rattle.bit_blaster.specs.Shifter.{some_bit, GivesSome}
use Rattle.bit_blaster.specs.Word.{GivesBits, Computes, top_turned}
use Rattle.bit_blaster.proofs.GateLemmas.{opposite_stands, has_opposite}
use Rattle.bit_blaster.proofs.OperatorLemmas.{computes_by_test, numbers_are, one_bit_number}
use Rattle.bit_blaster.proofs.ShifterLemmas.{carries_take, has_sign, sign_stands}
use Rattle.bit_blaster.proofs.WordLemmas.{carries_length, carries_push, has_push}

-- ---- equality: no place differs

none_more : (b c : Bool) → not (b || c) ≡ (not b && not c)
none_more true c = refl
none_more false c = refl

none_differs : (xs ys : List Bool) → length xs ≡ length ys → not (some_bit (bitwise exclusive_or xs ys)) ≡ equal_bits xs ys
none_differs [] ys e = refl
none_differs (x ∷ xs) [] e = absurd (omega arith)
none_differs (x ∷ xs) (y ∷ ys) e =
    none_more (exclusive_or x y) (some_bit (bitwise exclusive_or xs ys))
    ∙ ap (λ (b : Bool). not (exclusive_or x y) && b) (none_differs xs ys (omega arith))

pub computes_equal : (old middle new : Netlist) (a b differences word : List Wire) (differs r : Wire) {n : ℕ} → length a ≡ length b →
    word ≡ differences → r ≡ opposite differs → GivesBits n (bitwise exclusive_or) old middle a b differences →
    GivesSome (λ bits. bits) middle new word differs → Computes Eq old new a b (r ∷ [])
computes_equal old middle new a b differences word differs r same is turned bits some =
    subst (λ (w : Wire). Computes Eq old new a b (w ∷ [])) (sym turned)
    (computes_by_test Eq (λ xs ys. not (some_bit (bitwise exclusive_or xs ys))) old new a b (opposite differs) refl
    (λ xs ys p q. one_bit_number (not (some_bit (bitwise exclusive_or xs ys)))
    ∙ ap (λ (t : Bool). if t then 1 else 0)
    (none_differs xs ys (p ∙ same ∙ sym q) ∙ equal_by_bits xs ys (p ∙ same ∙ sym q)))
    (record {
      has = has_opposite new differs some.has;
      value = λ inputs xs ys ca cb.
          opposite_stands new inputs differs (some_bit (bitwise exclusive_or xs ys))
          (some.value inputs (bitwise exclusive_or xs ys)
          (subst (λ (ws : List Wire). CarriesBits middle inputs ws (bitwise exclusive_or xs ys)) (sym is) (bits.value inputs xs ys ca cb)));
    }))

-- ---- signed order: that of the words whose sign bits are turned round

pub has_top_turned : (net : Netlist) (word : List Wire) → HasWord net word → HasWord net (top_turned word)
has_top_turned net word has =
    has_push net (take (length word - 1) word) (opposite (get_or word (length word - 1) (Known false)))
    (record { each = All-take (HasWire net) (length word - 1) word has.each })
    (has_opposite net (get_or word (length word - 1) (Known false)) (has_sign net word has))

carries_top_turned : (net : Netlist) (inputs : List Bool) (word : List Wire) (bits : List Bool) → CarriesBits net inputs word bits →
    CarriesBits net inputs (top_turned word) (sign_turned bits)
carries_top_turned net inputs word bits c =
    subst (λ (n : ℕ). CarriesBits net inputs (top_turned word) (take (n - 1) bits ++ not (sign_bit bits) ∷ []))
    (carries_length net inputs word bits c)
    (carries_push net inputs (take (length word - 1) word) (take (length word - 1) bits)
    (opposite (get_or word (length word - 1) (Known false))) (not (sign_bit bits))
    (carries_take net inputs (length word - 1) word bits c)
    (opposite_stands net inputs (get_or word (length word - 1) (Known false)) (sign_bit bits) (sign_stands net inputs word bits c)))

less_law : (xs ys : List Bool) → length xs ≡ length ys →
    nat_lt (number_of (sign_turned xs)) (number_of (sign_turned ys)) ≡ int_lt (signed_value (length xs) (number_of xs)) (signed_value (length xs) (number_of ys))
less_law [] [] e = refl
less_law [] (y ∷ ys) e = absurd (omega arith)
less_law (x ∷ xs) ys e =
    less_by_sign_turned (x ∷ xs) ys (omega arith) e
    ∙ ap (λ (n : ℕ). int_lt (signed_value (length (x ∷ xs)) (number_of (x ∷ xs))) (signed_value n (number_of ys))) (sym e)

less_equal_law : (xs ys : List Bool) → length xs ≡ length ys →
    nat_le (number_of (sign_turned xs)) (number_of (sign_turned ys)) ≡ int_le (signed_value (length xs) (number_of xs)) (signed_value (length xs) (number_of ys))
less_equal_law [] [] e = refl
less_equal_law [] (y ∷ ys) e = absurd (omega arith)
less_equal_law (x ∷ xs) ys e =
    less_equal_by_sign_turned (x ∷ xs) ys (omega arith) e
    ∙ ap (λ (n : ℕ). int_le (signed_value (length (x ∷ xs)) (number_of (x ∷ xs))) (signed_value n (number_of ys))) (sym e)

module _ (old new : Netlist) (a b first second r : List Wire) (same : length a ≡ length b) (one : first ≡ top_turned a)
    (two : second ≡ top_turned b) where
  -- a test of the words that are turned is one of the words
  by_turned : (op signed : Op) → shape_of signed ≡ shape_of op →
      ((n m : ℕ) → result_width (shape_of op) n m ≡ 1) →
      ((xs ys : List Bool) → length xs ≡ length ys → (n m : ℕ) →
      operator_value op n (number_of (sign_turned xs)) m (number_of (sign_turned ys))
      ≡ operator_value signed (length xs) (number_of xs) (length ys) (number_of ys)) →
      Computes op old new first second r → Computes signed old new a b r
  by_turned op signed shape test law computes = record {
    has = computes.has;
    width =
        computes.width ∙ test (length first) (length second) ∙ sym (test (length a) (length b))
        ∙ ap (λ s. result_width s (length a) (length b)) (sym shape);
    value = λ inputs x y ca cb.
        let la = carries_length old inputs a ca.bits ca.carries in
        let lb = carries_length old inputs b cb.bits cb.carries in
        subst (Carries new inputs r)
        (law ca.bits cb.bits (sym la ∙ same ∙ lb) (length first) (length second)
        ∙ numbers_are signed (length ca.bits) (length a) (length cb.bits) (length b) (number_of ca.bits) (number_of cb.bits) (sym la) (sym lb)
        ∙ ap (λ (k : ℕ). operator_value signed (length a) k (length b) (number_of cb.bits)) ca.is
        ∙ ap (λ (k : ℕ). operator_value signed (length a) x (length b) k) cb.is)
        (computes.value inputs (number_of (sign_turned ca.bits)) (number_of (sign_turned cb.bits))
        (subst (λ (word : List Wire). Carries old inputs word (number_of (sign_turned ca.bits))) (sym one)
        (record { bits = sign_turned ca.bits; carries = carries_top_turned old inputs a ca.bits ca.carries; is = refl }))
        (subst (λ (word : List Wire). Carries old inputs word (number_of (sign_turned cb.bits))) (sym two)
        (record { bits = sign_turned cb.bits; carries = carries_top_turned old inputs b cb.bits cb.carries; is = refl })));
  }

  pub computes_less_signed : Computes LtU old new first second r → Computes LtS old new a b r
  computes_less_signed =
      by_turned LtU LtS refl (λ n m. refl) (λ xs ys e n m. ap (λ (t : Bool). if t then 1 else 0) (less_law xs ys e))

  pub computes_less_equal_signed : Computes LeU old new first second r → Computes LeS old new a b r
  computes_less_equal_signed =
      by_turned LeU LeS refl (λ n m. refl) (λ xs ys e n m. ap (λ (t : Bool). if t then 1 else 0) (less_equal_law xs ys e))

pub length_top_turned : (a b first second : List Wire) → length a ≡ length b → first ≡ top_turned a → second ≡ top_turned b →
    length first ≡ length second
length_top_turned a b first second same one two =
    ap length one ∙ long a ∙ ap (λ (n : ℕ). n - 1 + 1) same ∙ sym (long b) ∙ ap length (sym two) where
      long : (word : List Wire) → length (top_turned word) ≡ length word - 1 + 1
      long word =
          length-append (take (length word - 1) word) (opposite (get_or word (length word - 1) (Known false)) ∷ [])
          ∙ ap (λ (n : ℕ). n + 1) (length-take-le (length word - 1) word (omega arith))
