-- From what a circuit gives on bits to the operator that it computes on numbers.
use Rattle.std.proofs.Common.{◌≡◌, ℕ, Bool, true, false, List, [], ◌∷◌, ◌++◌, length, refl, sym, ap, ◌∙◌, subst, arith}
use Rattle.std.specs.Prelude.{map, not, if◌then◌else◌}
use Rattle.std.specs.List.{AllZip}
use Rattle.std.proofs.lemmas.List.{length-append, length-map}
use Rattle.std.proofs.lemmas.List.Elements.{All-append, All-cons, All-map, All-nil, All-weaker}
use Rattle.bits_core.specs.BitList.{number_of}
use Rattle.bits_core.specs.Circuit.{bitwise, carry_bit, exclusive_or, ripple_sum}
use Rattle.bits_core.specs.Operator.{operator_value, result_width, shape_of}
use Rattle.bits_core.specs.declared.operator.Op.{Op}
use Rattle.bits_core.specs.declared.operator.Op.TheVariants.{Add, Sub, Cat, LeU, LtU}
use Rattle.bits_core.proofs.BitwiseLaws.{cat_by_append}
use Rattle.bits_core.proofs.AdderLaws.{add_by_ripple, less_equal_by_ripple, subtract_by_ripple}
use Rattle.bits_core.proofs.ComparatorLaws.{less_by_ripple}
use Rattle.bit_blaster.specs.declared.wire.Wire.{Wire}
use Rattle.bit_blaster.specs.declared.wire.Wire.TheVariants.{Known}
use Rattle.bit_blaster.specs.Wire.{opposite}
use Rattle.bit_blaster.specs.Netlist.{Netlist, HasWire, HasWord, StandsFor, CarriesBits, Extends}
use Rattle.bit_blaster.specs.Word.{GivesBits, GivesCarries, GivesSum, GivesTest, Computes, no_borrow, ripple_carries}
use Rattle.bit_blaster.proofs.GateLemmas.{known_stands, opposite_stands, has_opposite}
use Rattle.bit_blaster.proofs.NetlistLemmas.{carries_bits_along}
use Rattle.bit_blaster.proofs.WordLemmas.{carries_append, carries_length, carries_as}

-- a word's number in place of its bits
pub numbers_are : (op : Op) (n m v u x y : ℕ) → n ≡ m → v ≡ u → operator_value op n x v y ≡ operator_value op m x u y
numbers_are op n m v u x y e f = ap (λ (k : ℕ). operator_value op k x v y) e ∙ ap (λ (k : ℕ). operator_value op m x k y) f

pub computes_by_bits : (op : Op) (f : List Bool → List Bool → List Bool) (old new : Netlist) (a b r : List Wire) {n : ℕ} →
    n ≡ result_width (shape_of op) (length a) (length b) →
    ((xs ys : List Bool) → length xs ≡ length a → length ys ≡ length b →
    number_of (f xs ys) ≡ operator_value op (length xs) (number_of xs) (length ys) (number_of ys)) →
    GivesBits n f old new a b r → Computes op old new a b r
computes_by_bits op f old new a b r wide law gives = record {
  has = gives.has;
  width = gives.long ∙ wide;
  value = λ inputs x y ca cb.
      let la = carries_length old inputs a ca.bits ca.carries in
      let lb = carries_length old inputs b cb.bits cb.carries in
      record {
        bits = f ca.bits cb.bits;
        carries = gives.value inputs ca.bits cb.bits ca.carries cb.carries;
        is =
            law ca.bits cb.bits (sym la) (sym lb)
            ∙ numbers_are op (length ca.bits) (length a) (length cb.bits) (length b) (number_of ca.bits) (number_of cb.bits) (sym la) (sym lb)
            ∙ ap (λ (k : ℕ). operator_value op (length a) k (length b) (number_of cb.bits)) ca.is
            ∙ ap (λ (k : ℕ). operator_value op (length a) x (length b) k) cb.is;
      };
}

-- ---- words turned round

turned_zip : (net : Netlist) (inputs : List Bool) (word : List Wire) (bits : List Bool) → AllZip (StandsFor net inputs) word bits →
    AllZip (StandsFor net inputs) (map opposite word) (map not bits)
turned_zip net inputs [] [] h = tt
turned_zip net inputs [] (b ∷ bits) h = absurd h
turned_zip net inputs (w ∷ word) [] h = absurd h
turned_zip net inputs (w ∷ word) (b ∷ bits) h = (opposite_stands net inputs w b h.0, turned_zip net inputs word bits h.1)

pub carries_turned : (net : Netlist) (inputs : List Bool) (word : List Wire) (bits : List Bool) → CarriesBits net inputs word bits →
    CarriesBits net inputs (map opposite word) (map not bits)
carries_turned net inputs word bits c = record { long = c.long; each = turned_zip net inputs word bits c.each }

pub has_turned : (net : Netlist) (word : List Wire) → HasWord net word → HasWord net (map opposite word)
has_turned net word has =
    record {
      each =
          All-map (HasWire net) opposite word
          (All-weaker (HasWire net) (λ (w : Wire). HasWire net (opposite w)) (has_opposite net) word has.each);
    }

pub gives_turned : (net : Netlist) (a b : List Wire) → HasWord net a → GivesBits (length a) (λ xs ys. map not xs) net net a b (map opposite a)
gives_turned net a b has = record {
  has = has_turned net a has;
  long = length-map a opposite;
  value = λ inputs xs ys ca cb. carries_turned net inputs a xs ca;
}

-- ---- the sum by the carries

pub sum_by_carries : (xs ys : List Bool) (c : Bool) → length xs ≡ length ys →
    bitwise exclusive_or xs (bitwise exclusive_or ys (ripple_carries xs ys c)) ≡ ripple_sum xs ys c
sum_by_carries [] ys c e = refl
sum_by_carries (x ∷ xs) [] c e = absurd (omega arith)
sum_by_carries (x ∷ xs) (y ∷ ys) c e =
    ap (λ (zs : List Bool). exclusive_or x (exclusive_or y c) ∷ zs) (sum_by_carries xs ys (carry_bit x y c) (omega arith))

pub gives_sum : (old first second new : Netlist) (a b : List Wire) (carry last : Wire) (all halves r : List Wire) {n m k : ℕ} →
    length a ≡ length b → k ≡ length a →
    Extends old first → Extends first second →
    GivesCarries n (λ xs. xs) (λ ys. ys) old first a b carry last all →
    GivesBits m (bitwise exclusive_or) first second b all halves →
    GivesBits k (bitwise exclusive_or) second new a halves r →
    GivesSum (length a) old new a b carry r
gives_sum old first second new a b carry last all halves r same wide one two carries middle outer = record {
  has = outer.has;
  long = outer.long ∙ wide;
  value = λ inputs xs ys c ca cb s.
      let la : length a ≡ length xs = carries_length old inputs a xs ca in
      let lb : length b ≡ length ys = carries_length old inputs b ys cb in
      let cs = ripple_carries xs ys c in
      carries_as new inputs r (bitwise exclusive_or xs (bitwise exclusive_or ys cs)) (ripple_sum xs ys c)
      (sum_by_carries xs ys c (sym la ∙ same ∙ lb))
      (outer.value inputs xs (bitwise exclusive_or ys cs)
      (carries_bits_along first second inputs a xs two (carries_bits_along old first inputs a xs one ca))
      (middle.value inputs ys cs (carries_bits_along old first inputs b ys one cb) (carries.carries inputs xs ys c ca cb s)));
}

module _ (old new : Netlist) (a b r : List Wire) (same : length a ≡ length b) where
  pub computes_add : GivesSum (length a) old new a b (Known false) r → Computes Add old new a b r
  computes_add g =
      computes_by_bits Add (λ xs ys. ripple_sum xs ys false) old new a b r refl (λ xs ys p q. add_by_ripple xs ys (p ∙ same ∙ sym q))
      (record {
        has = g.has;
        long = g.long;
        value = λ inputs xs ys ca cb. g.value inputs xs ys false ca cb (known_stands old inputs false ca.long);
      })

  pub computes_subtract : (other : List Wire) → HasWord old b → other ≡ map opposite b → GivesSum (length a) old new a other (Known true) r →
      Computes Sub old new a b r
  computes_subtract other has turned g =
      computes_by_bits Sub (λ xs ys. ripple_sum xs (map not ys) true) old new a b r refl
      (λ xs ys p q. subtract_by_ripple xs ys (p ∙ same ∙ sym q))
      (record {
        has = g.has;
        long = g.long;
        value = λ inputs xs ys ca cb.
            g.value inputs xs (map not ys) true ca
            (subst (λ (word : List Wire). CarriesBits old inputs word (map not ys)) (sym turned) (carries_turned old inputs b ys cb))
            (known_stands old inputs true ca.long);
      })

-- ---- joins

pub computes_join : (net : Netlist) (a b r : List Wire) → HasWord net a → HasWord net b → r ≡ b ++ a → Computes Cat net net a b r
computes_join net a b r ha hb e =
    subst (λ (word : List Wire). Computes Cat net net a b word) (sym e)
    (computes_by_bits Cat (λ xs ys. ys ++ xs) net net a b (b ++ a) refl (λ xs ys p q. cat_by_append xs ys)
    (record {
      has = record { each = All-append (HasWire net) b a hb.each ha.each };
      long = omega (arith, length-append b a);
      value = λ inputs xs ys ca cb. carries_append net inputs b a ys xs cb ca;
    }))

-- ---- tests

pub computes_by_test : (op : Op) (f : List Bool → List Bool → Bool) (old new : Netlist) (a b : List Wire) (r : Wire) →
    1 ≡ result_width (shape_of op) (length a) (length b) →
    ((xs ys : List Bool) → length xs ≡ length a → length ys ≡ length b →
    number_of (f xs ys ∷ []) ≡ operator_value op (length xs) (number_of xs) (length ys) (number_of ys)) →
    GivesTest f old new a b r → Computes op old new a b (r ∷ [])
computes_by_test op f old new a b r wide law gives =
    computes_by_bits op (λ xs ys. f xs ys ∷ []) old new a b (r ∷ []) wide law
    (record {
      has = record { each = All-cons (HasWire new) r [] gives.has (All-nil (HasWire new)) };
      long = refl;
      value = λ inputs xs ys ca cb.
          let s = gives.value inputs xs ys ca cb in
          record { long = s.long; each = (s, tt) };
    })

pub gives_no_borrow : (old new : Netlist) (a b other all : List Wire) (last : Wire) {n : ℕ} → HasWord old b → other ≡ map opposite b →
    GivesCarries n (λ xs. xs) (λ ys. ys) old new a other (Known true) last all → GivesTest no_borrow old new a b last
gives_no_borrow old new a b other all last has turned g = record {
  has = g.has_last;
  value = λ inputs xs ys ca cb.
      g.last_carry inputs xs (map not ys) true ca
      (subst (λ (word : List Wire). CarriesBits old inputs word (map not ys)) (sym turned) (carries_turned old inputs b ys cb))
      (known_stands old inputs true ca.long);
}

pub one_bit_number : (b : Bool) → number_of (b ∷ []) ≡ (if b then 1 else 0)
one_bit_number true = refl
one_bit_number false = refl

pub computes_less_equal : (old new : Netlist) (a b : List Wire) (r : Wire) → length a ≡ length b → GivesTest no_borrow old new b a r →
    Computes LeU old new a b (r ∷ [])
computes_less_equal old new a b r same g =
    computes_by_test LeU (λ xs ys. no_borrow ys xs) old new a b r refl
    (λ xs ys p q. one_bit_number (no_borrow ys xs) ∙ ap (λ (t : Bool). if t then 1 else 0) (less_equal_by_ripple ys xs (q ∙ sym same ∙ sym p)))
    (record { has = g.has; value = λ inputs xs ys ca cb. g.value inputs ys xs cb ca })

pub computes_less : (old new : Netlist) (a b : List Wire) (r turned : Wire) → length a ≡ length b → turned ≡ opposite r →
    GivesTest no_borrow old new a b r → Computes LtU old new a b (turned ∷ [])
computes_less old new a b r turned same e g =
    subst (λ (w : Wire). Computes LtU old new a b (w ∷ [])) (sym e)
    (computes_by_test LtU (λ xs ys. not (no_borrow xs ys)) old new a b (opposite r) refl
    (λ xs ys p q. one_bit_number (not (no_borrow xs ys)) ∙ ap (λ (t : Bool). if t then 1 else 0) (less_by_ripple xs ys (p ∙ same ∙ sym q)))
    (record {
      has = has_opposite new r g.has;
      value = λ inputs xs ys ca cb. opposite_stands new inputs r (no_borrow xs ys) (g.value inputs xs ys ca cb);
    }))
