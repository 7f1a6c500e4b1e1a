-- Sums and differences that stop at the ends of their type.
use Rattle.std.proofs.Common.{◌≡◌, ℕ, zero, suc, ◌+◌, ◌-◌, ◌*◌, ◌^◌, Bool, true, false, List, [], ◌∷◌, length, replicate, min, get_or, refl, sym, ap, ◌∙◌, subst, arith}
use Rattle.std.specs.Prelude.{map, not, ◌&&◌, if◌then◌else◌, ◌+ℤ◌, ◌-ℤ◌}
use Rattle.std.specs.Int.{saturate_to_bits}
use Rattle.bits_core.specs.Number.{signed_value}
use Rattle.std.proofs.lemmas.List.{length-replicate}
use Rattle.std.proofs.lemmas.List.Elements.{All-replicate}
use Rattle.std.proofs.lemmas.Nat.{pow_pos}
use Rattle.bits_core.specs.BitList.{number_of, sign_bit}
use Rattle.bits_core.specs.Circuit.{exclusive_or, ripple_sum, ripple_carry, end_of}
use Rattle.bits_core.specs.Operator.{operator_value}
use Rattle.bits_core.specs.declared.operator.Op.TheVariants.{AddSatU, SubSatU, AddSatS, SubSatS}
use Rattle.bits_core.proofs.BitListLaws.{number_of_append, number_of_zeros}
use Rattle.bits_core.proofs.SaturationLaws.{add_or_end, subtract_or_zero, add_signed_or_end, subtract_signed_or_end}
use Rattle.bit_blaster.specs.declared.shifter.Direction.TheVariants.{Right}
use Rattle.bit_blaster.specs.declared.wire.Wire.{Wire}
use Rattle.bit_blaster.specs.declared.wire.Wire.TheVariants.{Known}
use Rattle.bit_blaster.specs.Netlist.{Netlist, HasWire, HasWord, StandsFor, CarriesBits, Extends, GivesTwo}
use Rattle.bit_blaster.specs.Saturation.{end_bits, or_end, GivesOrEnd}
use Rattle.bit_blaster.specs.Shifter.{shifted}
use Rattle.bit_blaster.specs.Wire.{opposite}
use Rattle.bit_blaster.specs.Word.{GivesCarries, GivesCarryOut, GivesChosen, GivesSum, Computes}
use Rattle.bit_blaster.proofs.GateLemmas.{known_stands, opposite_stands, has_opposite}
use Rattle.bit_blaster.proofs.NetlistLemmas.{carries_bits_along}
use Rattle.bit_blaster.proofs.OperatorLemmas.{carries_turned, computes_by_bits}
use Rattle.bit_blaster.proofs.ShifterLemmas.{carries_replicate, carries_shifted, has_shifted, length_shifted, sign_stands, wrapped_none}
use Rattle.bit_blaster.proofs.WordLemmas.{carries_length}

pub gives_carry_out : (old first second new : Netlist) (a b : List Wire) (carry last : Wire) (all : List Wire) {n : ℕ} →
    GivesCarries n (λ xs. xs) (λ ys. ys) old first a b carry last all → Extends first second → Extends second new →
    GivesCarryOut old new a b carry last
gives_carry_out old first second new a b carry last all carries one two = record {
  has = two.wires last (one.wires last carries.has_last);
  value = λ inputs xs ys c ca cb s.
      two.truths inputs last (ripple_carry xs ys c) (one.truths inputs last (ripple_carry xs ys c) (carries.last_carry inputs xs ys c ca cb s));
}

number_of_ones : (n : ℕ) → number_of (replicate n true) ≡ 2 ^ n - 1
number_of_ones zero = refl
number_of_ones (suc n) = omega (arith, number_of_ones n, pow_pos n)

number_chosen : (c : Bool) (xs ys : List Bool) → number_of (if c then xs else ys) ≡ (if c then number_of xs else number_of ys)
number_chosen true xs ys = refl
number_chosen false xs ys = refl

-- ---- unsigned

sum_law : (xs ys : List Bool) → length xs ≡ length ys →
    number_of (if ripple_carry xs ys false then replicate (length xs) true else ripple_sum xs ys false)
    ≡ operator_value AddSatU (length xs) (number_of xs) (length ys) (number_of ys)
sum_law xs ys e =
    let c = ripple_carry xs ys false in
    let sum = ripple_sum xs ys false in
    number_chosen c (replicate (length xs) true) sum ∙ ap (λ (n : ℕ). if c then n else number_of sum) (number_of_ones (length xs))
    ∙ sym (add_or_end xs ys e)

difference_law : (xs ys : List Bool) → length xs ≡ length ys →
    number_of (if ripple_carry xs (map not ys) true then ripple_sum xs (map not ys) true else replicate (length xs) false)
    ≡ operator_value SubSatU (length xs) (number_of xs) (length ys) (number_of ys)
difference_law xs ys e =
    let c = ripple_carry xs (map not ys) true in
    let difference = ripple_sum xs (map not ys) true in
    number_chosen c difference (replicate (length xs) false)
    ∙ ap (λ (n : ℕ). if c then number_of difference else n) (number_of_zeros (length xs)) ∙ sym (subtract_or_zero xs ys e)

module _ (old middle new : Netlist) (a b r : List Wire) (same : length a ≡ length b) (before : Extends old middle) where
  pub computes_sum_or_end : (word end first second : List Wire) (carry : Wire) → end ≡ replicate (length a) (Known true) → first ≡ end →
      second ≡ word → GivesSum (length a) old middle a b (Known false) word → GivesCarryOut old middle a b (Known false) carry →
      GivesChosen (length first) (λ bits. bits) middle new carry first second r → Computes AddSatU old new a b r
  computes_sum_or_end word end first second carry e one two sum out gate =
      computes_by_bits AddSatU (λ xs ys. if ripple_carry xs ys false then replicate (length xs) true else ripple_sum xs ys false) old new a b r
      refl (λ xs ys p q. sum_law xs ys (p ∙ same ∙ sym q))
      (record {
        has = gate.has;
        long = gate.long ∙ ap length (one ∙ e) ∙ length-replicate (length a) (Known true);
        value = λ inputs xs ys ca cb.
            let stands = known_stands old inputs false ca.long in
            let long = (sum.value inputs xs ys false ca cb stands).long in
            gate.value inputs (replicate (length xs) true) (ripple_sum xs ys false) (ripple_carry xs ys false)
            (out.value inputs xs ys false ca cb stands)
            (subst (λ (us : List Wire). CarriesBits middle inputs us (replicate (length xs) true)) (sym (one ∙ e))
            (subst (λ (n : ℕ). CarriesBits middle inputs (replicate n (Known true)) (replicate (length xs) true))
            (sym (carries_length old inputs a xs ca))
            (carries_replicate middle inputs (length xs) (Known true) true (known_stands middle inputs true long))))
            (subst (λ (us : List Wire). CarriesBits middle inputs us (ripple_sum xs ys false)) (sym two)
            (sum.value inputs xs ys false ca cb stands));
      })

  pub computes_difference_or_zero : (other word end first second : List Wire) (carry : Wire) → other ≡ map opposite b →
      end ≡ replicate (length a) (Known false) → first ≡ word → second ≡ end →
      GivesSum (length a) old middle a other (Known true) word → GivesCarryOut old middle a other (Known true) carry →
      GivesChosen (length first) (λ bits. bits) middle new carry first second r → Computes SubSatU old new a b r
  computes_difference_or_zero other word end first second carry turned e one two sum out gate =
      computes_by_bits SubSatU
      (λ xs ys. if ripple_carry xs (map not ys) true then ripple_sum xs (map not ys) true else replicate (length xs) false) old new a b r
      refl (λ xs ys p q. difference_law xs ys (p ∙ same ∙ sym q))
      (record {
        has = gate.has;
        long = gate.long ∙ ap length one ∙ sum.long;
        value = λ inputs xs ys ca cb.
            let stands = known_stands old inputs true ca.long in
            let co = subst (λ (us : List Wire). CarriesBits old inputs us (map not ys)) (sym turned) (carries_turned old inputs b ys cb) in
            let carried = sum.value inputs xs (map not ys) true ca co stands in
            gate.value inputs (ripple_sum xs (map not ys) true) (replicate (length xs) false) (ripple_carry xs (map not ys) true)
            (out.value inputs xs (map not ys) true ca co stands)
            (subst (λ (us : List Wire). CarriesBits middle inputs us (ripple_sum xs (map not ys) true)) (sym one) carried)
            (subst (λ (us : List Wire). CarriesBits middle inputs us (replicate (length xs) false)) (sym (two ∙ e))
            (subst (λ (n : ℕ). CarriesBits middle inputs (replicate n (Known false)) (replicate (length xs) false))
            (sym (carries_length old inputs a xs ca))
            (carries_replicate middle inputs (length xs) (Known false) false (known_stands middle inputs false carried.long))));
      })

pub has_known : (net : Netlist) (n : ℕ) (truth : Bool) → HasWord net (replicate n (Known truth))
has_known net n truth = record { each = All-replicate (HasWire net) n (Known truth) tt }

-- ---- signed: the end

pub has_end : (net : Netlist) (sign : Wire) (n : ℕ) → HasWire net sign → HasWord net (shifted Right sign (min 1 n) (replicate n (opposite sign)))
has_end net sign n has =
    has_shifted net Right sign (min 1 n) (replicate n (opposite sign)) has
    (record { each = All-replicate (HasWire net) n (opposite sign) (has_opposite net sign has) })

pub length_end : (sign : Wire) (n : ℕ) → length (shifted Right sign (min 1 n) (replicate n (opposite sign))) ≡ n
length_end sign n =
    length_shifted Right sign (min 1 n) (replicate n (opposite sign)) (omega (arith, length-replicate n (opposite sign)))
    ∙ length-replicate n (opposite sign)

carries_end : (net : Netlist) (inputs : List Bool) (sign : Wire) (xs : List Bool) (n : ℕ) → n ≡ length xs → StandsFor net inputs sign (sign_bit xs) →
    CarriesBits net inputs (shifted Right sign (min 1 n) (replicate n (opposite sign))) (end_bits xs)
carries_end net inputs sign xs n e s =
    subst
    (λ (m : ℕ). CarriesBits net inputs (shifted Right sign (min 1 n) (replicate n (opposite sign)))
    (shifted Right (sign_bit xs) (min 1 m) (replicate m (not (sign_bit xs))))) e
    (carries_shifted net inputs Right (min 1 n) sign (sign_bit xs) (replicate n (opposite sign)) (replicate n (not (sign_bit xs))) s
    (carries_replicate net inputs n (opposite sign) (not (sign_bit xs)) (opposite_stands net inputs sign (sign_bit xs) s)))

end_number : (sign : Bool) (n : ℕ) →
    number_of (shifted Right sign (min 1 (suc n)) (replicate (suc n) (not sign))) ≡ (if sign then 2 ^ (suc n - 1) else 2 ^ (suc n - 1) - 1)
end_number sign n =
    let one : min 1 (suc n) ≡ 1 = omega arith in
    let less : n ≡ suc n - 1 = omega arith in
    ap (λ (k : ℕ). number_of (shifted Right sign k (replicate (suc n) (not sign)))) one
    ∙ number_of_append (replicate n (not sign)) (sign ∷ [])
    ∙ ap (λ (k : ℕ). number_of (sign ∷ []) * 2 ^ k + number_of (replicate n (not sign))) (length-replicate n (not sign))
    ∙ whole sign ∙ ap (λ (k : ℕ). if sign then 2 ^ k else 2 ^ k - 1) less
  where
    whole : (sign : Bool) → number_of (sign ∷ []) * 2 ^ n + number_of (replicate n (not sign)) ≡ (if sign then 2 ^ n else 2 ^ n - 1)
    whole true = omega (arith, number_of_zeros n)
    whole false = omega (arith, number_of_ones n)

or_end_number : (bound : Bool) (x : Bool) (xs ys : List Bool) →
    number_of (or_end bound (x ∷ xs) ys)
    ≡ (if bound && exclusive_or (sign_bit (x ∷ xs)) (sign_bit ys) then end_of (x ∷ xs) else number_of ys)
or_end_number bound x xs ys =
    let past = bound && exclusive_or (sign_bit (x ∷ xs)) (sign_bit ys) in
    number_chosen past (end_bits (x ∷ xs)) ys
    ∙ ap (λ (n : ℕ). if past then n else number_of ys) (end_number (sign_bit (x ∷ xs)) (length xs))

pub gives_or_end : (old first second new : Netlist) (a b : List Wire) (bound sign other changed past : Wire) (end left r : List Wire) →
    sign ≡ get_or a (length a - 1) (Known false) → other ≡ get_or b (length b - 1) (Known false) →
    Extends old first → Extends first second →
    GivesTwo exclusive_or old first sign other changed → GivesTwo (λ x y. x && y) first second bound changed past →
    left ≡ end → end ≡ shifted Right sign (min 1 (length a)) (replicate (length a) (opposite sign)) →
    GivesChosen (length left) (λ bits. bits) second new past left b r → GivesOrEnd old new a b bound r
gives_or_end old first second new a b bound sign other changed past end left r e f one two xor and g h choice = record {
  has = choice.has;
  long = choice.long ∙ ap length (g ∙ h) ∙ length_end sign (length a);
  value = λ inputs xs ys c ca cb s.
      let ss : StandsFor old inputs sign (sign_bit xs) =
      subst (λ (w : Wire). StandsFor old inputs w (sign_bit xs)) (sym e) (sign_stands old inputs a xs ca) in
      let so : StandsFor old inputs other (sign_bit ys) =
      subst (λ (w : Wire). StandsFor old inputs w (sign_bit ys)) (sym f) (sign_stands old inputs b ys cb) in
      let differ = exclusive_or (sign_bit xs) (sign_bit ys) in
      choice.value inputs (end_bits xs) ys (c && differ)
      (and.value inputs c differ (one.truths inputs bound c s) (xor.value inputs (sign_bit xs) (sign_bit ys) ss so))
      (subst (λ (us : List Wire). CarriesBits second inputs us (end_bits xs)) (sym (g ∙ h))
      (carries_end second inputs sign xs (length a) (carries_length old inputs a xs ca)
      (two.truths inputs sign (sign_bit xs) (one.truths inputs sign (sign_bit xs) ss))))
      (carries_bits_along first second inputs b ys two (carries_bits_along old first inputs b ys one cb));
}

signed_sum_law : (xs ys : List Bool) → length xs ≡ length ys →
    number_of (or_end (not (exclusive_or (sign_bit xs) (sign_bit ys))) xs (ripple_sum xs ys false))
    ≡ operator_value AddSatS (length xs) (number_of xs) (length ys) (number_of ys)
signed_sum_law [] [] e = wrapped_none (saturate_to_bits (0 - 1) (signed_value 0 0 +ℤ signed_value 0 0))
signed_sum_law [] (y ∷ ys) e = absurd (omega arith)
signed_sum_law (x ∷ xs) ys e =
    or_end_number (not (exclusive_or (sign_bit (x ∷ xs)) (sign_bit ys))) x xs (ripple_sum (x ∷ xs) ys false)
    ∙ sym (add_signed_or_end (x ∷ xs) ys (omega arith) e)

signed_difference_law : (xs ys : List Bool) → length xs ≡ length ys →
    number_of (or_end (exclusive_or (sign_bit xs) (sign_bit ys)) xs (ripple_sum xs (map not ys) true))
    ≡ operator_value SubSatS (length xs) (number_of xs) (length ys) (number_of ys)
signed_difference_law [] [] e = wrapped_none (saturate_to_bits (0 - 1) (signed_value 0 0 -ℤ signed_value 0 0))
signed_difference_law [] (y ∷ ys) e = absurd (omega arith)
signed_difference_law (x ∷ xs) ys e =
    or_end_number (exclusive_or (sign_bit (x ∷ xs)) (sign_bit ys)) x xs (ripple_sum (x ∷ xs) (map not ys) true)
    ∙ sym (subtract_signed_or_end (x ∷ xs) ys (omega arith) e)

module _ (old first second new : Netlist) (a b r : List Wire) (same : length a ≡ length b) (one : Extends old first) (two : Extends first second)
    (left right differ : Wire) (e : left ≡ get_or a (length a - 1) (Known false)) (f : right ≡ get_or b (length b - 1) (Known false))
    (xor : GivesTwo exclusive_or old first left right differ) where
  differs : (inputs xs ys : List Bool) → CarriesBits old inputs a xs → CarriesBits old inputs b ys →
      StandsFor second inputs differ (exclusive_or (sign_bit xs) (sign_bit ys))
  differs inputs xs ys ca cb =
      two.truths inputs differ (exclusive_or (sign_bit xs) (sign_bit ys))
      (xor.value inputs (sign_bit xs) (sign_bit ys)
      (subst (λ (w : Wire). StandsFor old inputs w (sign_bit xs)) (sym e) (sign_stands old inputs a xs ca))
      (subst (λ (w : Wire). StandsFor old inputs w (sign_bit ys)) (sym f) (sign_stands old inputs b ys cb)))

  pub computes_signed_sum : (word total : List Wire) (bound : Wire) → bound ≡ opposite differ → total ≡ word →
      GivesSum (length a) first second a b (Known false) word → GivesOrEnd second new a total bound r → Computes AddSatS old new a b r
  computes_signed_sum word total bound turned is sum gives =
      computes_by_bits AddSatS (λ xs ys. or_end (not (exclusive_or (sign_bit xs) (sign_bit ys))) xs (ripple_sum xs ys false)) old new a b r refl
      (λ xs ys p q. signed_sum_law xs ys (p ∙ same ∙ sym q))
      (record {
        has = gives.has;
        long = gives.long;
        value = λ inputs xs ys ca cb.
            let fa = carries_bits_along old first inputs a xs one ca in
            let fb = carries_bits_along old first inputs b ys one cb in
            gives.value inputs xs (ripple_sum xs ys false) (not (exclusive_or (sign_bit xs) (sign_bit ys)))
            (carries_bits_along first second inputs a xs two fa)
            (subst (λ (us : List Wire). CarriesBits second inputs us (ripple_sum xs ys false)) (sym is)
            (sum.value inputs xs ys false fa fb (known_stands first inputs false fa.long)))
            (subst (λ (w : Wire). StandsFor second inputs w (not (exclusive_or (sign_bit xs) (sign_bit ys)))) (sym turned)
            (opposite_stands second inputs differ (exclusive_or (sign_bit xs) (sign_bit ys)) (differs inputs xs ys ca cb)));
      })

  pub computes_signed_difference : (other word total : List Wire) → other ≡ map opposite b → total ≡ word →
      GivesSum (length a) first second a other (Known true) word → GivesOrEnd second new a total differ r → Computes SubSatS old new a b r
  computes_signed_difference other word total turned is sum gives =
      computes_by_bits SubSatS (λ xs ys. or_end (exclusive_or (sign_bit xs) (sign_bit ys)) xs (ripple_sum xs (map not ys) true)) old new a b r refl
      (λ xs ys p q. signed_difference_law xs ys (p ∙ same ∙ sym q))
      (record {
        has = gives.has;
        long = gives.long;
        value = λ inputs xs ys ca cb.
            let fa = carries_bits_along old first inputs a xs one ca in
            let fb = carries_bits_along old first inputs b ys one cb in
            let fo = subst (λ (us : List Wire). CarriesBits first inputs us (map not ys)) (sym turned) (carries_turned first inputs b ys fb) in
            gives.value inputs xs (ripple_sum xs (map not ys) true) (exclusive_or (sign_bit xs) (sign_bit ys))
            (carries_bits_along first second inputs a xs two fa)
            (subst (λ (us : List Wire). CarriesBits second inputs us (ripple_sum xs (map not ys) true)) (sym is)
            (sum.value inputs xs (map not ys) true fa fo (known_stands first inputs true fa.long)))
            (differs inputs xs ys ca cb);
      })
