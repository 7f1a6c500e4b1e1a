-- Slices, extensions and choices of words.
use Rattle.std.proofs.Common.{◌≡◌, ℕ, ◌+◌, ◌-◌, ◌<◌, ◌≤◌, ⊎_elim, Bool, true, false, List, [], ◌∷◌, ◌++◌, length, take, drop, replicate, min, get_or, refl, sym, ap, ◌∙◌, subst, arith}
use Rattle.std.specs.Prelude.{if◌then◌else◌, ◌==◌}
use Rattle.std.proofs.lemmas.List.{take_all, append-nil, length-append, length-drop, length-take-le, length-replicate}
use Rattle.std.proofs.lemmas.List.Elements.{All-append, All-drop, All-take, All-replicate}
use Rattle.std.proofs.lemmas.Bool.{cases_lt}
use Rattle.bits_core.specs.BitList.{number_of, sign_bit}
use Rattle.bits_core.specs.Number.{extend_value, slice_value}
use Rattle.bits_core.proofs.BitwiseLaws.{cut_by_take, slice_by_take, widen_by_sign, widen_by_zeros}
use Rattle.bit_blaster.specs.declared.wire.Wire.{Wire}
use Rattle.bit_blaster.specs.declared.wire.Wire.TheVariants.{Known}
use Rattle.bit_blaster.specs.Netlist.{Netlist, HasWire, HasWord, StandsFor, CarriesBits, Carries}
use Rattle.bit_blaster.specs.TermWord.{ComputesOne, ComputesChoice}
use Rattle.bit_blaster.specs.Word.{GivesChosen}
use Rattle.bit_blaster.proofs.GateLemmas.{known_stands}
use Rattle.bit_blaster.proofs.ShifterLemmas.{carries_drop, carries_replicate, carries_take, has_sign, sign_stands}
use Rattle.bit_blaster.proofs.WordLemmas.{carries_append, carries_length}

computes_one_by_bits : (w : ℕ) (f : ℕ → ℕ) (g : List Bool → List Bool) (net : Netlist) (a r : List Wire) → HasWord net r → length r ≡ w →
    ((bits : List Bool) → length bits ≡ length a → number_of (g bits) ≡ f (number_of bits)) →
    ((inputs bits : List Bool) → CarriesBits net inputs a bits → CarriesBits net inputs r (g bits)) → ComputesOne w f net net a r
computes_one_by_bits w f g net a r has long law value = record {
  has = has;
  long = long;
  value = λ inputs x c. record {
    bits = g c.bits;
    carries = value inputs c.bits c.carries;
    is = law c.bits (sym (carries_length net inputs a c.bits c.carries)) ∙ ap f c.is;
  };
}

pub computes_slice : (net : Netlist) (a r : List Wire) (high low : ℕ) → low ≤ high → high < length a → HasWord net a →
    r ≡ take (high - low + 1) (drop low a) → ComputesOne (high - low + 1) (λ n. slice_value n high low) net net a r
computes_slice net a r high low order within has is =
    subst (λ (word : List Wire). ComputesOne (high - low + 1) (λ n. slice_value n high low) net net a word) (sym is)
    (computes_one_by_bits (high - low + 1) (λ n. slice_value n high low) (λ bits. take (high - low + 1) (drop low bits)) net a
    (take (high - low + 1) (drop low a))
    (record { each = All-take (HasWire net) (high - low + 1) (drop low a) (All-drop (HasWire net) low a has.each) })
    (length-take-le (high - low + 1) (drop low a) (omega (arith, length-drop low a))) (λ bits e. slice_by_take high low bits)
    (λ inputs bits c. carries_take net inputs (high - low + 1) (drop low a) (drop low bits) (carries_drop net inputs low a bits c)))

-- ---- extensions: cut where the new width is less, and else with copies of the fill above

extended_number : (signed : Bool) (width : ℕ) (bits : List Bool) → 1 ≤ length bits →
    number_of (take width bits ++ replicate (width - length bits) (if signed then sign_bit bits else false))
    ≡ extend_value signed (length bits) (number_of bits) width
extended_number signed width bits some =
    ⊎_elim (λ (wider : length bits < width). widen signed (omega arith)) (λ (within : width ≤ length bits). cut within)
    (cases_lt (length bits) width) where
      cut : width ≤ length bits → number_of (take width bits ++ replicate (width - length bits) (if signed then sign_bit bits else false))
          ≡ extend_value signed (length bits) (number_of bits) width
      cut within =
          let none : width - length bits ≡ 0 = omega arith in
          ap (λ (n : ℕ). number_of (take width bits ++ replicate n (if signed then sign_bit bits else false))) none
          ∙ ap number_of (append-nil (take width bits)) ∙ cut_by_take signed width bits within

      widen : (signed : Bool) → length bits ≤ width →
          number_of (take width bits ++ replicate (width - length bits) (if signed then sign_bit bits else false))
          ≡ extend_value signed (length bits) (number_of bits) width
      widen true wide =
          let back : length bits + (width - length bits) ≡ width = omega arith in
          ap (λ (us : List Bool). number_of (us ++ replicate (width - length bits) (sign_bit bits))) (take_all width bits wide)
          ∙ widen_by_sign (width - length bits) bits some ∙ ap (extend_value true (length bits) (number_of bits)) back
      widen false wide =
          let back : length bits + (width - length bits) ≡ width = omega arith in
          ap (λ (us : List Bool). number_of (us ++ replicate (width - length bits) false)) (take_all width bits wide)
          ∙ widen_by_zeros (width - length bits) bits ∙ ap (extend_value false (length bits) (number_of bits)) back

fill_stands : (net : Netlist) (inputs : List Bool) (signed : Bool) (word : List Wire) (bits : List Bool) → CarriesBits net inputs word bits →
    StandsFor net inputs (if signed then get_or word (length word - 1) (Known false) else Known false) (if signed then sign_bit bits else false)
fill_stands net inputs true word bits c = sign_stands net inputs word bits c
fill_stands net inputs false word bits c = known_stands net inputs false c.long

has_fill : (net : Netlist) (signed : Bool) (word : List Wire) → HasWord net word →
    HasWire net (if signed then get_or word (length word - 1) (Known false) else Known false)
has_fill net true word has = has_sign net word has
has_fill net false word has = tt

extended_length : (width : ℕ) (a : List Wire) (fill : Wire) → length (take width a ++ replicate (width - length a) fill) ≡ width
extended_length width a fill =
    length-append (take width a) (replicate (width - length a) fill)
    ∙ ap (λ (n : ℕ). length (take width a) + n) (length-replicate (width - length a) fill)
    ∙ ⊎_elim
    (λ (wider : length a < width).
    let back : length a + (width - length a) ≡ width = omega arith in
    ap (λ (us : List Wire). length us + (width - length a)) (take_all width a (omega arith)) ∙ back)
    (λ (within : width ≤ length a). omega (arith, length-take-le width a within)) (cases_lt (length a) width)

pub resized_is : (width : ℕ) (a word : List Wire) (fill : Wire) → word ≡ take (min width (length a)) a →
    take width word ++ replicate (width - length word) fill ≡ take width a ++ replicate (width - length a) fill
resized_is width a word fill is =
    ⊎_elim
    (λ (wider : length a < width).
    let least : min width (length a) ≡ length a = omega arith in
    ap (λ (us : List Wire). take width us ++ replicate (width - length us) fill)
    (is ∙ ap (λ (n : ℕ). take n a) least ∙ take_all (length a) a (omega arith)))
    (λ (within : width ≤ length a).
    let least : min width (length a) ≡ width = omega arith in
    let none : width - length (take width a) ≡ width - length a = omega (arith, length-take-le width a within) in
    ap (λ (us : List Wire). take width us ++ replicate (width - length us) fill) (is ∙ ap (λ (n : ℕ). take n a) least)
    ∙ ap (λ (us : List Wire). us ++ replicate (width - length (take width a)) fill)
    (take_all width (take width a) (omega (arith, length-take-le width a within)))
    ∙ ap (λ (n : ℕ). take width a ++ replicate n fill) none)
    (cases_lt (length a) width)

pub computes_extension : (net : Netlist) (signed : Bool) (a r : List Wire) (width : ℕ) (fill : Wire) → 1 ≤ length a → HasWord net a →
    fill ≡ (if signed then get_or a (length a - 1) (Known false) else Known false) → r ≡ take width a ++ replicate (width - length a) fill →
    ComputesOne width (λ n. extend_value signed (length a) n width) net net a r
computes_extension net signed a r width fill some has chosen is =
    subst (λ (word : List Wire). ComputesOne width (λ n. extend_value signed (length a) n width) net net a word)
    (sym (is ∙ ap (λ (w : Wire). take width a ++ replicate (width - length a) w) chosen))
    (computes_one_by_bits width (λ n. extend_value signed (length a) n width)
    (λ bits. take width bits ++ replicate (width - length bits) (if signed then sign_bit bits else false)) net a
    (take width a ++ replicate (width - length a) top)
    (record {
      each =
          All-append (HasWire net) (take width a) (replicate (width - length a) top) (All-take (HasWire net) width a has.each)
          (All-replicate (HasWire net) (width - length a) top (has_fill net signed a has));
    })
    (extended_length width a top)
    (λ bits e. extended_number signed width bits (omega (arith, e)) ∙ ap (λ (n : ℕ). extend_value signed n (number_of bits) width) e)
    (λ inputs bits c.
    subst
    (λ (n : ℕ). CarriesBits net inputs (take width a ++ replicate (width - length a) top)
    (take width bits ++ replicate (width - n) (if signed then sign_bit bits else false)))
    (carries_length net inputs a bits c)
    (carries_append net inputs (take width a) (replicate (width - length a) top) (take width bits)
    (replicate (width - length a) (if signed then sign_bit bits else false)) (carries_take net inputs width a bits c)
    (carries_replicate net inputs (width - length a) top (if signed then sign_bit bits else false) (fill_stands net inputs signed a bits c)))))
  where
    top : Wire
    top = if signed then get_or a (length a - 1) (Known false) else Known false

-- ---- choices by a word of one bit

chosen_number : (c : Bool) (xs ys : List Bool) → number_of (if c then xs else ys) ≡ (if number_of (c ∷ []) == 1 then number_of xs else number_of ys)
chosen_number true xs ys = refl
chosen_number false xs ys = refl

pub computes_choice : (old new : Netlist) (condition a b r : List Wire) (d : Wire) {n : ℕ} → length condition ≡ 1 → n ≡ length a →
    GivesChosen n (λ bits. bits) old new (get_or condition 0 d) a b r → ComputesChoice old new condition a b r
computes_choice old new [] a b r d one wide gives = absurd (omega (arith, one))
computes_choice old new (c ∷ d ∷ rest) a b r e one wide gives = absurd (omega (arith, one))
computes_choice old new (w ∷ []) a b r d one wide gives = record {
  has = gives.has;
  long = gives.long ∙ wide;
  value = λ inputs test x y cc ca cb. choose inputs test x y cc.bits cc.carries cc.is ca cb;
} where
  choose : (inputs : List Bool) (test x y : ℕ) (bits : List Bool) → CarriesBits old inputs (w ∷ []) bits → number_of bits ≡ test →
      Carries old inputs a x → Carries old inputs b y → Carries new inputs r (if test == 1 then x else y)
  choose inputs test x y [] carries is ca cb = absurd carries.each
  choose inputs test x y (u ∷ v ∷ bits) carries is ca cb = absurd carries.each.1
  choose inputs test x y (u ∷ []) carries is ca cb = record {
    bits = if u then ca.bits else cb.bits;
    carries = gives.value inputs ca.bits cb.bits u carries.each.0 ca.carries cb.carries;
    is =
        chosen_number u ca.bits cb.bits ∙ ap (λ (n : ℕ). if n == 1 then number_of ca.bits else number_of cb.bits) is
        ∙ ap (λ (n : ℕ). if test == 1 then n else number_of cb.bits) ca.is ∙ ap (λ (n : ℕ). if test == 1 then x else n) cb.is;
  }
