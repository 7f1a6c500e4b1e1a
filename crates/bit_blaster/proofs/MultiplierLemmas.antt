-- Products row by row.
use Rattle.std.proofs.Common.{◌≡◌, ℕ, zero, suc, ◌+◌, ◌<◌, Bool, false, List, [], ◌∷◌, length, drop, replicate, min, get_or, refl, sym, ap, ◌∙◌, subst, arith}
use Rattle.std.specs.Prelude.{map, ◌&&◌}
use Rattle.std.proofs.lemmas.List.{drop_all, length-replicate}
use Rattle.std.proofs.lemmas.List.Elements.{All-replicate}
use Rattle.bits_core.specs.Circuit.{bitwise, ripple_sum, shifted_left, shift_and_add}
use Rattle.bits_core.specs.declared.operator.Op.TheVariants.{Mul}
use Rattle.bits_core.proofs.MultiplierLaws.{multiply_by_shifts}
use Rattle.bit_blaster.specs.declared.shifter.Direction.TheVariants.{Left}
use Rattle.bit_blaster.specs.declared.wire.Wire.{Wire}
use Rattle.bit_blaster.specs.declared.wire.Wire.TheVariants.{Known}
use Rattle.bit_blaster.specs.Multiplier.{GivesGated, GivesRows}
use Rattle.bit_blaster.specs.Netlist.{Netlist, HasWire, HasWord, CarriesBits, Extends}
use Rattle.bit_blaster.specs.Shifter.{shifted}
use Rattle.bit_blaster.specs.Word.{GivesBits, GivesSum, Computes}
use Rattle.bit_blaster.proofs.GateLemmas.{known_stands}
use Rattle.bit_blaster.proofs.NetlistLemmas.{has_word_along, carries_bits_along}
use Rattle.bit_blaster.proofs.OperatorLemmas.{computes_by_bits}
use Rattle.bit_blaster.proofs.ShifterLemmas.{carries_replicate, carries_shifted, has_shifted, length_shifted}
use Rattle.bit_blaster.proofs.WordLemmas.{carries_length, carries_at, carries_as}

gated_is : (y : Bool) (xs : List Bool) → bitwise (λ x z. x && z) (replicate (length xs) y) xs ≡ map (λ x. y && x) xs
gated_is y [] = refl
gated_is y (x ∷ xs) = ap (λ (zs : List Bool). (y && x) ∷ zs) (gated_is y xs)

pub has_copies : (net : Netlist) (n : ℕ) (w : Wire) → HasWire net w → HasWord net (replicate n w)
has_copies net n w has = record { each = All-replicate (HasWire net) n w has }

pub gives_gated : (old new : Netlist) (bit : Wire) (word copies r : List Wire) {n : ℕ} → n ≡ length copies →
    copies ≡ replicate (length word) bit → GivesBits n (bitwise (λ x y. x && y)) old new copies word r → GivesGated old new bit word r
gives_gated old new bit word copies r e is gives = record {
  has = gives.has;
  long = gives.long ∙ e ∙ ap length is ∙ length-replicate (length word) bit;
  value = λ inputs xs y s c.
      carries_as new inputs r (bitwise (λ x z. x && z) (replicate (length xs) y) xs) (map (λ x. y && x) xs) (gated_is y xs)
      (gives.value inputs (replicate (length xs) y) xs
      (subst (λ (us : List Wire). CarriesBits old inputs us (replicate (length xs) y)) (sym is)
      (subst (λ (m : ℕ). CarriesBits old inputs (replicate m bit) (replicate (length xs) y)) (sym (carries_length old inputs word xs c))
      (carries_replicate old inputs (length xs) bit y s))) c);
}

pub rows_have : (i : ℕ) (old new : Netlist) (a b total place : List Wire) → GivesRows i old new a b total place → HasWord new place
rows_have i old new a b total place g = g.has_place

pub rows_none : (net : Netlist) (a b total : List Wire) → HasWord net a → total ≡ replicate (length a) (Known false) →
    GivesRows 0 net net a b total a
rows_none net a b total has is = record {
  has = subst (λ (us : List Wire). HasWord net us) (sym is) (has_copies net (length a) (Known false) tt);
  has_place = has;
  long = ap length is ∙ length-replicate (length a) (Known false);
  long_place = refl;
  value = λ inputs xs ys ca cb. record {
    sum = replicate (length xs) false;
    row = xs;
    carries_sum =
        subst (λ (us : List Wire). CarriesBits net inputs us (replicate (length xs) false)) (sym is)
        (subst (λ (m : ℕ). CarriesBits net inputs (replicate m (Known false)) (replicate (length xs) false)) (sym (carries_length net inputs a xs ca))
        (carries_replicate net inputs (length xs) (Known false) false (known_stands net inputs false ca.long)));
    carries_row = ca;
    whole = refl;
  };
}

at_place : (ys : List Bool) (i : ℕ) → i < length ys → drop i ys ≡ get_or ys i false ∷ drop (suc i) ys
at_place [] i within = absurd (omega arith)
at_place (y ∷ ys) zero within = refl
at_place (y ∷ ys) (suc i) within = at_place ys i (omega arith)

one_place : (xs : List Bool) (n : ℕ) → n ≡ length xs → shifted Left false (min 1 n) xs ≡ shifted_left 1 xs
one_place [] n e = let none : min 1 n ≡ 0 = omega arith in ap (λ (k : ℕ). shifted Left false k []) none
one_place (x ∷ xs) n e = let one : min 1 n ≡ 1 = omega arith in ap (λ (k : ℕ). shifted Left false k (x ∷ xs)) one

pub rows_step : (old middle gate new : Netlist) (a b total place row first second sum next : List Wire) (i : ℕ) (d : Wire) → i < length b →
    Extends old middle → Extends middle gate → Extends gate new →
    GivesRows i old middle a b total place → GivesGated middle gate (get_or b i d) place row →
    first ≡ total → second ≡ row → GivesSum (length first) gate new first second (Known false) sum →
    next ≡ shifted Left (Known false) (min 1 (length place)) place → GivesRows (i + 1) old new a b sum next
rows_step old middle gate new a b total place row first second sum next i d within before one two so_far gated e f adds g = record {
  has = adds.has;
  has_place =
      subst (λ (us : List Wire). HasWord new us) (sym g)
      (has_shifted new Left (Known false) (min 1 (length place)) place tt
      (has_word_along gate new place two (has_word_along middle gate place one so_far.has_place)));
  long = adds.long ∙ ap length e ∙ so_far.long;
  long_place = ap length g ∙ length_shifted Left (Known false) (min 1 (length place)) place (omega arith) ∙ so_far.long_place;
  value = λ inputs xs ys ca cb.
      let was = so_far.value inputs xs ys ca cb in
      let y = get_or ys i false in
      let at = before.truths inputs (get_or b i d) y (carries_at old inputs b ys i d cb within) in
      let masked = map (λ x. y && x) was.row in
      let product = shift_and_add (replicate (length xs) false) xs ys in
      let kept = carries_bits_along gate new inputs place was.row two (carries_bits_along middle gate inputs place was.row one was.carries_row) in
      let more : suc i ≡ i + 1 = omega arith in
      record {
        sum = ripple_sum was.sum masked false;
        row = shifted_left 1 was.row;
        carries_sum =
            adds.value inputs was.sum masked false
            (subst (λ (us : List Wire). CarriesBits gate inputs us was.sum) (sym e) (carries_bits_along middle gate inputs total was.sum one was.carries_sum))
            (subst (λ (us : List Wire). CarriesBits gate inputs us masked) (sym f) (gated.value inputs was.row y at was.carries_row))
            (known_stands gate inputs false (carries_bits_along middle gate inputs total was.sum one was.carries_sum).long);
        carries_row =
            subst (λ (us : List Wire). CarriesBits new inputs us (shifted_left 1 was.row)) (sym g)
            (carries_as new inputs (shifted Left (Known false) (min 1 (length place)) place)
            (shifted Left false (min 1 (length place)) was.row) (shifted_left 1 was.row)
            (one_place was.row (length place) (carries_length new inputs place was.row kept))
            (carries_shifted new inputs Left (min 1 (length place)) (Known false) false place was.row (known_stands new inputs false kept.long) kept));
        whole =
            subst (λ (m : ℕ). shift_and_add (ripple_sum was.sum masked false) (shifted_left 1 was.row) (drop m ys) ≡ product) more
            (sym (ap (λ (rest : List Bool). shift_and_add was.sum was.row rest)
            (at_place ys i (omega (arith, carries_length old inputs b ys cb)))) ∙ was.whole);
      };
}

-- the same, as the words are found in the loop's body
pub rows_step_by : (old middle gate new : Netlist) (a b total place row first second third sum next : List Wire) (i : ℕ) (d : Wire) →
    i < length b → Extends old middle → Extends middle gate → Extends gate new →
    GivesRows i old middle a b total place → third ≡ place → GivesGated middle gate (get_or b i d) third row →
    first ≡ total → second ≡ row → GivesSum (length first) gate new first second (Known false) sum →
    next ≡ shifted Left (Known false) (min 1 (length place)) place → GivesRows (i + 1) old new a b sum next
rows_step_by old middle gate new a b total place row first second third sum next i d within before one two so_far h gated e f adds g =
    rows_step old middle gate new a b total place row first second sum next i d within before one two so_far
    (subst (λ (us : List Wire). GivesGated middle gate (get_or b i d) us row) h gated) e f adds g

pub computes_multiply : (old new : Netlist) (a b total place : List Wire) (n : ℕ) → n ≡ length b → GivesRows n old new a b total place →
    Computes Mul old new a b total
computes_multiply old new a b total place n e g =
    computes_by_bits Mul (λ xs ys. shift_and_add (replicate (length xs) false) xs ys) old new a b total refl
    (λ xs ys p q. multiply_by_shifts xs ys)
    (record {
      has = g.has;
      long = g.long;
      value = λ inputs xs ys ca cb.
          let was = g.value inputs xs ys ca cb in
          let none : drop n ys ≡ [] = drop_all n ys (omega (arith, carries_length old inputs b ys cb)) in
          carries_as new inputs total was.sum (shift_and_add (replicate (length xs) false) xs ys)
          (sym (ap (λ (rest : List Bool). shift_and_add was.sum was.row rest) none) ∙ was.whole) was.carries_sum;
    })
