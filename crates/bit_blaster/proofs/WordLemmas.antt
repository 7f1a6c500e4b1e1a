-- Words place by place: what is known of their wires, and the step of each loop over them.
use Rattle.std.proofs.Common.{◌≡◌, ℕ, zero, suc, ◌+◌, ◌<◌, ◌≤◌, Bool, true, false, List, [], ◌∷◌, ◌++◌, length, take, get_or, refl, sym, ap, ◌∙◌, subst, arith}
use Rattle.std.specs.Prelude.{if◌then◌else◌}
use Rattle.std.specs.List.{AllZip}
use Rattle.std.proofs.lemmas.List.{take_all, take_more, length-append}
use Rattle.std.proofs.lemmas.List.Elements.{All-nil, All-push, All-get_or}
use Rattle.bits_core.specs.Circuit.{bitwise, carry_bit, ripple_carry}
use Rattle.bit_blaster.specs.declared.wire.Wire.{Wire}
use Rattle.bit_blaster.specs.Netlist.{Netlist, HasWire, HasWord, StandsFor, CarriesBits, Extends, GivesTwo, GivesThree}
use Rattle.bit_blaster.specs.Word.{GivesBits, GivesCarries, GivesChosen, ripple_carries}
use Rattle.bit_blaster.proofs.NetlistLemmas.{has_word_along, carries_bits_along}

-- ---- two lists

module _ (R : Wire → Bool → Type 0) where
  zip_length : (xs : List Wire) (ys : List Bool) → AllZip R xs ys → length xs ≡ length ys
  zip_length [] [] h = refl
  zip_length [] (y ∷ ys) h = absurd h
  zip_length (x ∷ xs) [] h = absurd h
  zip_length (x ∷ xs) (y ∷ ys) h = ap suc (zip_length xs ys h.1)

  zip_at : (xs : List Wire) (ys : List Bool) (i : ℕ) (d : Wire) → AllZip R xs ys → i < length xs → R (get_or xs i d) (get_or ys i false)
  zip_at [] ys i d h within = absurd (omega arith)
  zip_at (x ∷ xs) [] i d h within = absurd h
  zip_at (x ∷ xs) (y ∷ ys) zero d h within = h.0
  zip_at (x ∷ xs) (y ∷ ys) (suc i) d h within = zip_at xs ys i d h.1 (omega arith)

  zip_append : (xs : List Wire) (ys : List Bool) (us : List Wire) (vs : List Bool) → AllZip R xs ys → AllZip R us vs →
      AllZip R (xs ++ us) (ys ++ vs)
  zip_append [] [] us vs h k = k
  zip_append [] (y ∷ ys) us vs h k = absurd h
  zip_append (x ∷ xs) [] us vs h k = absurd h
  zip_append (x ∷ xs) (y ∷ ys) us vs h k = (h.0, zip_append xs ys us vs h.1 k)

module _ (net : Netlist) (inputs : List Bool) where
  pub carries_length : (word : List Wire) (bits : List Bool) → CarriesBits net inputs word bits → length word ≡ length bits
  carries_length word bits c = zip_length (StandsFor net inputs) word bits c.each

  pub carries_at : (word : List Wire) (bits : List Bool) (i : ℕ) (d : Wire) → CarriesBits net inputs word bits → i < length word →
      StandsFor net inputs (get_or word i d) (get_or bits i false)
  carries_at word bits i d c within = zip_at (StandsFor net inputs) word bits i d c.each within

  pub carries_nothing : length inputs ≡ net.inputs → CarriesBits net inputs [] []
  carries_nothing long = record { long = long; each = tt }

  pub carries_append : (a b : List Wire) (xs ys : List Bool) → CarriesBits net inputs a xs → CarriesBits net inputs b ys →
      CarriesBits net inputs (a ++ b) (xs ++ ys)
  carries_append a b xs ys c d = record { long = c.long; each = zip_append (StandsFor net inputs) a xs b ys c.each d.each }

  pub carries_push : (word : List Wire) (bits : List Bool) (w : Wire) (b : Bool) → CarriesBits net inputs word bits → StandsFor net inputs w b →
      CarriesBits net inputs (word ++ w ∷ []) (bits ++ b ∷ [])
  carries_push word bits w b c s = carries_append word (w ∷ []) bits (b ∷ []) c (record { long = c.long; each = (s, tt) })

  pub carries_as : (word : List Wire) (xs ys : List Bool) → xs ≡ ys → CarriesBits net inputs word xs → CarriesBits net inputs word ys
  carries_as word xs ys e c = subst (λ (bits : List Bool). CarriesBits net inputs word bits) e c

module _ (net : Netlist) where
  pub has_at : (word : List Wire) (i : ℕ) (d : Wire) → HasWord net word → i < length word → HasWire net (get_or word i d)
  has_at word i d has within = All-get_or (HasWire net) word i d within has.each

  pub has_nothing : HasWord net []
  has_nothing = record { each = All-nil (HasWire net) }

  pub has_push : (word : List Wire) (w : Wire) → HasWord net word → HasWire net w → HasWord net (word ++ w ∷ [])
  has_push word w has one = record { each = All-push (HasWire net) word w has.each one }

length_push_is : (word : List Wire) (w : Wire) (n : ℕ) → length word ≡ n → length (word ++ w ∷ []) ≡ n + 1
length_push_is word w n long = omega (arith, length-append word (w ∷ []))

-- ---- the gate at each place

bitwise_more : (f : Bool → Bool → Bool) (xs ys : List Bool) (i : ℕ) → i < length xs → i < length ys →
    bitwise f (take (suc i) xs) (take (suc i) ys) ≡ bitwise f (take i xs) (take i ys) ++ f (get_or xs i false) (get_or ys i false) ∷ []
bitwise_more f [] ys i p q = absurd (omega arith)
bitwise_more f (x ∷ xs) [] i p q = absurd (omega arith)
bitwise_more f (x ∷ xs) (y ∷ ys) zero p q = refl
bitwise_more f (x ∷ xs) (y ∷ ys) (suc i) p q = ap (λ (zs : List Bool). f x y ∷ zs) (bitwise_more f xs ys i (omega arith) (omega arith))

bitwise_cut : (f : Bool → Bool → Bool) (xs ys : List Bool) (i : ℕ) → length xs ≡ i → bitwise f (take i xs) (take i ys) ≡ bitwise f xs ys
bitwise_cut f [] ys zero e = refl
bitwise_cut f [] ys (suc i) e = absurd (omega arith)
bitwise_cut f (x ∷ xs) ys zero e = absurd (omega arith)
bitwise_cut f (x ∷ xs) [] (suc i) e = refl
bitwise_cut f (x ∷ xs) (y ∷ ys) (suc i) e = ap (λ (zs : List Bool). f x y ∷ zs) (bitwise_cut f xs ys i (omega arith))

module _ (f : Bool → Bool → Bool) where
  pub bitwise_none : (net : Netlist) (a b : List Wire) → GivesBits 0 (λ xs ys. bitwise f (take 0 xs) (take 0 ys)) net net a b []
  bitwise_none net a b = record { has = has_nothing net; long = refl; value = λ inputs xs ys ca cb. carries_nothing net inputs ca.long }

  pub bitwise_step : (old middle new : Netlist) (a b word : List Wire) (i : ℕ) (d e r : Wire) → i < length a → length a ≤ length b →
      Extends old middle → Extends middle new →
      GivesBits i (λ xs ys. bitwise f (take i xs) (take i ys)) old middle a b word → GivesTwo f middle new (get_or a i d) (get_or b i e) r →
      GivesBits (i + 1) (λ xs ys. bitwise f (take (i + 1) xs) (take (i + 1) ys)) old new a b (word ++ r ∷ [])
  bitwise_step old middle new a b word i d e r within enough first second so_far gate = record {
    has = has_push new word r (has_word_along middle new word second so_far.has) gate.has;
    long = length_push_is word r i so_far.long;
    value = λ inputs xs ys ca cb.
        let xl : i < length xs = omega (arith, carries_length old inputs a xs ca) in
        let yl : i < length ys = omega (arith, carries_length old inputs b ys cb) in
        let sx = first.truths inputs (get_or a i d) (get_or xs i false) (carries_at old inputs a xs i d ca within) in
        let sy = first.truths inputs (get_or b i e) (get_or ys i false) (carries_at old inputs b ys i e cb (omega arith)) in
        let more : suc i ≡ i + 1 = omega arith in
        carries_as new inputs (word ++ r ∷ []) (bitwise f (take i xs) (take i ys) ++ f (get_or xs i false) (get_or ys i false) ∷ []) _
        (sym (bitwise_more f xs ys i xl yl) ∙ ap (λ (n : ℕ). bitwise f (take n xs) (take n ys)) more)
        (carries_push new inputs word (bitwise f (take i xs) (take i ys)) r (f (get_or xs i false) (get_or ys i false))
        (carries_bits_along middle new inputs word (bitwise f (take i xs) (take i ys)) second (so_far.value inputs xs ys ca cb))
        (gate.value inputs (get_or xs i false) (get_or ys i false) sx sy));
  }

  pub bitwise_all : (old new : Netlist) (a b word : List Wire) (n : ℕ) → n ≡ length a →
      GivesBits n (λ xs ys. bitwise f (take n xs) (take n ys)) old new a b word → GivesBits (length a) (bitwise f) old new a b word
  bitwise_all old new a b word n e so_far = record {
    has = so_far.has;
    long = so_far.long ∙ e;
    value = λ inputs xs ys ca cb.
        carries_as new inputs word (bitwise f (take n xs) (take n ys)) (bitwise f xs ys)
        (bitwise_cut f xs ys n (sym (carries_length old inputs a xs ca) ∙ sym e)) (so_far.value inputs xs ys ca cb);
  }

-- ---- the carries of a row of full adders

carries_more : (xs ys : List Bool) (c : Bool) (i : ℕ) → i < length xs → i < length ys →
    ripple_carries (take (suc i) xs) (take (suc i) ys) c
    ≡ ripple_carries (take i xs) (take i ys) c
    ++ carry_bit (get_or xs i false) (get_or ys i false) (ripple_carry (take i xs) (take i ys) c) ∷ []
carries_more [] ys c i p q = absurd (omega arith)
carries_more (x ∷ xs) [] c i p q = absurd (omega arith)
carries_more (x ∷ xs) (y ∷ ys) c zero p q = refl
carries_more (x ∷ xs) (y ∷ ys) c (suc i) p q =
    ap (λ (zs : List Bool). c ∷ zs) (carries_more xs ys (carry_bit x y c) i (omega arith) (omega arith))

carry_more : (xs ys : List Bool) (c : Bool) (i : ℕ) → i < length xs → i < length ys →
    ripple_carry (take (suc i) xs) (take (suc i) ys) c
    ≡ carry_bit (get_or xs i false) (get_or ys i false) (ripple_carry (take i xs) (take i ys) c)
carry_more [] ys c i p q = absurd (omega arith)
carry_more (x ∷ xs) [] c i p q = absurd (omega arith)
carry_more (x ∷ xs) (y ∷ ys) c zero p q = refl
carry_more (x ∷ xs) (y ∷ ys) c (suc i) p q = carry_more xs ys (carry_bit x y c) i (omega arith) (omega arith)

pub carries_none : (net : Netlist) (a b : List Wire) (first : Wire) → HasWire net first →
    GivesCarries 1 (take 0) (take 0) net net a b first first (first ∷ [])
carries_none net a b first has = record {
  has = has_push net [] first (has_nothing net) has;
  long = refl;
  has_last = has;
  carries = λ inputs xs ys c ca cb s. record { long = s.long; each = (s, tt) };
  last_carry = λ inputs xs ys c ca cb s. s;
}

pub carries_step : (old middle new : Netlist) (a b word : List Wire) (i : ℕ) (first last d e r : Wire) → i < length a → length a ≡ length b →
    Extends old middle → Extends middle new →
    GivesCarries (i + 1) (take i) (take i) old middle a b first last word → GivesThree carry_bit middle new (get_or a i d) (get_or b i e) last r →
    GivesCarries (i + 1 + 1) (take (i + 1)) (take (i + 1)) old new a b first r (word ++ r ∷ [])
carries_step old middle new a b word i first last d e r within enough before after so_far gate = record {
  has = has_push new word r (has_word_along middle new word after so_far.has) gate.has;
  long = length_push_is word r (i + 1) so_far.long;
  has_last = gate.has;
  carries = λ inputs xs ys c ca cb s.
      let l = ripple_carry (take i xs) (take i ys) c in
      carries_as new inputs (word ++ r ∷ [])
      (ripple_carries (take i xs) (take i ys) c ++ carry_bit (get_or xs i false) (get_or ys i false) l ∷ []) _
      (sym (carries_more xs ys c i (omega (arith, carries_length old inputs a xs ca)) (omega (arith, carries_length old inputs b ys cb)))
      ∙ ap (λ (n : ℕ). ripple_carries (take n xs) (take n ys) c) more)
      (carries_push new inputs word (ripple_carries (take i xs) (take i ys) c) r (carry_bit (get_or xs i false) (get_or ys i false) l)
      (carries_bits_along middle new inputs word (ripple_carries (take i xs) (take i ys) c) after (so_far.carries inputs xs ys c ca cb s))
      (out inputs xs ys c ca cb s));
  last_carry = λ inputs xs ys c ca cb s.
      subst (λ (t : Bool). StandsFor new inputs r t)
      (sym (carry_more xs ys c i (omega (arith, carries_length old inputs a xs ca)) (omega (arith, carries_length old inputs b ys cb)))
      ∙ ap (λ (n : ℕ). ripple_carry (take n xs) (take n ys) c) more)
      (out inputs xs ys c ca cb s);
} where
  more : suc i ≡ i + 1
  more = omega arith

  out : (inputs xs ys : List Bool) (c : Bool) → CarriesBits old inputs a xs → CarriesBits old inputs b ys → StandsFor old inputs first c →
      StandsFor new inputs r (carry_bit (get_or xs i false) (get_or ys i false) (ripple_carry (take i xs) (take i ys) c))
  out inputs xs ys c ca cb s =
      gate.value inputs (get_or xs i false) (get_or ys i false) (ripple_carry (take i xs) (take i ys) c)
      (before.truths inputs (get_or a i d) (get_or xs i false) (carries_at old inputs a xs i d ca within))
      (before.truths inputs (get_or b i e) (get_or ys i false) (carries_at old inputs b ys i e cb (omega arith)))
      (so_far.last_carry inputs xs ys c ca cb s)

pub carries_all : (old new : Netlist) (a b word : List Wire) (first last : Wire) (n : ℕ) → n ≡ length a → length a ≡ length b →
    GivesCarries (n + 1) (take n) (take n) old new a b first last word →
    GivesCarries (length a + 1) (λ xs. xs) (λ ys. ys) old new a b first last word
carries_all old new a b word first last n e same so_far = record {
  has = so_far.has;
  long = so_far.long ∙ ap (λ (m : ℕ). m + 1) e;
  has_last = so_far.has_last;
  carries = λ inputs xs ys c ca cb s.
      carries_as new inputs word (ripple_carries (take n xs) (take n ys) c) (ripple_carries xs ys c)
      (ap (λ (zs : List Bool). ripple_carries zs (take n ys) c) (whole inputs a xs ca e)
      ∙ ap (λ (zs : List Bool). ripple_carries xs zs c) (whole inputs b ys cb (e ∙ same)))
      (so_far.carries inputs xs ys c ca cb s);
  last_carry = λ inputs xs ys c ca cb s.
      subst (λ (t : Bool). StandsFor new inputs last t)
      (ap (λ (zs : List Bool). ripple_carry zs (take n ys) c) (whole inputs a xs ca e)
      ∙ ap (λ (zs : List Bool). ripple_carry xs zs c) (whole inputs b ys cb (e ∙ same)))
      (so_far.last_carry inputs xs ys c ca cb s);
} where
  whole : (inputs : List Bool) (d : List Wire) (zs : List Bool) → CarriesBits old inputs d zs → n ≡ length d → take n zs ≡ zs
  whole inputs d zs cd long = take_all n zs (omega (arith, carries_length old inputs d zs cd))

-- ---- a choice at each place

chosen_bits : Bool → List Bool → List Bool → List Bool
chosen_bits c xs ys = if c then xs else ys

chosen_more : (c : Bool) (xs ys : List Bool) (i : ℕ) → i < length xs → i < length ys →
    (if c then take (i + 1) xs else take (i + 1) ys)
    ≡ (if c then take i xs else take i ys) ++ (if c then get_or xs i false else get_or ys i false) ∷ []
chosen_more true xs ys i p q = take_more xs i false p
chosen_more false xs ys i p q = take_more ys i false q

pub chosen_none : (net : Netlist) (condition : Wire) (a b : List Wire) → GivesChosen 0 (take 0) net net condition a b []
chosen_none net condition a b = record { has = has_nothing net; long = refl; value = λ inputs xs ys c s ca cb. nothing inputs c s.long } where
  nothing : (inputs : List Bool) (c : Bool) → length inputs ≡ net.inputs → CarriesBits net inputs [] (if c then [] else [])
  nothing inputs true long = carries_nothing net inputs long
  nothing inputs false long = carries_nothing net inputs long

pub chosen_step : (old middle new : Netlist) (condition : Wire) (a b word : List Wire) (i : ℕ) (d e r : Wire) → i < length a →
    length a ≡ length b → Extends old middle → Extends middle new →
    GivesChosen i (take i) old middle condition a b word → GivesThree (λ c u v. if c then u else v) middle new condition (get_or a i d) (get_or b i e) r →
    GivesChosen (i + 1) (take (i + 1)) old new condition a b (word ++ r ∷ [])
chosen_step old middle new condition a b word i d e r within enough before after so_far gate = record {
  has = has_push new word r (has_word_along middle new word after so_far.has) gate.has;
  long = length_push_is word r i so_far.long;
  value = λ inputs xs ys c s ca cb.
      let so_far_bits = if c then take i xs else take i ys in
      let next = if c then get_or xs i false else get_or ys i false in
      carries_as new inputs (word ++ r ∷ []) (so_far_bits ++ next ∷ []) _
      (sym (chosen_more c xs ys i (omega (arith, carries_length old inputs a xs ca)) (omega (arith, carries_length old inputs b ys cb))))
      (carries_push new inputs word so_far_bits r next
      (carries_bits_along middle new inputs word so_far_bits after (so_far.value inputs xs ys c s ca cb))
      (gate.value inputs c (get_or xs i false) (get_or ys i false) (before.truths inputs condition c s)
      (before.truths inputs (get_or a i d) (get_or xs i false) (carries_at old inputs a xs i d ca within))
      (before.truths inputs (get_or b i e) (get_or ys i false) (carries_at old inputs b ys i e cb (omega arith)))));
}

pub chosen_all : (old new : Netlist) (condition : Wire) (a b word : List Wire) (n : ℕ) → n ≡ length a → length a ≡ length b →
    GivesChosen n (take n) old new condition a b word → GivesChosen (length a) (λ bits. bits) old new condition a b word
chosen_all old new condition a b word n e same so_far = record {
  has = so_far.has;
  long = so_far.long ∙ e;
  value = λ inputs xs ys c s ca cb.
      carries_as new inputs word (if c then take n xs else take n ys) (if c then xs else ys)
      (ap (λ (zs : List Bool). if c then zs else take n ys) (whole inputs a xs ca e)
      ∙ ap (λ (zs : List Bool). if c then xs else zs) (whole inputs b ys cb (e ∙ same)))
      (so_far.value inputs xs ys c s ca cb);
} where
  whole : (inputs : List Bool) (d : List Wire) (zs : List Bool) → CarriesBits old inputs d zs → n ≡ length d → take n zs ≡ zs
  whole inputs d zs cd long = take_all n zs (omega (arith, carries_length old inputs d zs cd))
