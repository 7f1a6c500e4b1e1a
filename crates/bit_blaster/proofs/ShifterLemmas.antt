-- A shifter's stages, on wires and on their bits.
use Rattle.std.proofs.Common.{◌≡◌, ℕ, zero, suc, ◌+◌, ◌-◌, ◌*◌, ◌^◌, ◌<◌, ◌≤◌, Bool, true, false, List, [], ◌∷◌, ◌++◌, length, take, drop, replicate, min, get_or, refl, sym, ap, ◌∙◌, subst, arith, ⊎_elim}
use Rattle.std.specs.Prelude.{◌||◌, if◌then◌else◌, ℤ, pos, negsuc}
use Rattle.std.specs.List.{AllZip}
use Rattle.std.proofs.lemmas.Bool.{cases_lt}
use Rattle.std.proofs.lemmas.List.{take_all, drop_all, take-append-drop, length-append, length-drop, length-take-le, length-replicate}
use Rattle.std.proofs.lemmas.List.Elements.{All-take, All-drop, All-append, All-replicate}
use Rattle.std.specs.Int.{int_div_euclid}
use Rattle.bits_core.specs.BitList.{number_of, sign_bit}
use Rattle.bits_core.specs.Circuit.{barrel_left, barrel_right, shifted_left, shifted_right}
use Rattle.bits_core.specs.Number.{signed_value, wrapped}
use Rattle.bits_core.specs.Operator.{operator_value}
use Rattle.bits_core.specs.declared.operator.Op.TheVariants.{Shl, ShrU, ShrS}
use Rattle.bits_core.proofs.ShifterLaws.{shift_left_by_barrel, shift_right_by_barrel, shift_right_signed_by_barrel}
use Rattle.bit_blaster.specs.declared.shifter.Direction.{Direction}
use Rattle.bit_blaster.specs.declared.shifter.Direction.TheVariants.{Left, Right}
use Rattle.bit_blaster.specs.declared.wire.Wire.{Wire}
use Rattle.bit_blaster.specs.declared.wire.Wire.TheVariants.{Known}
use Rattle.bit_blaster.specs.Netlist.{Netlist, HasWire, HasWord, StandsFor, CarriesBits, Extends, GivesTwo}
use Rattle.bit_blaster.specs.Shifter.{shifted, stage, barrel, some_bit, reduced_amount, GivesSome, GivesReduced, GivesShifted}
use Rattle.bit_blaster.specs.Word.{GivesChosen, Computes}
use Rattle.bit_blaster.proofs.GateLemmas.{known_stands, stands_as}
use Rattle.bit_blaster.proofs.NetlistLemmas.{has_word_along, carries_bits_along}
use Rattle.bit_blaster.proofs.OperatorLemmas.{computes_by_bits}
use Rattle.bit_blaster.proofs.WordLemmas.{carries_length, carries_at, carries_as, carries_push, has_at, has_push}

-- ---- a shift by a fixed number of places

pub length_shifted : {X : Type 0} (direction : Direction) (fill : X) (n : ℕ) (xs : List X) → n ≤ length xs →
    length (shifted direction fill n xs) ≡ length xs
length_shifted Left fill n xs within =
    length-take-le (length xs) (replicate n fill ++ xs) (omega (arith, length-append (replicate n fill) xs))
length_shifted Right fill n xs within =
    omega (arith, length-append (drop n xs) (replicate n fill), length-drop n xs, length-replicate n fill)

pub shifted_left_is : {X : Type 0} (fill : X) (n : ℕ) (xs : List X) → n ≤ length xs →
    replicate n fill ++ take (length xs - n) xs ≡ shifted Left fill n xs
shifted_left_is fill n xs within = go n (length xs - n) (length xs) (omega arith) where
  go : (n m k : ℕ) → k ≡ n + m → replicate n fill ++ take m xs ≡ take k (replicate n fill ++ xs)
  go zero m k e = let same : m ≡ k = omega arith in ap (λ (i : ℕ). take i xs) same
  go (suc n) m zero e = absurd (omega arith)
  go (suc n) m (suc k) e = ap (λ (ys : List _). fill ∷ ys) (go n m k (omega arith))

-- as far as there are places all that is left is what came in
shifted_out : (direction : Direction) (fill : Bool) (n : ℕ) (xs : List Bool) → n ≡ length xs → shifted direction fill n xs ≡ replicate n fill
shifted_out Left fill n xs e =
    sym (shifted_left_is fill n xs (omega arith)) ∙ ap (λ (m : ℕ). replicate n fill ++ take m xs) none ∙ nothing where
      none : length xs - n ≡ 0
      none = omega arith

      nothing : replicate n fill ++ take 0 xs ≡ replicate n fill
      nothing = append_nil (replicate n fill) where
        append_nil : (ys : List Bool) → ys ++ [] ≡ ys
        append_nil [] = refl
        append_nil (y ∷ ys) = ap (λ (zs : List Bool). y ∷ zs) (append_nil ys)
shifted_out Right fill n xs e = ap (λ (ys : List Bool). ys ++ replicate n fill) (drop_all n xs (omega arith))

-- ---- stages

module _ (direction : Direction) (fill : Bool) where
  length_stage : (k : ℕ) (on : Bool) (xs : List Bool) → length (stage direction fill k on xs) ≡ length xs
  length_stage k true xs = length_shifted direction fill (min (2 ^ k) (length xs)) xs (omega arith)
  length_stage k false xs = refl

  length_barrel : (k : ℕ) (xs bs : List Bool) → length (barrel direction fill k xs bs) ≡ length xs
  length_barrel k xs [] = refl
  length_barrel k xs (b ∷ bs) = length_barrel (suc k) (stage direction fill k b xs) bs ∙ length_stage k b xs

  barrel_append : (k m : ℕ) (xs us vs : List Bool) → m ≡ k + length us →
      barrel direction fill k xs (us ++ vs) ≡ barrel direction fill m (barrel direction fill k xs us) vs
  barrel_append k m xs [] vs e = ap (λ (j : ℕ). barrel direction fill j xs vs) (omega arith)
  barrel_append k m xs (u ∷ us) vs e = barrel_append (suc k) m (stage direction fill k u xs) us vs (omega arith)

  barrel_more : (k m : ℕ) (xs bs : List Bool) (i : ℕ) → i < length bs → m ≡ k + i →
      barrel direction fill k xs (take (suc i) bs) ≡ stage direction fill m (get_or bs i false) (barrel direction fill k xs (take i bs))
  barrel_more k m xs [] i within e = absurd (omega arith)
  barrel_more k m xs (b ∷ bs) zero within e = ap (λ (j : ℕ). stage direction fill j b xs) (omega arith)
  barrel_more k m xs (b ∷ bs) (suc i) within e = barrel_more (suc k) m (stage direction fill k b xs) bs i (omega arith) (omega arith)

  -- stages that each shift all out are as good as one
  out_again : (k : ℕ) (on : Bool) (n : ℕ) → n ≤ 2 ^ k → stage direction fill k on (replicate n fill) ≡ replicate n fill
  out_again k false n past = refl
  out_again k true n past =
      let long = length-replicate n fill in
      let least : min (2 ^ k) (length (replicate n fill)) ≡ n = omega (arith, long) in
      ap (λ (m : ℕ). shifted direction fill m (replicate n fill)) least ∙ shifted_out direction fill n (replicate n fill) (sym long)

  stage_out : (k : ℕ) (xs : List Bool) → length xs ≤ 2 ^ k → stage direction fill k true xs ≡ replicate (length xs) fill
  stage_out k xs past =
      let least : min (2 ^ k) (length xs) ≡ length xs = omega arith in
      ap (λ (m : ℕ). shifted direction fill m xs) least ∙ shifted_out direction fill (length xs) xs refl

  next_past : (k n : ℕ) → n ≤ 2 ^ k → n ≤ 2 ^ suc k
  next_past k n past = omega (arith, twice k) where
    twice : (k : ℕ) → 2 ^ suc k ≡ 2 * 2 ^ k
    twice k = omega arith

  barrel_stays : (k n : ℕ) (bs : List Bool) → n ≤ 2 ^ k → barrel direction fill k (replicate n fill) bs ≡ replicate n fill
  barrel_stays k n [] past = refl
  barrel_stays k n (b ∷ bs) past =
      ap (λ (ys : List Bool). barrel direction fill (suc k) ys bs) (out_again k b n past) ∙ barrel_stays (suc k) n bs (next_past k n past)

  stage_later : (k : ℕ) (on : Bool) (xs : List Bool) → length xs ≤ 2 ^ k → stage direction fill (suc k) on xs ≡ stage direction fill k on xs
  stage_later k false xs past = refl
  stage_later k true xs past = stage_out (suc k) xs (next_past k (length xs) past) ∙ sym (stage_out k xs past)

  barrel_gone : (k : ℕ) (xs bs : List Bool) → length xs ≤ 2 ^ k → barrel direction fill k xs bs ≡ stage direction fill k (some_bit bs) xs
  barrel_gone k xs [] past = refl
  barrel_gone k xs (true ∷ bs) past =
      ap (λ (ys : List Bool). barrel direction fill (suc k) ys bs) (stage_out k xs past)
      ∙ barrel_stays (suc k) (length xs) bs (next_past k (length xs) past) ∙ sym (stage_out k xs past)
  barrel_gone k xs (false ∷ bs) past =
      barrel_gone (suc k) xs bs (next_past k (length xs) past) ∙ stage_later k (some_bit bs) xs past

  pub barrel_reduced : (n : ℕ) (xs bs : List Bool) → length xs ≤ 2 ^ n →
      barrel direction fill 0 xs (reduced_amount n bs) ≡ barrel direction fill 0 xs bs
  barrel_reduced n xs bs past =
      ⊎_elim
      (λ (short : length bs < n).
      let all : take n bs ≡ bs = take_all n bs (omega arith) in
      let none : drop n bs ≡ [] = drop_all n bs (omega arith) in
      ap (λ (us : List Bool). barrel direction fill 0 xs (us ++ some_bit (drop n bs) ∷ [])) all
      ∙ ap (λ (us : List Bool). barrel direction fill 0 xs (bs ++ some_bit us ∷ [])) none
      ∙ barrel_append 0 (length bs) xs bs (false ∷ []) (omega arith))
      (λ (long : n ≤ length bs).
      let low = take n bs in
      let cut : n ≡ 0 + length low = omega (arith, length-take-le n bs long) in
      let so_far = barrel direction fill 0 xs low in
      let kept : length so_far ≤ 2 ^ n = omega (arith, length_barrel 0 xs low) in
      barrel_append 0 n xs low (some_bit (drop n bs) ∷ []) cut
      ∙ sym (barrel_gone n so_far (drop n bs) kept)
      ∙ sym (barrel_append 0 n xs low (drop n bs) cut)
      ∙ ap (λ (us : List Bool). barrel direction fill 0 xs us) (take-append-drop n bs))
      (cases_lt (length bs) n)

-- ---- wires that are shifted carry the shifted bits

module _ (R : Wire → Bool → Type 0) where
  zip_take : (n : ℕ) (xs : List Wire) (ys : List Bool) → AllZip R xs ys → AllZip R (take n xs) (take n ys)
  zip_take zero xs ys h = tt
  zip_take (suc n) [] [] h = tt
  zip_take (suc n) [] (y ∷ ys) h = absurd h
  zip_take (suc n) (x ∷ xs) [] h = absurd h
  zip_take (suc n) (x ∷ xs) (y ∷ ys) h = (h.0, zip_take n xs ys h.1)

  zip_drop : (n : ℕ) (xs : List Wire) (ys : List Bool) → AllZip R xs ys → AllZip R (drop n xs) (drop n ys)
  zip_drop zero xs ys h = h
  zip_drop (suc n) [] [] h = tt
  zip_drop (suc n) [] (y ∷ ys) h = absurd h
  zip_drop (suc n) (x ∷ xs) [] h = absurd h
  zip_drop (suc n) (x ∷ xs) (y ∷ ys) h = zip_drop n xs ys h.1

  zip_replicate : (n : ℕ) (x : Wire) (y : Bool) → R x y → AllZip R (replicate n x) (replicate n y)
  zip_replicate zero x y h = tt
  zip_replicate (suc n) x y h = (h, zip_replicate n x y h)

  zip_joined : (xs : List Wire) (ys : List Bool) (us : List Wire) (vs : List Bool) → AllZip R xs ys → AllZip R us vs →
      AllZip R (xs ++ us) (ys ++ vs)
  zip_joined [] [] us vs h k = k
  zip_joined [] (y ∷ ys) us vs h k = absurd h
  zip_joined (x ∷ xs) [] us vs h k = absurd h
  zip_joined (x ∷ xs) (y ∷ ys) us vs h k = (h.0, zip_joined xs ys us vs h.1 k)

  zip_shifted : (direction : Direction) (n : ℕ) (fill : Wire) (c : Bool) (xs : List Wire) (ys : List Bool) → length xs ≡ length ys →
      R fill c → AllZip R xs ys → AllZip R (shifted direction fill n xs) (shifted direction c n ys)
  zip_shifted Left n fill c xs ys e f h =
      subst (λ (m : ℕ). AllZip R (shifted Left fill n xs) (take m (replicate n c ++ ys))) e
      (zip_take (length xs) (replicate n fill ++ xs) (replicate n c ++ ys)
      (zip_joined (replicate n fill) (replicate n c) xs ys (zip_replicate n fill c f) h))
  zip_shifted Right n fill c xs ys e f h =
      zip_joined (drop n xs) (drop n ys) (replicate n fill) (replicate n c) (zip_drop n xs ys h) (zip_replicate n fill c f)

pub carries_take : (net : Netlist) (inputs : List Bool) (n : ℕ) (word : List Wire) (bits : List Bool) → CarriesBits net inputs word bits →
    CarriesBits net inputs (take n word) (take n bits)
carries_take net inputs n word bits c = record { long = c.long; each = zip_take (StandsFor net inputs) n word bits c.each }

pub carries_drop : (net : Netlist) (inputs : List Bool) (n : ℕ) (word : List Wire) (bits : List Bool) → CarriesBits net inputs word bits →
    CarriesBits net inputs (drop n word) (drop n bits)
carries_drop net inputs n word bits c = record { long = c.long; each = zip_drop (StandsFor net inputs) n word bits c.each }

pub carries_replicate : (net : Netlist) (inputs : List Bool) (n : ℕ) (w : Wire) (truth : Bool) → StandsFor net inputs w truth →
    CarriesBits net inputs (replicate n w) (replicate n truth)
carries_replicate net inputs n w truth s = record { long = s.long; each = zip_replicate (StandsFor net inputs) n w truth s }

pub carries_shifted : (net : Netlist) (inputs : List Bool) (direction : Direction) (n : ℕ) (fill : Wire) (c : Bool) (word : List Wire) (bits : List Bool) →
    StandsFor net inputs fill c → CarriesBits net inputs word bits →
    CarriesBits net inputs (shifted direction fill n word) (shifted direction c n bits)
carries_shifted net inputs direction n fill c word bits s cb =
    record { long = cb.long; each = zip_shifted (StandsFor net inputs) direction n fill c word bits (carries_length net inputs word bits cb) s cb.each }

pub has_shifted : (net : Netlist) (direction : Direction) (fill : Wire) (n : ℕ) (word : List Wire) → HasWire net fill → HasWord net word →
    HasWord net (shifted direction fill n word)
has_shifted net Left fill n word one has = record {
  each =
      All-take (HasWire net) (length word) (replicate n fill ++ word)
      (All-append (HasWire net) (replicate n fill) word (All-replicate (HasWire net) n fill one) has.each);
}
has_shifted net Right fill n word one has = record {
  each =
      All-append (HasWire net) (drop n word) (replicate n fill) (All-drop (HasWire net) n word has.each)
      (All-replicate (HasWire net) n fill one);
}

-- ---- whether a bit is true

some_more : (bits : List Bool) (i : ℕ) → i < length bits → some_bit (take (suc i) bits) ≡ (some_bit (take i bits) || get_or bits i false)
some_more [] i within = absurd (omega arith)
some_more (b ∷ bits) zero within = alone b where
  alone : (b : Bool) → (b || false) ≡ (false || b)
  alone true = refl
  alone false = refl
some_more (true ∷ bits) (suc i) within = refl
some_more (false ∷ bits) (suc i) within = some_more bits i (omega arith)

pub some_none : (net : Netlist) (word : List Wire) → GivesSome (take 0) net net word (Known false)
some_none net word = record { has = tt; value = λ inputs bits c. known_stands net inputs false c.long }

pub some_step : (old middle new : Netlist) (word : List Wire) (i : ℕ) (d some r : Wire) → i < length word →
    Extends old middle → GivesSome (take i) old middle word some → GivesTwo (λ x y. x || y) middle new some (get_or word i d) r →
    GivesSome (take (i + 1)) old new word r
some_step old middle new word i d some r within before so_far gate = record {
  has = gate.has;
  value = λ inputs bits c.
      let more : suc i ≡ i + 1 = omega arith in
      stands_as new inputs r (some_bit (take i bits) || get_or bits i false) (some_bit (take (i + 1) bits))
      (sym (some_more bits i (omega (arith, carries_length old inputs word bits c))) ∙ ap (λ (n : ℕ). some_bit (take n bits)) more)
      (gate.value inputs (some_bit (take i bits)) (get_or bits i false) (so_far.value inputs bits c)
      (before.truths inputs (get_or word i d) (get_or bits i false) (carries_at old inputs word bits i d c within)));
}

pub some_all : (old new : Netlist) (word : List Wire) (r : Wire) (n : ℕ) → n ≡ length word → GivesSome (take n) old new word r →
    GivesSome (λ bits. bits) old new word r
some_all old new word r n e so_far = record {
  has = so_far.has;
  value = λ inputs bits c.
      stands_as new inputs r (some_bit (take n bits)) (some_bit bits)
      (ap some_bit (take_all n bits (omega (arith, carries_length old inputs word bits c)))) (so_far.value inputs bits c);
}

-- ---- the amount cut to the stages

take_least : (n : ℕ) (bits : List Bool) → take (min n (length bits)) bits ≡ take n bits
take_least n bits =
    ⊎_elim
    (λ (short : length bits < n).
    let least : min n (length bits) ≡ length bits = omega arith in
    ap (λ (m : ℕ). take m bits) least ∙ take_all (length bits) bits (omega arith) ∙ sym (take_all n bits (omega arith)))
    (λ (long : n ≤ length bits).
    let least : min n (length bits) ≡ n = omega arith in ap (λ (m : ℕ). take m bits) least)
    (cases_lt (length bits) n)

drop_least : (n : ℕ) (bits : List Bool) → drop (min n (length bits)) bits ≡ drop n bits
drop_least n bits =
    ⊎_elim
    (λ (short : length bits < n).
    let least : min n (length bits) ≡ length bits = omega arith in
    ap (λ (m : ℕ). drop m bits) least ∙ drop_all (length bits) bits (omega arith) ∙ sym (drop_all n bits (omega arith)))
    (λ (long : n ≤ length bits).
    let least : min n (length bits) ≡ n = omega arith in ap (λ (m : ℕ). drop m bits) least)
    (cases_lt (length bits) n)

pub has_drop : (net : Netlist) (n : ℕ) (word : List Wire) → HasWord net word → HasWord net (drop n word)
has_drop net n word has = record { each = All-drop (HasWire net) n word has.each }

pub gives_reduced : (old new : Netlist) (amount : List Wire) (stages low : ℕ) (above : Wire) → low ≡ min stages (length amount) →
    HasWord old amount → Extends old new → GivesSome (λ bits. bits) old new (drop low amount) above →
    GivesReduced stages old new amount (take low amount ++ above ∷ [])
gives_reduced old new amount stages low above e has after some = record {
  has =
      has_push new (take low amount) above
      (has_word_along old new (take low amount) after (record { each = All-take (HasWire old) low amount has.each })) some.has;
  value = λ inputs bits c.
      let same : low ≡ min stages (length bits) = e ∙ ap (λ (n : ℕ). min stages n) (carries_length old inputs amount bits c) in
      carries_as new inputs (take low amount ++ above ∷ []) (take low bits ++ some_bit (drop low bits) ∷ []) (reduced_amount stages bits)
      (ap (λ (n : ℕ). take n bits ++ some_bit (drop n bits) ∷ []) same
      ∙ ap (λ (us : List Bool). us ++ some_bit (drop (min stages (length bits)) bits) ∷ []) (take_least stages bits)
      ∙ ap (λ (us : List Bool). take stages bits ++ some_bit us ∷ []) (drop_least stages bits))
      (carries_push new inputs (take low amount) (take low bits) above (some_bit (drop low bits))
      (carries_bits_along old new inputs (take low amount) (take low bits) after (carries_take old inputs low amount bits c))
      (some.value inputs (drop low bits) (carries_drop old inputs low amount bits c)));
}

-- ---- a stage for each bit of the amount

pub next_places : (i p n : ℕ) → p ≡ min (2 ^ i) n → n < 2 ^ 64 → min (min (p * 2) (2 ^ 64 - 1)) n ≡ min (2 ^ (i + 1)) n
next_places i p n e fits =
    let more : suc i ≡ i + 1 = omega arith in
    subst (λ (m : ℕ). min (min (p * 2) (2 ^ 64 - 1)) n ≡ min (2 ^ m) n) more (omega (arith, twice i))
  where
    twice : (k : ℕ) → 2 ^ suc k ≡ 2 * 2 ^ k
    twice k = omega arith

pub shifted_none : (net : Netlist) (direction : Direction) (fill : Wire) (a amount : List Wire) → HasWord net a →
    GivesShifted direction (take 0) net net fill a amount a
shifted_none net direction fill a amount has = record { has = has; long = refl; value = λ inputs xs bits c s ca cb. ca }

pub shifted_step : (direction : Direction) (old middle new : Netlist) (fill : Wire) (a amount word r : List Wire) (i p : ℕ) (d : Wire) {n : ℕ} →
    i < length amount → n ≡ length word → p ≡ min (2 ^ i) (length a) → Extends old middle →
    GivesShifted direction (take i) old middle fill a amount word →
    GivesChosen n (λ bits. bits) middle new (get_or amount i d) (shifted direction fill p word) word r →
    GivesShifted direction (take (i + 1)) old new fill a amount r
shifted_step direction old middle new fill a amount word r i p d within wide e before so_far gate = record {
  has = gate.has;
  long = gate.long ∙ wide ∙ so_far.long;
  value = λ inputs xs bits c s ca cb.
      let ys = barrel direction c 0 xs (take i bits) in
      let on = get_or bits i false in
      let carried = so_far.value inputs xs bits c s ca cb in
      let long : length ys ≡ length a = sym (carries_length middle inputs word ys carried) ∙ so_far.long in
      let same : (if on then shifted direction c p ys else ys) ≡ stage direction c i on ys =
      ap (λ (m : ℕ). if on then shifted direction c m ys else ys) (e ∙ ap (λ (m : ℕ). min (2 ^ i) m) (sym long)) in
      let more : suc i ≡ i + 1 = omega arith in
      carries_as new inputs r (if on then shifted direction c p ys else ys) (barrel direction c 0 xs (take (i + 1) bits))
      (same ∙ sym (barrel_more direction c 0 i xs bits i (omega (arith, carries_length old inputs amount bits cb)) (omega arith))
      ∙ ap (λ (m : ℕ). barrel direction c 0 xs (take m bits)) more)
      (gate.value inputs (shifted direction c p ys) ys on
      (before.truths inputs (get_or amount i d) on (carries_at old inputs amount bits i d cb within))
      (carries_shifted middle inputs direction p fill c word ys (before.truths inputs fill c s) carried) carried);
}

-- the same, as the words are found in the loop's body
pub shifted_step_by : (direction : Direction) (old middle new : Netlist) (fill : Wire) (a amount word was further first second r : List Wire)
    (i p : ℕ) (d : Wire) → i < length amount → p ≡ min (2 ^ i) (length a) → was ≡ word → further ≡ shifted direction fill p was →
    first ≡ further → second ≡ word → Extends old middle → GivesShifted direction (take i) old middle fill a amount word →
    GivesChosen (length first) (λ bits. bits) middle new (get_or amount i d) first second r →
    GivesShifted direction (take (i + 1)) old new fill a amount r
shifted_step_by direction old middle new fill a amount word was further first second r i p d within e now is one two before so_far gate =
    let moved : first ≡ shifted direction fill p word = one ∙ is ∙ ap (λ (us : List Wire). shifted direction fill p us) now in
    let wide : length first ≡ length word = ap length moved ∙ length_shifted direction fill p word (omega (arith, so_far.long)) in
    shifted_step direction old middle new fill a amount word r i p d within wide e before so_far
    (subst (λ (us : List Wire). GivesChosen (length first) (λ bits. bits) middle new (get_or amount i d) us word r) moved
    (subst (λ (us : List Wire). GivesChosen (length first) (λ bits. bits) middle new (get_or amount i d) first us r) two gate))

pub shifted_all : (direction : Direction) (old new : Netlist) (fill : Wire) (a amount r : List Wire) (n : ℕ) → n ≡ length amount →
    GivesShifted direction (take n) old new fill a amount r → GivesShifted direction (λ bits. bits) old new fill a amount r
shifted_all direction old new fill a amount r n e so_far = record {
  has = so_far.has;
  long = so_far.long;
  value = λ inputs xs bits c s ca cb.
      carries_as new inputs r (barrel direction c 0 xs (take n bits)) (barrel direction c 0 xs bits)
      (ap (λ (us : List Bool). barrel direction c 0 xs us) (take_all n bits (omega (arith, carries_length old inputs amount bits cb))))
      (so_far.value inputs xs bits c s ca cb);
}

pub gives_shift : (direction : Direction) (old middle new : Netlist) (fill : Wire) (a b amount r : List Wire) (stages : ℕ) →
    length a ≤ 2 ^ stages → Extends old middle → GivesReduced stages old middle b amount →
    GivesShifted direction (λ bits. bits) middle new fill a amount r → GivesShifted direction (λ bits. bits) old new fill a b r
gives_shift direction old middle new fill a b amount r stages enough before reduced gives = record {
  has = gives.has;
  long = gives.long;
  value = λ inputs xs bits c s ca cb.
      carries_as new inputs r (barrel direction c 0 xs (reduced_amount stages bits)) (barrel direction c 0 xs bits)
      (barrel_reduced direction c stages xs bits (subst (λ (n : ℕ). n ≤ 2 ^ stages) (carries_length old inputs a xs ca) enough))
      (gives.value inputs xs (reduced_amount stages bits) c (before.truths inputs fill c s) (carries_bits_along old middle inputs a xs before ca)
      (reduced.value inputs bits cb));
}

-- ---- the operators

barrel_left_is : (k : ℕ) (xs bs : List Bool) → barrel Left false k xs bs ≡ barrel_left k xs bs
barrel_left_is k xs [] = refl
barrel_left_is k xs (true ∷ bs) = barrel_left_is (suc k) (shifted_left (min (2 ^ k) (length xs)) xs) bs
barrel_left_is k xs (false ∷ bs) = barrel_left_is (suc k) xs bs

barrel_right_is : (fill : Bool) (k : ℕ) (xs bs : List Bool) → barrel Right fill k xs bs ≡ barrel_right fill k xs bs
barrel_right_is fill k xs [] = refl
barrel_right_is fill k xs (true ∷ bs) = barrel_right_is fill (suc k) (shifted_right fill (min (2 ^ k) (length xs)) xs) bs
barrel_right_is fill k xs (false ∷ bs) = barrel_right_is fill (suc k) xs bs

-- of no width there is one number
pub wrapped_none : (z : ℤ) → 0 ≡ wrapped 0 z
wrapped_none (pos n) = omega arith
wrapped_none (negsuc n) = omega arith

signed_law : (xs bs : List Bool) →
    number_of (barrel_right (sign_bit xs) 0 xs bs) ≡ operator_value ShrS (length xs) (number_of xs) (length bs) (number_of bs)
signed_law [] bs =
    ap number_of (stays 0 bs) ∙ wrapped_none (int_div_euclid (signed_value 0 0) (pos (2 ^ min (number_of bs) 0)))
  where
    none : (k : ℕ) → shifted_right false (min (2 ^ k) 0) [] ≡ []
    none k = let least : min (2 ^ k) 0 ≡ 0 = omega arith in ap (λ (n : ℕ). shifted_right false n []) least

    stays : (k : ℕ) (bs : List Bool) → barrel_right false k [] bs ≡ []
    stays k [] = refl
    stays k (true ∷ bs) = ap (λ (ys : List Bool). barrel_right false (suc k) ys bs) (none k) ∙ stays (suc k) bs
    stays k (false ∷ bs) = stays (suc k) bs
signed_law (x ∷ xs) bs = shift_right_signed_by_barrel (x ∷ xs) bs (omega arith)

pub sign_stands : (net : Netlist) (inputs : List Bool) (word : List Wire) (bits : List Bool) → CarriesBits net inputs word bits →
    StandsFor net inputs (get_or word (length word - 1) (Known false)) (sign_bit bits)
sign_stands net inputs [] [] c = known_stands net inputs false c.long
sign_stands net inputs [] (b ∷ bits) c = absurd c.each
sign_stands net inputs (w ∷ word) bits c =
    stands_as net inputs (get_or (w ∷ word) (length (w ∷ word) - 1) (Known false)) (get_or bits (length (w ∷ word) - 1) false) (sign_bit bits)
    (ap (λ (n : ℕ). get_or bits (n - 1) false) (carries_length net inputs (w ∷ word) bits c))
    (carries_at net inputs (w ∷ word) bits (length (w ∷ word) - 1) (Known false) c (omega arith))

pub has_sign : (net : Netlist) (word : List Wire) → HasWord net word → HasWire net (get_or word (length word - 1) (Known false))
has_sign net [] has = tt
has_sign net (w ∷ word) has = has_at net (w ∷ word) (length (w ∷ word) - 1) (Known false) has (omega arith)

module _ (old new : Netlist) (a b r : List Wire) where
  pub computes_left : GivesShifted Left (λ bits. bits) old new (Known false) a b r → Computes Shl old new a b r
  computes_left g =
      computes_by_bits Shl (λ xs bs. barrel Left false 0 xs bs) old new a b r refl
      (λ xs bs p q. ap number_of (barrel_left_is 0 xs bs) ∙ shift_left_by_barrel xs bs)
      (record {
        has = g.has;
        long = g.long;
        value = λ inputs xs bs ca cb. g.value inputs xs bs false (known_stands old inputs false ca.long) ca cb;
      })

  pub computes_right : GivesShifted Right (λ bits. bits) old new (Known false) a b r → Computes ShrU old new a b r
  computes_right g =
      computes_by_bits ShrU (λ xs bs. barrel Right false 0 xs bs) old new a b r refl
      (λ xs bs p q. ap number_of (barrel_right_is false 0 xs bs) ∙ shift_right_by_barrel xs bs)
      (record {
        has = g.has;
        long = g.long;
        value = λ inputs xs bs ca cb. g.value inputs xs bs false (known_stands old inputs false ca.long) ca cb;
      })

  pub computes_right_signed : (sign : Wire) → sign ≡ get_or a (length a - 1) (Known false) →
      GivesShifted Right (λ bits. bits) old new sign a b r → Computes ShrS old new a b r
  computes_right_signed sign e g =
      computes_by_bits ShrS (λ xs bs. barrel Right (sign_bit xs) 0 xs bs) old new a b r refl
      (λ xs bs p q. ap number_of (barrel_right_is (sign_bit xs) 0 xs bs) ∙ signed_law xs bs)
      (record {
        has = g.has;
        long = g.long;
        value = λ inputs xs bs ca cb.
            g.value inputs xs bs (sign_bit xs)
            (subst (λ (w : Wire). StandsFor old inputs w (sign_bit xs)) (sym e) (sign_stands old inputs a xs ca)) ca cb;
      })
