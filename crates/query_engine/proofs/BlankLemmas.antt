-- A point is made a bit at a time, and then the bits are given their values.
use Rattle.std.proofs.Common.{◌≡◌, ◌≢◌, ℕ, zero, suc, ◌+◌, ◌-◌, ◌<◌, ◌≤◌, ◌⊎◌, inl, inr, Bool, true, false, List, [], ◌∷◌, Some, length, slice_get, get_or, nat_eq, refl, sym, ap, subst, ◌∙◌, true≢false, arith}
use Rattle.std.specs.Prelude.{slice_set, max}
use Rattle.std.specs.List.{AllPairs, Contains}
use Rattle.std.proofs.lemmas.Bool.{cases_Bool, eqb-true, eq-eqb}
use Rattle.std.proofs.lemmas.Option.{slice_get_within, slice_get-get_or, get_or_from_slice_get}
use Rattle.bits_core.specs.BitList.{bits_of}
use Rattle.bits_core.specs.declared.number.Bits.{Bits}
use Rattle.bits_core.specs.declared.points.Point.{Point}
use Rattle.cnf_core.specs.declared.derivation.Var.{Var}
use Rattle.cnf_core.specs.declared.derivation.Var.TheVariants.{Input, Read}
use Rattle.bit_blaster.specs.Vars.{HasBit, HasBits, IsBefore}
use Rattle.query_engine.specs.Blank.{Adds, AreZeros, HasWidth, IsBlank, KeepsBits, Pads, Sets, Widens}
use Rattle.query_engine.proofs.BitLemmas.{bit_within, zero_bits}
use Rattle.query_engine.proofs.ListLemmas.{some_same, get_set_same, get_set_other, zip_from}

-- ---- variables and numbers are the same or not

pub same_or_not : (a b : ℕ) → (a ≡ b) ⊎ (a ≢ b)
same_or_not a b = elim (cases_Bool (nat_eq a b)) [
  | inl e ↦ inl (eqb-true a b e)
  | inr e ↦ inr (λ h. true≢false (sym (eq-eqb a b h) ∙ e))
]

abbrev is_read : Var → Bool
is_read (Input bit) = false
is_read (Read read bit) = true

abbrev input_of : Var → ℕ
input_of (Input bit) = bit
input_of (Read read bit) = 0

abbrev read_of : Var → ℕ
read_of (Input bit) = 0
read_of (Read read bit) = read

abbrev bit_of : Var → ℕ
bit_of (Input bit) = 0
bit_of (Read read bit) = bit

pub var_or_not : (u v : Var) → (u ≡ v) ⊎ (u ≢ v)
var_or_not (Input a) (Input b) = elim (same_or_not a b) [
  | inl e ↦ inl (ap Input e)
  | inr d ↦ inr (λ e. d (ap input_of e))
]
var_or_not (Input a) (Read s b) = inr (λ e. true≢false (sym (ap is_read e)))
var_or_not (Read r a) (Input b) = inr (λ e. true≢false (ap is_read e))
var_or_not (Read r a) (Read s b) = elim (same_or_not r s) [
  | inr d ↦ inr (λ e. d (ap read_of e))
  | inl e ↦ elim (same_or_not a b) [
    | inl h ↦ inl (λ i. Read (e i) (h i))
    | inr d ↦ inr (λ h. d (ap bit_of h))
  ]
]

before_differs : (u v : Var) → IsBefore u v → u ≢ v
before_differs (Input a) (Input b) l e = let h : a ≡ b = ap input_of e in omega arith
before_differs (Input a) (Read s b) l e = true≢false (sym (ap is_read e))
before_differs (Read r a) (Input b) l e = absurd l
before_differs (Read r a) (Read s b) (inl l) e = let h : r ≡ s = ap read_of e in omega arith
before_differs (Read r a) (Read s b) (inr l) e = let h : a ≡ b = ap bit_of e in omega (arith, l.1)

-- ---- bits by the fields that they are read from

by_inputs : (p q : Point) (bit : ℕ) (b : Bool) → slice_get q.inputs bit ≡ slice_get p.inputs bit → HasBit p (Input bit) b → HasBit q (Input bit) b
by_inputs p q bit b e has = e ∙ has

by_reads : (p q : Point) (read bit : ℕ) (b : Bool) → slice_get q.reads read ≡ slice_get p.reads read → HasBit p (Read read bit) b →
    HasBit q (Read read bit) b
by_reads p q read bit b e has = (has.0, e ∙ has.1, has.2)

width_by_reads : (p q : Point) (read width : ℕ) → slice_get q.reads read ≡ slice_get p.reads read → HasWidth p read width → HasWidth q read width
width_by_reads p q read width e has = (has.0, e ∙ has.1, has.2)

at_reads : (p q : Point) (read : ℕ) → q.reads ≡ p.reads → slice_get q.reads read ≡ slice_get p.reads read
at_reads p q read e = ap (λ (l : List Bits). slice_get l read) e

at_inputs : (p q : Point) (bit : ℕ) → q.inputs ≡ p.inputs → slice_get q.inputs bit ≡ slice_get p.inputs bit
at_inputs p q bit e = ap (λ (l : List Bool). slice_get l bit) e

bit_of_number : (x y : Bits) (k : ℕ) (b : Bool) → x ≡ y → slice_get (bits_of x.width x.value) k ≡ Some b → slice_get (bits_of y.width y.value) k ≡ Some b
bit_of_number x y k b e at = subst (λ (z : Bits). slice_get (bits_of z.width z.value) k ≡ Some b) e at

zero_bit : (y : Bits) (k : ℕ) → y.value ≡ 0 → k < y.width → slice_get (bits_of y.width y.value) k ≡ Some false
zero_bit y k e l = subst (λ (n : ℕ). slice_get (bits_of y.width n) k ≡ Some false) (sym e) (zero_bits y.width k l)

-- ---- room for a bit

pub adds_input : (bit : ℕ) (old new : Point) → AreZeros old → bit < length new.inputs → Pads (λ b. b ≡ false) old.inputs new.inputs →
    new.reads ≡ old.reads → Adds (Input bit) old new
adds_input bit old new are within pads same = record {
  there = zero (slice_get_there new.inputs bit within);
  zeros = zeros;
  inputs = all;
  tight = λ read width h. inr (inr (width_by_reads new old read width (sym (at_reads old new read same)) h));
} where
  slice_get_there : (l : List Bool) (k : ℕ) → k < length l → (b : Bool) × (slice_get l k ≡ Some b)
  slice_get_there [] k l = absurd (omega arith)
  slice_get_there (x ∷ xs) zero l = (x, refl)
  slice_get_there (x ∷ xs) (suc k) l = slice_get_there xs k (omega arith)

  all : AreZeros new
  all k b at = elim (pads.added k b at) [
    | inl was ↦ are k b was
    | inr is ↦ is
  ]

  zero : (b : Bool) × (slice_get new.inputs bit ≡ Some b) → slice_get new.inputs bit ≡ Some false
  zero (b, at) = at ∙ ap Some (all bit b at)

  zeros : (u : Var) → HasBit old u false → HasBit new u false
  zeros (Input k) has = pads.kept k false has
  zeros (Read read k) has = by_reads old new read k false (at_reads old new read same) has

pub adds_read : (read bit : ℕ) (old new : Point) (mid : List Bits) → AreZeros old → Pads (λ x. x.width ≡ 1) old.reads mid →
    Widens read bit mid new.reads → new.inputs ≡ old.inputs → Adds (Read read bit) old new
adds_read read bit old new mid are pads widens same = record {
  there = (widens.now, at_read, zero_bit widens.now bit widens.zero (omega (arith, widens.width)));
  zeros = zeros;
  inputs = λ k b at. are k b (sym (at_inputs old new k same) ∙ at);
  tight = tight;
} where
  within : read < length mid
  within = slice_get_within mid read widens.was widens.there

  at_read : slice_get new.reads read ≡ Some widens.now
  at_read = ap (λ (l : List Bits). slice_get l read) widens.set ∙ get_set_same mid read widens.now within

  at_other : (r : ℕ) → r ≢ read → slice_get new.reads r ≡ slice_get mid r
  at_other r d = ap (λ (l : List Bits). slice_get l r) widens.set ∙ get_set_other mid read r widens.now d

  zeros : (u : Var) → HasBit old u false → HasBit new u false
  zeros (Input k) has = by_inputs old new k false (at_inputs old new k same) has
  zeros (Read r k) has = elim (same_or_not r read) [
    | inr d ↦ (has.0, at_other r d ∙ pads.kept r has.0 has.1, has.2)
    | inl e ↦ (
      widens.now,
      ap (λ (n : ℕ). slice_get new.reads n) e ∙ at_read,
      zero_bit widens.now k widens.zero (wide e),
    )
  ] where
    wide : r ≡ read → k < widens.now.width
    wide e =
        let was : has.0 ≡ widens.was =
        some_same has.0 widens.was (sym (pads.kept r has.0 has.1) ∙ ap (λ (n : ℕ). slice_get mid n) e ∙ widens.there) in
        omega (arith, bit_within has.0.width has.0.value k false has.2, ap (λ (x : Bits). x.width) was, widens.width)

  tight : (r width : ℕ) → HasWidth new r width → (width ≡ 1) ⊎ ((Read read bit ≡ Read r (width - 1)) ⊎ HasWidth old r width)
  tight r width h = elim (same_or_not r read) [
    | inr d ↦ was r width h.0 (sym (at_other r d) ∙ h.1) h.2
    | inl e ↦ at_it e (max_cases widens.was.width (bit + 1))
  ] where
    was : (r width : ℕ) (x : Bits) → slice_get mid r ≡ Some x → x.width ≡ width → (width ≡ 1) ⊎ ((Read read bit ≡ Read r (width - 1)) ⊎ HasWidth old r width)
    was r width x at is = elim (pads.added r x at) [
      | inl o ↦ inr (inr (x, o, is))
      | inr one ↦ inl (sym is ∙ one)
    ]

    max_cases : (a b : ℕ) → (max a b ≡ a) ⊎ (max a b ≡ b)
    max_cases a b = grind arith

    at_it : r ≡ read → (max widens.was.width (bit + 1) ≡ widens.was.width) ⊎ (max widens.was.width (bit + 1) ≡ bit + 1) →
        (width ≡ 1) ⊎ ((Read read bit ≡ Read r (width - 1)) ⊎ HasWidth old r width)
    at_it e which =
        let x : h.0 ≡ widens.now = some_same h.0 widens.now (sym h.1 ∙ ap (λ (n : ℕ). slice_get new.reads n) e ∙ at_read) in
        let w : max widens.was.width (bit + 1) ≡ width = sym widens.width ∙ sym (ap (λ (y : Bits). y.width) x) ∙ h.2 in
        elim which [
          | inl old_width ↦ was r width widens.was (ap (λ (n : ℕ). slice_get mid n) e ∙ widens.there) (sym old_width ∙ w)
          | inr new_width ↦ inr (inl (λ i. Read (sym e i) (low (sym new_width ∙ w) i)))
        ]
      where
        low : bit + 1 ≡ width → bit ≡ width - 1
        low h = omega arith

-- ---- points with certain bits

pub blank_none : (P : Var → Type 0) → ((v : Var) → P v → ⊥) → (p : Point) → p.inputs ≡ [] → p.reads ≡ [] → IsBlank P p
blank_none P none p inputs reads = record {
  zeros = λ v is. absurd (none v is);
  inputs = λ k b at. absurd (nothing k b (sym (ap (λ (l : List Bool). slice_get l k) inputs) ∙ at));
  tight = λ read width h. absurd (no_read read h.0 (sym (ap (λ (l : List Bits). slice_get l read) reads) ∙ h.1));
} where
  nothing : (k : ℕ) (b : Bool) → slice_get {X = Bool} [] k ≡ Some b → ⊥
  nothing k b at = omega (arith, slice_get_within {A = Bool} [] k b at)

  no_read : (k : ℕ) (b : Bits) → slice_get {X = Bits} [] k ≡ Some b → ⊥
  no_read k b at = omega (arith, slice_get_within {A = Bits} [] k b at)

pub blank_more : (P Q : Var → Type 0) (v : Var) (old new : Point) → IsBlank P old → Adds v old new →
    ((u : Var) → Q u → P u ⊎ (u ≡ v)) → ((u : Var) → P u → Q u) → Q v → IsBlank Q new
blank_more P Q v old new blank adds either up here = record {
  zeros = λ u is. zero u (either u is);
  inputs = adds.inputs;
  tight = λ read width h. tight read width (adds.tight read width h);
} where
  zero : (u : Var) → P u ⊎ (u ≡ v) → HasBit new u false
  zero u (inl is) = adds.zeros u (blank.zeros u is)
  zero u (inr e) = subst (λ (w : Var). HasBit new w false) (sym e) adds.there

  tight : (read width : ℕ) → (width ≡ 1) ⊎ ((v ≡ Read read (width - 1)) ⊎ HasWidth old read width) → (width ≡ 1) ⊎ Q (Read read (width - 1))
  tight read width (inl one) = inl one
  tight read width (inr (inl e)) = inr (subst Q e here)
  tight read width (inr (inr h)) = elim (blank.tight read width h) [
    | inl one ↦ inl one
    | inr is ↦ inr (up (Read read (width - 1)) is)
  ]

pub blank_along : (P Q : Var → Type 0) (p : Point) → ((v : Var) → P v → Q v) → ((v : Var) → Q v → P v) → IsBlank P p → IsBlank Q p
blank_along P Q p to from blank = record {
  zeros = λ v is. blank.zeros v (from v is);
  inputs = blank.inputs;
  tight = λ read width h. tight read width (blank.tight read width h);
} where
  tight : (read width : ℕ) → (width ≡ 1) ⊎ P (Read read (width - 1)) → (width ≡ 1) ⊎ Q (Read read (width - 1))
  tight read width (inl one) = inl one
  tight read width (inr is) = inr (to (Read read (width - 1)) is)

-- the variable is among the first n
abbrev pub IsAmong : List Var → ℕ → Var → Type 0
IsAmong vars n v = (k : ℕ) × (k < n) × (slice_get vars k ≡ Some v)

pub blank_next : (vars : List Var) (n : ℕ) (old new : Point) (v : Var) → slice_get vars n ≡ Some v → IsBlank (IsAmong vars n) old →
    Adds v old new → IsBlank (IsAmong vars (n + 1)) new
blank_next vars n old new v at blank adds =
    blank_more (IsAmong vars n) (IsAmong vars (n + 1)) v old new blank adds (λ u h. either u h.0 h.1 h.2)
    (λ u h. (h.0, omega (arith, h.1), h.2)) (n, omega arith, at)
  where
    before_or_it : (k : ℕ) → k < n + 1 → (k < n) ⊎ (k ≡ n)
    before_or_it k l = grind arith

    either : (u : Var) (k : ℕ) → k < n + 1 → slice_get vars k ≡ Some u → IsAmong vars n u ⊎ (u ≡ v)
    either u k l atu = elim (before_or_it k l) [
      | inl before ↦ inl (k, before, atu)
      | inr e ↦ inr (some_same u v (sym atu ∙ ap (λ (j : ℕ). slice_get vars j) e ∙ at))
    ]

pub blank_all : (vars : List Var) (n : ℕ) (p : Point) → length vars ≤ n → IsBlank (IsAmong vars n) p → IsBlank (Contains vars) p
blank_all vars n p l blank =
    blank_along (IsAmong vars n) (Contains vars) p
    (λ v h. (h.0, slice_get_within vars h.0 v h.2, get_or_from_slice_get vars h.0 v v h.2))
    (λ v h. (h.0, omega (arith, h.1), slice_get-get_or vars h.0 v h.1 ∙ ap Some h.2)) blank

-- ---- values of bits

pub keeps_itself : (p : Point) → KeepsBits p p
keeps_itself p = record { bits = λ u b has. (b, has); widths = λ read width h. h }

pub keeps_both : (p q r : Point) → KeepsBits p q → KeepsBits q r → KeepsBits p r
keeps_both p q r h k = record {
  bits = λ u b has. let c = h.bits u b has in k.bits u c.0 c.1;
  widths = λ read width w. h.widths read width (k.widths read width w);
}

sets_if : (v : Var) (truth : Bool) (old new : Point) → HasBit new v truth → ((u : Var) (b : Bool) → u ≢ v → HasBit old u b → HasBit new u b) →
    ((read width : ℕ) → HasWidth new read width → HasWidth old read width) → Sets v truth old new
sets_if v truth old new there others widths = record {
  there = there;
  others = others;
  keeps = record { bits = bits; widths = widths };
} where
  bits : (u : Var) (b : Bool) → HasBit old u b → (c : Bool) × HasBit new u c
  bits u b has = elim (var_or_not u v) [
    | inl e ↦ (truth, subst (λ (w : Var). HasBit new w truth) (sym e) there)
    | inr d ↦ (b, others u b d has)
  ]

pub sets_nothing : (v : Var) (p : Point) → HasBit p v false → Sets v false p p
sets_nothing v p has = sets_if v false p p has (λ u b d h. h) (λ read width h. h)

pub sets_input : (bit : ℕ) (old new : Point) → HasBit old (Input bit) false → new.inputs ≡ slice_set old.inputs bit true → new.reads ≡ old.reads →
    Sets (Input bit) true old new
sets_input bit old new has set same =
    sets_if (Input bit) true old new
    (ap (λ (l : List Bool). slice_get l bit) set ∙ get_set_same old.inputs bit true (slice_get_within old.inputs bit false has))
    others (λ read width h. width_by_reads new old read width (sym (at_reads old new read same)) h)
  where
    others : (u : Var) (b : Bool) → u ≢ Input bit → HasBit old u b → HasBit new u b
    others (Input k) b d h = ap (λ (l : List Bool). slice_get l k) set ∙ get_set_other old.inputs bit k true (λ e. d (ap Input e)) ∙ h
    others (Read read k) b d h = by_reads old new read k b (at_reads old new read same) h

pub sets_read : (read bit : ℕ) (old new : Point) (x y : Bits) → slice_get old.reads read ≡ Some x → HasBit old (Read read bit) false →
    new.reads ≡ slice_set old.reads read y → new.inputs ≡ old.inputs → y.width ≡ x.width →
    bits_of y.width y.value ≡ slice_set (bits_of x.width x.value) bit true → Sets (Read read bit) true old new
sets_read read bit old new x y at has set same width bits =
    sets_if (Read read bit) true old new
    (y, at_read, ap (λ (l : List Bool). slice_get l bit) bits ∙ get_set_same (bits_of x.width x.value) bit true within)
    others widths
  where
    is : has.0 ≡ x
    is = some_same has.0 x (sym has.1 ∙ at)

    within : bit < length (bits_of x.width x.value)
    within = slice_get_within (bits_of x.width x.value) bit false (bit_of_number has.0 x bit false is has.2)

    at_read : slice_get new.reads read ≡ Some y
    at_read = ap (λ (l : List Bits). slice_get l read) set ∙ get_set_same old.reads read y (slice_get_within old.reads read x at)

    at_other : (r : ℕ) → r ≢ read → slice_get new.reads r ≡ slice_get old.reads r
    at_other r d = ap (λ (l : List Bits). slice_get l r) set ∙ get_set_other old.reads read r y d

    others : (u : Var) (b : Bool) → u ≢ Read read bit → HasBit old u b → HasBit new u b
    others (Input k) b d h = by_inputs old new k b (at_inputs old new k same) h
    others (Read r k) b d h = elim (same_or_not r read) [
      | inr other ↦ by_reads old new r k b (at_other r other) h
      | inl e ↦ (
        y,
        ap (λ (n : ℕ). slice_get new.reads n) e ∙ at_read,
        ap (λ (l : List Bool). slice_get l k) bits ∙ get_set_other (bits_of x.width x.value) bit k true (λ i. d (λ j. Read (e j) (i j)))
            ∙ bit_of_number h.0 x k b (some_same h.0 x (sym h.1 ∙ ap (λ (n : ℕ). slice_get old.reads n) e ∙ at)) h.2,
      )
    ]

    widths : (r width : ℕ) → HasWidth new r width → HasWidth old r width
    widths r w h = elim (same_or_not r read) [
      | inr other ↦ width_by_reads new old r w (sym (at_other r other)) h
      | inl e ↦ (
        x,
        ap (λ (n : ℕ). slice_get old.reads n) e ∙ at,
        sym width ∙ ap (λ (z : Bits). z.width) (some_same y h.0 (sym at_read ∙ sym (ap (λ (n : ℕ). slice_get new.reads n) e) ∙ h.1)) ∙ h.2,
      )
    ]

-- the variables before the place have their values, and the others are 0
pub record AreSet (vars : List Var) (values : List Bool) (place : ℕ) (old now : Point) : Type 0 where
  pub done : (k : ℕ) (v : Var) (b : Bool) → k < place → slice_get vars k ≡ Some v → slice_get values k ≡ Some b → HasBit now v b
  pub todo : (k : ℕ) (v : Var) → place ≤ k → slice_get vars k ≡ Some v → HasBit now v false
  pub keeps : KeepsBits old now

pub later_differs : (vars : List Var) → AllPairs IsBefore vars → (j k : ℕ) (u v : Var) → j < k → slice_get vars j ≡ Some u → slice_get vars k ≡ Some v → u ≢ v
later_differs vars rising j k u v l atu atv =
    let within : k < length vars = slice_get_within vars k v atv in
    let before = rising j k u l within in
    before_differs u v
    (subst (λ (w : Var). IsBefore u w) (get_or_from_slice_get vars k v u atv)
    (subst (λ (w : Var). IsBefore w (get_or vars k u)) (get_or_from_slice_get vars j u u atu) before))

pub set_one : (vars : List Var) (values : List Bool) (place : ℕ) (old now new : Point) (v : Var) (b : Bool) → AllPairs IsBefore vars →
    slice_get vars place ≡ Some v → slice_get values place ≡ Some b → AreSet vars values place old now → Sets v b now new →
    AreSet vars values (place + 1) old new
set_one vars values place old now new v b rising atv atb are sets = record {
  done = λ k u c l at value. done k u c at value (before_or_it k l);
  todo = λ k u l at. sets.others u false (λ e. later_differs vars rising place k v u (omega arith) atv at (sym e)) (are.todo k u (omega arith) at);
  keeps = keeps_both old now new are.keeps sets.keeps;
} where
  before_or_it : (k : ℕ) → k < place + 1 → (k < place) ⊎ (k ≡ place)
  before_or_it k l = grind arith

  done : (k : ℕ) (u : Var) (c : Bool) → slice_get vars k ≡ Some u → slice_get values k ≡ Some c → (k < place) ⊎ (k ≡ place) → HasBit new u c
  done k u c at value (inl l) = sets.others u c (later_differs vars rising k place u v l at atv) (are.done k u c l at value)
  done k u c at value (inr e) =
      let eu : v ≡ u = some_same v u (sym atv ∙ ap (λ (n : ℕ). slice_get vars n) (sym e) ∙ at) in
      let ec : b ≡ c = some_same b c (sym atb ∙ ap (λ (n : ℕ). slice_get values n) (sym e) ∙ value) in
      subst (λ (w : Var). HasBit new w c) eu (subst (λ (d : Bool). HasBit new v d) ec sets.there)

pub all_set : (vars : List Var) (values : List Bool) (old now : Point) → length values ≡ length vars → AreSet vars values (length vars) old now →
    HasBits now vars values
all_set vars values old now long are = record {
  each = zip_from (HasBit now) vars values long (λ k v b atv atb. are.done k v b (slice_get_within vars k v atv) atv atb);
}
