-- What wires carry that are known, equal or opposite, and what each gate gives.
use Rattle.std.proofs.Common.{◌≡◌, Bool, true, false, List, length, refl, sym, ap, ◌∙◌, subst}
use Rattle.std.specs.Prelude.{not, ◌&&◌, ◌||◌, if◌then◌else◌, Result, Ok, Err, IfOk}
use Rattle.bits_core.specs.Circuit.{exclusive_or}
use Rattle.cnf_core.specs.declared.formula.Lit.{Lit}
use Rattle.bit_blaster.specs.declared.wire.Wire.{Wire}
use Rattle.bit_blaster.specs.declared.wire.Wire.TheVariants.{Known, Literal}
use Rattle.bit_blaster.specs.Gate.{literal_value, all_values}
use Rattle.bit_blaster.specs.Wire.{wire_value, IsWireOf, opposite}
use Rattle.bit_blaster.specs.Netlist.{Netlist, variable_count, HasWire, StandsFor, GivesTwo}

-- ---- opposites

not_not : (b : Bool) → not (not b) ≡ b
not_not true = refl
not_not false = refl

signed_value : (sign b : Bool) → (if not sign then b else not b) ≡ not (if sign then b else not b)
signed_value true b = refl
signed_value false b = sym (not_not b)

pub opposite_value : (values : List Bool) (w : Wire) → wire_value values (opposite w) ≡ not (wire_value values w)
opposite_value values (Known truth) = refl
opposite_value values (Literal l) = signed_value l.positive _

pub opposite_of : (n : _) (w : Wire) → IsWireOf n w → IsWireOf n (opposite w)
opposite_of n (Known truth) has = tt
opposite_of n (Literal l) has = has

pub has_opposite : (net : Netlist) (w : Wire) → HasWire net w → HasWire net (opposite w)
has_opposite net w has = opposite_of (variable_count net) w has

pub opposite_stands : (net : Netlist) (inputs : List Bool) (w : Wire) (truth : Bool) → StandsFor net inputs w truth →
    StandsFor net inputs (opposite w) (not truth)
opposite_stands net inputs w truth s = record {
  has = has_opposite net w s.has;
  long = s.long;
  is = opposite_value (all_values inputs net.gates) w ∙ ap not s.is;
}

-- ---- what is told of a wire's value

module _ (net : Netlist) (inputs : List Bool) where
  pub stands_as : (w : Wire) (x y : Bool) → x ≡ y → StandsFor net inputs w x → StandsFor net inputs w y
  stands_as w x y e s = subst (λ (b : Bool). StandsFor net inputs w b) e s

  pub known_stands : (truth : Bool) → length inputs ≡ net.inputs → StandsFor net inputs (Known truth) truth
  known_stands truth long = record { has = tt; long = long; is = refl }

  pub value_of_known : (w : Wire) (truth x : Bool) → w ≡ Known truth → StandsFor net inputs w x → x ≡ truth
  value_of_known w truth x e s = sym s.is ∙ ap (wire_value (all_values inputs net.gates)) e

  pub value_of_same : (a b : Wire) (x y : Bool) → a ≡ b → StandsFor net inputs a x → StandsFor net inputs b y → x ≡ y
  value_of_same a b x y e s t = sym s.is ∙ ap (wire_value (all_values inputs net.gates)) e ∙ t.is

  pub value_of_opposite : (a b : Wire) (x y : Bool) → a ≡ opposite b → StandsFor net inputs a x → StandsFor net inputs b y → x ≡ not y
  value_of_opposite a b x y e s t = value_of_same a (opposite b) x (not y) e s (opposite_stands net inputs b y t)

  pub value_of_literal : (w : Wire) (l : Lit) (x : Bool) → w ≡ Literal l → StandsFor net inputs w x → literal_value (all_values inputs net.gates) l ≡ x
  value_of_literal w l x e s = ap (wire_value (all_values inputs net.gates)) (sym e) ∙ s.is

-- ---- a function of two bits, where one wire decides, or they are equal or opposite: a wire carries what the function gives

module _ (f : Bool → Bool → Bool) (net : Netlist) (a b r : Wire) (has : HasWire net r) where
  pub two_first_known : (truth : Bool) → a ≡ Known truth →
      ((inputs : List Bool) (y : Bool) → length inputs ≡ net.inputs → StandsFor net inputs b y → StandsFor net inputs r (f truth y)) →
      GivesTwo f net net a b r
  two_first_known truth e step = record {
    has = has;
    value = λ inputs x y s t.
        stands_as net inputs r (f truth y) (f x y) (ap (λ (z : Bool). f z y) (sym (value_of_known net inputs a truth x e s))) (step inputs y s.long t);
  }

  pub two_second_known : (truth : Bool) → b ≡ Known truth →
      ((inputs : List Bool) (x : Bool) → length inputs ≡ net.inputs → StandsFor net inputs a x → StandsFor net inputs r (f x truth)) →
      GivesTwo f net net a b r
  two_second_known truth e step = record {
    has = has;
    value = λ inputs x y s t.
        stands_as net inputs r (f x truth) (f x y) (ap (f x) (sym (value_of_known net inputs b truth y e t))) (step inputs x s.long s);
  }

  pub two_same : a ≡ b →
      ((inputs : List Bool) (y : Bool) → length inputs ≡ net.inputs → StandsFor net inputs b y → StandsFor net inputs r (f y y)) →
      GivesTwo f net net a b r
  two_same e step = record {
    has = has;
    value = λ inputs x y s t.
        stands_as net inputs r (f y y) (f x y) (ap (λ (z : Bool). f z y) (sym (value_of_same net inputs a b x y e s t))) (step inputs y s.long t);
  }

  pub two_opposite : a ≡ opposite b →
      ((inputs : List Bool) (y : Bool) → length inputs ≡ net.inputs → StandsFor net inputs b y → StandsFor net inputs r (f (not y) y)) →
      GivesTwo f net net a b r
  two_opposite e step = record {
    has = has;
    value = λ inputs x y s t.
        stands_as net inputs r (f (not y) y) (f x y) (ap (λ (z : Bool). f z y) (sym (value_of_opposite net inputs a b x y e s t)))
        (step inputs y s.long t);
  }

and_false : (x : Bool) → (x && false) ≡ false
and_false true = refl
and_false false = refl

and_true : (x : Bool) → (x && true) ≡ x
and_true true = refl
and_true false = refl

and_itself : (x : Bool) → (x && x) ≡ x
and_itself true = refl
and_itself false = refl

and_opposite : (x : Bool) → (not x && x) ≡ false
and_opposite true = refl
and_opposite false = refl

xor_false : (x : Bool) → exclusive_or x false ≡ x
xor_false true = refl
xor_false false = refl

xor_true : (x : Bool) → exclusive_or x true ≡ not x
xor_true true = refl
xor_true false = refl

xor_itself : (x : Bool) → exclusive_or x x ≡ false
xor_itself true = refl
xor_itself false = refl

xor_opposite : (x : Bool) → exclusive_or (not x) x ≡ true
xor_opposite true = refl
xor_opposite false = refl

-- ---- a conjunction

module _ (net : Netlist) (a b : Wire) where
  pub and_first_true : HasWire net b → a ≡ Known true → GivesTwo (λ x y. x && y) net net a b b
  and_first_true has e = two_first_known (λ x y. x && y) net a b b has true e (λ inputs y long t. t)

  pub and_same : HasWire net b → a ≡ b → GivesTwo (λ x y. x && y) net net a b b
  and_same has e =
      two_same (λ x y. x && y) net a b b has e (λ inputs y long t. stands_as net inputs b y (y && y) (sym (and_itself y)) t)

  pub and_second_true : HasWire net a → b ≡ Known true → GivesTwo (λ x y. x && y) net net a b a
  and_second_true has e =
      two_second_known (λ x y. x && y) net a b a has true e (λ inputs x long s. stands_as net inputs a x (x && true) (sym (and_true x)) s)

  pub and_first_false : a ≡ Known false → GivesTwo (λ x y. x && y) net net a b (Known false)
  and_first_false e =
      two_first_known (λ x y. x && y) net a b (Known false) tt false e (λ inputs y long t. known_stands net inputs false long)

  pub and_second_false : b ≡ Known false → GivesTwo (λ x y. x && y) net net a b (Known false)
  and_second_false e =
      two_second_known (λ x y. x && y) net a b (Known false) tt false e
      (λ inputs x long s. stands_as net inputs (Known false) false (x && false) (sym (and_false x)) (known_stands net inputs false long))

  pub and_opposites : a ≡ opposite b → GivesTwo (λ x y. x && y) net net a b (Known false)
  and_opposites e =
      two_opposite (λ x y. x && y) net a b (Known false) tt e
      (λ inputs y long t. stands_as net inputs (Known false) false (not y && y) (sym (and_opposite y)) (known_stands net inputs false long))

  -- ---- an exclusive disjunction

  pub xor_first_true : HasWire net b → a ≡ Known true → GivesTwo exclusive_or net net a b (opposite b)
  xor_first_true has e =
      two_first_known exclusive_or net a b (opposite b) (has_opposite net b has) true e (λ inputs y long t. opposite_stands net inputs b y t)

  pub xor_first_false : HasWire net b → a ≡ Known false → GivesTwo exclusive_or net net a b b
  xor_first_false has e = two_first_known exclusive_or net a b b has false e (λ inputs y long t. t)

  pub xor_second_true : HasWire net a → b ≡ Known true → GivesTwo exclusive_or net net a b (opposite a)
  xor_second_true has e =
      two_second_known exclusive_or net a b (opposite a) (has_opposite net a has) true e
      (λ inputs x long s. stands_as net inputs (opposite a) (not x) (exclusive_or x true) (sym (xor_true x)) (opposite_stands net inputs a x s))

  pub xor_second_false : HasWire net a → b ≡ Known false → GivesTwo exclusive_or net net a b a
  xor_second_false has e =
      two_second_known exclusive_or net a b a has false e
      (λ inputs x long s. stands_as net inputs a x (exclusive_or x false) (sym (xor_false x)) s)

  pub xor_same : a ≡ b → GivesTwo exclusive_or net net a b (Known false)
  xor_same e =
      two_same exclusive_or net a b (Known false) tt e
      (λ inputs y long t. stands_as net inputs (Known false) false (exclusive_or y y) (sym (xor_itself y)) (known_stands net inputs false long))

  pub xor_opposites : a ≡ opposite b → GivesTwo exclusive_or net net a b (Known true)
  xor_opposites e =
      two_opposite exclusive_or net a b (Known true) tt e
      (λ inputs y long t. stands_as net inputs (Known true) true (exclusive_or (not y) y) (sym (xor_opposite y)) (known_stands net inputs true long))

-- ---- a gate of its own

pub two_by_gate : (f : Bool → Bool → Bool) (old new : Netlist) (a b r : Wire) (k l : Lit) → a ≡ Literal k → b ≡ Literal l → HasWire new r →
    ((inputs : List Bool) → length inputs ≡ old.inputs →
    StandsFor new inputs r (f (literal_value (all_values inputs old.gates) k) (literal_value (all_values inputs old.gates) l))) →
    GivesTwo f old new a b r
two_by_gate f old new a b r k l ea eb has gate = record {
  has = has;
  value = λ inputs x y s t.
      subst (λ (z : Bool). StandsFor new inputs r (f x z)) (value_of_literal old inputs b l y eb t)
      (subst (λ (z : Bool). StandsFor new inputs r (f z (literal_value (all_values inputs old.gates) l))) (value_of_literal old inputs a k x ea s)
      (gate inputs s.long));
}

-- ---- a disjunction, by the conjunction of the opposites

de_morgan : (x y : Bool) → not (not x && not y) ≡ (x || y)
de_morgan true y = refl
de_morgan false true = refl
de_morgan false false = refl

pub or_by_and : (old new : Netlist) (a b not_a not_b neither r : Wire) → not_a ≡ opposite a → not_b ≡ opposite b → r ≡ opposite neither →
    GivesTwo (λ x y. x && y) old new not_a not_b neither → GivesTwo (λ x y. x || y) old new a b r
or_by_and old new a b not_a not_b neither r ea eb er g =
    subst (λ (w : Wire). GivesTwo (λ x y. x || y) old new a b w) (sym er) (record {
      has = has_opposite new neither g.has;
      value = λ inputs x y s t.
          stands_as new inputs (opposite neither) (not (not x && not y)) (x || y) (de_morgan x y)
          (opposite_stands new inputs neither (not x && not y)
          (g.value inputs (not x) (not y)
          (subst (λ (w : Wire). StandsFor old inputs w (not x)) (sym ea) (opposite_stands old inputs a x s))
          (subst (λ (w : Wire). StandsFor old inputs w (not y)) (sym eb) (opposite_stands old inputs b y t))));
    })

-- a fact of the result's `Ok` by another
pub ok_along : {A E : Type 0} (r : Result A E) (P Q : A → Type 0) → ((a : A) → P a → Q a) → IfOk r P → IfOk r Q
ok_along (Ok a) P Q step h = step a h
ok_along (Err e) P Q step h = h
