-- Choices and majorities: what each arm of their gates gives.
use Rattle.std.proofs.Common.{◌≡◌, ◌≢◌, Bool, true, false, List, length, refl, sym, ap, ◌∙◌, subst}
use Rattle.std.specs.Prelude.{not, ◌&&◌, ◌||◌, if◌then◌else◌}
use Rattle.bits_core.specs.Circuit.{exclusive_or, carry_bit}
use Rattle.cnf_core.specs.declared.formula.Lit.{Lit}
use Rattle.cnf_core.specs.Literal.{negation}
use Rattle.cnf_core.proofs.Literals.{lit-same}
use Rattle.bit_blaster.specs.declared.wire.Wire.{Wire}
use Rattle.bit_blaster.specs.declared.wire.Wire.TheVariants.{Known, Literal}
use Rattle.bit_blaster.specs.Gate.{literal_value, all_values}
use Rattle.bit_blaster.specs.Pair.{IsSameWhere}
use Rattle.bit_blaster.specs.Wire.{wire_value, opposite}
use Rattle.bit_blaster.specs.Netlist.{Netlist, variable_count, HasWire, StandsFor, GivesTwo, GivesThree}
use Rattle.bit_blaster.proofs.GateLemmas.{stands_as, value_of_known, value_of_same, value_of_opposite, opposite_stands, opposite_value}
use Rattle.bit_blaster.proofs.NetlistLemmas.{stands_at}

-- ---- a function of three bits by one of two

-- the third may be any of the operands, since each stands for what it stands for
pub three_by_two : (g : Bool → Bool → Bool) (f : Bool → Bool → Bool → Bool) (old new : Netlist) (a b c p q r : Wire) →
    ((inputs : List Bool) (x y z : Bool) → StandsFor old inputs a x → StandsFor old inputs b y → StandsFor old inputs c z →
    (u : Bool) × (v : Bool) × StandsFor old inputs p u × StandsFor old inputs q v × (g u v ≡ f x y z)) →
    GivesTwo g old new p q r → GivesThree f old new a b c r
three_by_two g f old new a b c p q r operands gives = record {
  has = gives.has;
  value = λ inputs x y z sa sb sc.
      let (u, v, sp, sq, e) = operands inputs x y z sa sb sc in
      stands_as new inputs r (g u v) (f x y z) e (gives.value inputs u v sp sq);
}

abbrev pub chosen : Bool → Bool → Bool → Bool
chosen c x y = if c then x else y

or_is : (x z : Bool) → (x || z) ≡ chosen x true z
or_is true z = refl
or_is false z = refl

and_not_is : (x z : Bool) → (not x && z) ≡ chosen x false z
and_not_is true z = refl
and_not_is false z = refl

or_not_is : (x y : Bool) → (not x || y) ≡ chosen x y true
or_not_is true y = refl
or_not_is false y = refl

and_is : (x y : Bool) → (x && y) ≡ chosen x y false
and_is true y = refl
and_is false y = refl

chosen_same : (x y : Bool) → y ≡ chosen x y y
chosen_same true y = refl
chosen_same false y = refl

chosen_opposite : (x z : Bool) → exclusive_or x z ≡ chosen x (not z) z
chosen_opposite true z = refl
chosen_opposite false z = refl

-- ---- a choice on wires that have the operands' values where they are taken

by_where : (x y z u v : Bool) → (x ≡ true → u ≡ y) → (not x ≡ true → v ≡ z) → chosen x u v ≡ chosen x y z
by_where true y z u v first second = first refl
by_where false y z u v first second = second refl

pub has_where : (net : Netlist) (condition a r : Wire) → IsSameWhere condition a r → HasWire net a → HasWire net r
has_where net condition a r is has = is.of (variable_count net) has

module _ (old new : Netlist) (condition not_condition a b first second r : Wire) where
  choose_where : not_condition ≡ opposite condition → IsSameWhere condition a first → IsSameWhere not_condition b second →
      GivesThree chosen old new condition first second r → GivesThree chosen old new condition a b r
  choose_where turned fa fb g = record {
    has = g.has;
    value = λ inputs x y z sc sa sb.
        let values = all_values inputs old.gates in
        let u = wire_value values first in
        let v = wire_value values second in
        let not_x : wire_value values not_condition ≡ not x = ap (wire_value values) turned ∙ opposite_value values condition ∙ ap not sc.is in
        stands_as new inputs r (chosen x u v) (chosen x y z)
        (by_where x y z u v (λ e. fa.same values (sc.is ∙ e) ∙ sa.is) (λ e. fb.same values (not_x ∙ e) ∙ sb.is))
        (g.value inputs x u v sc (stands_at old inputs first (has_where old condition a first fa sa.has) sc.long)
        (stands_at old inputs second (has_where old not_condition b second fb sb.has) sc.long));
  }

  pub choose_first_true : not_condition ≡ opposite condition → IsSameWhere condition a first → IsSameWhere not_condition b second →
      first ≡ Known true → GivesTwo (λ x y. x || y) old new condition second r → GivesThree chosen old new condition a b r
  choose_first_true turned fa fb e g =
      choose_where turned fa fb (three_by_two (λ x y. x || y) chosen old new condition first second condition second r
      (λ inputs x y z sc sa sb. (x, z, sc, sb, or_is x z ∙ ap (λ (w : Bool). chosen x w z) (sym (value_of_known old inputs first true y e sa)))) g)

  pub choose_first_false : not_condition ≡ opposite condition → IsSameWhere condition a first → IsSameWhere not_condition b second →
      first ≡ Known false → GivesTwo (λ x y. x && y) old new not_condition second r → GivesThree chosen old new condition a b r
  choose_first_false turned fa fb e g =
      choose_where turned fa fb (three_by_two (λ x y. x && y) chosen old new condition first second not_condition second r
      (λ inputs x y z sc sa sb. (
        not x,
        z,
        subst (λ (w : Wire). StandsFor old inputs w (not x)) (sym turned) (opposite_stands old inputs condition x sc),
        sb,
        and_not_is x z ∙ ap (λ (w : Bool). chosen x w z) (sym (value_of_known old inputs first false y e sa)),
      )) g)

  pub choose_second_true : not_condition ≡ opposite condition → IsSameWhere condition a first → IsSameWhere not_condition b second →
      second ≡ Known true → GivesTwo (λ x y. x || y) old new not_condition first r → GivesThree chosen old new condition a b r
  choose_second_true turned fa fb e g =
      choose_where turned fa fb (three_by_two (λ x y. x || y) chosen old new condition first second not_condition first r
      (λ inputs x y z sc sa sb. (
        not x,
        y,
        subst (λ (w : Wire). StandsFor old inputs w (not x)) (sym turned) (opposite_stands old inputs condition x sc),
        sa,
        or_not_is x y ∙ ap (λ (w : Bool). chosen x y w) (sym (value_of_known old inputs second true z e sb)),
      )) g)

  pub choose_second_false : not_condition ≡ opposite condition → IsSameWhere condition a first → IsSameWhere not_condition b second →
      second ≡ Known false → GivesTwo (λ x y. x && y) old new condition first r → GivesThree chosen old new condition a b r
  choose_second_false turned fa fb e g =
      choose_where turned fa fb (three_by_two (λ x y. x && y) chosen old new condition first second condition first r
      (λ inputs x y z sc sa sb. (x, y, sc, sa, and_is x y ∙ ap (λ (w : Bool). chosen x y w) (sym (value_of_known old inputs second false z e sb)))) g)

  pub choose_opposite : not_condition ≡ opposite condition → IsSameWhere condition a first → IsSameWhere not_condition b second →
      first ≡ opposite second → GivesTwo exclusive_or old new condition second r → GivesThree chosen old new condition a b r
  choose_opposite turned fa fb e g =
      choose_where turned fa fb (three_by_two exclusive_or chosen old new condition first second condition second r
      (λ inputs x y z sc sa sb.
      (x, z, sc, sb, chosen_opposite x z ∙ ap (λ (w : Bool). chosen x w z) (sym (value_of_opposite old inputs first second y z e sa sb)))) g)

  pub choose_apart : (k l : Lit) → not_condition ≡ opposite condition → IsSameWhere condition a first → IsSameWhere not_condition b second →
      first ≡ Literal k → second ≡ Literal l → GivesThree chosen old new condition (Literal k) (Literal l) r →
      GivesThree chosen old new condition a b r
  choose_apart k l turned fa fb ek el g =
      choose_where turned fa fb
      (subst (λ (w : Wire). GivesThree chosen old new condition w second r) (sym ek)
      (subst (λ (w : Wire). GivesThree chosen old new condition (Literal k) w r) (sym el) g))

pub choose_same : (net : Netlist) (condition not_condition a b first second : Wire) → not_condition ≡ opposite condition →
    IsSameWhere condition a first → IsSameWhere not_condition b second → HasWire net a → first ≡ second →
    GivesThree chosen net net condition a b first
choose_same net condition not_condition a b first second turned fa fb has e =
    choose_where net net condition not_condition a b first second first turned fa fb (record {
      has = has_where net condition a first fa has;
      value = λ inputs x y z sc sa sb.
          stands_as net inputs first y (chosen x y z)
          (chosen_same x y ∙ ap (λ (w : Bool). chosen x y w) (value_of_same net inputs first second y z e sa sb)) sa;
    })

-- ---- by a gate

pub three_by_gate : (f : Bool → Bool → Bool → Bool) (old new : Netlist) (r : Wire) (k l m : Lit) → HasWire new r →
    ((inputs : List Bool) → length inputs ≡ old.inputs →
    StandsFor new inputs r
    (f (literal_value (all_values inputs old.gates) k) (literal_value (all_values inputs old.gates) l) (literal_value (all_values inputs old.gates) m))) →
    GivesThree f old new (Literal k) (Literal l) (Literal m) r
three_by_gate f old new r k l m has gate = record {
  has = has;
  value = λ inputs x y z sk sl sm.
      subst (λ (b : Bool). StandsFor new inputs r (f x y b)) sm.is
      (subst (λ (b : Bool). StandsFor new inputs r (f x b (literal_value (all_values inputs old.gates) m))) sl.is
      (subst
      (λ (b : Bool). StandsFor new inputs r (f b (literal_value (all_values inputs old.gates) l) (literal_value (all_values inputs old.gates) m)))
      sk.is (gate inputs sk.long)));
}

pub choose_known_true : (net : Netlist) (a b : Wire) → HasWire net a → GivesThree chosen net net (Known true) a b a
choose_known_true net a b has = record {
  has = has;
  value = λ inputs x y z sc sa sb.
      stands_as net inputs a y (chosen x y z) (ap (λ (w : Bool). chosen w y z) (sc.is)) sa;
}

pub choose_known_false : (net : Netlist) (a b : Wire) → HasWire net b → GivesThree chosen net net (Known false) a b b
choose_known_false net a b has = record {
  has = has;
  value = λ inputs x y z sc sa sb.
      stands_as net inputs b z (chosen x y z) (ap (λ (w : Bool). chosen w y z) (sc.is)) sb;
}

-- ---- a wire where a condition is true

module _ (condition a : Wire) where
  pub where_same : condition ≡ a → IsSameWhere condition a (Known true)
  where_same e = record {
    same = λ values holds. sym holds ∙ ap (wire_value values) e;
    apart = λ k l c r. absurd (cc);
    of = λ n has. tt;
  }

  not_false : (b : Bool) → not b ≡ true → false ≡ b
  not_false true e = absurd (cc)
  not_false false e = refl

  pub where_opposite : condition ≡ opposite a → IsSameWhere condition a (Known false)
  where_opposite e = record {
    same = λ values holds. not_false (wire_value values a) (sym (opposite_value values a) ∙ ap (wire_value values) (sym e) ∙ holds);
    apart = λ k l c r. absurd (cc);
    of = λ n has. tt;
  }

  pub where_first_known : (truth : Bool) → condition ≡ Known truth → IsSameWhere condition a a
  where_first_known truth e = record {
    same = λ values holds. refl;
    apart = λ k l c r. absurd (cc);
    of = λ n has. has;
  }

  pub where_second_known : (truth : Bool) → a ≡ Known truth → IsSameWhere condition a a
  where_second_known truth e = record {
    same = λ values holds. refl;
    apart = λ k l c r. absurd (cc);
    of = λ n has. has;
  }

  var_of : (k l : Lit) → Literal k ≡ Literal l → k.var ≡ l.var
  var_of k l e = cc

  pub where_apart : (k l : Lit) → (condition ≡ Literal k) × (a ≡ Literal l) × (k.var ≢ l.var) → IsSameWhere condition a a
  where_apart k l apart = record {
    same = λ values holds. refl;
    apart = λ m n c r same.
        apart.2 (var_of k m (sym apart.0 ∙ c) ∙ same ∙ sym (var_of l n (sym apart.1 ∙ r)));
    of = λ n has. has;
  }

-- ---- majorities

carry_known_true : (x y : Bool) → (x || y) ≡ carry_bit true x y
carry_known_true true y = refl
carry_known_true false true = refl
carry_known_true false false = refl

carry_known_false : (x y : Bool) → (x && y) ≡ carry_bit false x y
carry_known_false x y = refl

carry_second : (t x z : Bool) → carry_bit t x z ≡ carry_bit x t z
carry_second true true z = refl
carry_second true false true = refl
carry_second true false false = refl
carry_second false true true = refl
carry_second false true false = refl
carry_second false false z = refl

carry_third : (t x y : Bool) → carry_bit t x y ≡ carry_bit x y t
carry_third true true true = refl
carry_third true true false = refl
carry_third true false true = refl
carry_third true false false = refl
carry_third false true true = refl
carry_third false true false = refl
carry_third false false true = refl
carry_third false false false = refl

carry_same : (x z : Bool) → x ≡ carry_bit x x z
carry_same true z = refl
carry_same false true = refl
carry_same false false = refl

carry_opposite : (y z : Bool) → z ≡ carry_bit (not y) y z
carry_opposite true true = refl
carry_opposite true false = refl
carry_opposite false true = refl
carry_opposite false false = refl

two_as : (g f : Bool → Bool → Bool) (old new : Netlist) (a b r : Wire) → ((x y : Bool) → g x y ≡ f x y) → GivesTwo g old new a b r → GivesTwo f old new a b r
two_as g f old new a b r same gives = record {
  has = gives.has;
  value = λ inputs x y s t. stands_as new inputs r (g x y) (f x y) (same x y) (gives.value inputs x y s t);
}

module _ (old new : Netlist) (a b r : Wire) where
  pub majority_true : GivesTwo (λ x y. x || y) old new a b r → GivesTwo (carry_bit true) old new a b r
  majority_true g = two_as (λ x y. x || y) (carry_bit true) old new a b r carry_known_true g

  pub majority_false : GivesTwo (λ x y. x && y) old new a b r → GivesTwo (carry_bit false) old new a b r
  majority_false g = two_as (λ x y. x && y) (carry_bit false) old new a b r carry_known_false g

module _ (old new : Netlist) (a b c r : Wire) where
  pub majority_first_known : (t : Bool) → a ≡ Known t → GivesTwo (carry_bit t) old new b c r → GivesThree carry_bit old new a b c r
  majority_first_known t e g =
      three_by_two (carry_bit t) carry_bit old new a b c b c r
      (λ inputs x y z sa sb sc. (y, z, sb, sc, ap (λ (w : Bool). carry_bit w y z) (sym (value_of_known old inputs a t x e sa)))) g

  pub majority_second_known : (t : Bool) → b ≡ Known t → GivesTwo (carry_bit t) old new a c r → GivesThree carry_bit old new a b c r
  majority_second_known t e g =
      three_by_two (carry_bit t) carry_bit old new a b c a c r
      (λ inputs x y z sa sb sc.
      (x, z, sa, sc, carry_second t x z ∙ ap (λ (w : Bool). carry_bit x w z) (sym (value_of_known old inputs b t y e sb)))) g

  pub majority_third_known : (t : Bool) → c ≡ Known t → GivesTwo (carry_bit t) old new a b r → GivesThree carry_bit old new a b c r
  majority_third_known t e g =
      three_by_two (carry_bit t) carry_bit old new a b c a b r
      (λ inputs x y z sa sb sc.
      (x, y, sa, sb, carry_third t x y ∙ ap (λ (w : Bool). carry_bit x y w) (sym (value_of_known old inputs c t z e sc)))) g

module _ (net : Netlist) (a b c : Wire) where
  pub majority_same : HasWire net a → a ≡ b → GivesThree carry_bit net net a b c a
  majority_same has e = record {
    has = has;
    value = λ inputs x y z sa sb sc.
        stands_as net inputs a x (carry_bit x y z)
        (carry_same x z ∙ ap (λ (w : Bool). carry_bit x w z) (value_of_same net inputs a b x y e sa sb)) sa;
  }

  pub majority_opposite : HasWire net c → a ≡ opposite b → GivesThree carry_bit net net a b c c
  majority_opposite has e = record {
    has = has;
    value = λ inputs x y z sa sb sc.
        stands_as net inputs c z (carry_bit x y z)
        (carry_opposite y z ∙ ap (λ (w : Bool). carry_bit w y z) (sym (value_of_opposite net inputs a b x y e sa sb))) sc;
  }

  carry_outer_same : (x y : Bool) → x ≡ carry_bit x y x
  carry_outer_same true true = refl
  carry_outer_same true false = refl
  carry_outer_same false true = refl
  carry_outer_same false false = refl

  carry_outer_opposite : (y z : Bool) → y ≡ carry_bit (not z) y z
  carry_outer_opposite true true = refl
  carry_outer_opposite true false = refl
  carry_outer_opposite false true = refl
  carry_outer_opposite false false = refl

  pub majority_outer_same : HasWire net a → a ≡ c → GivesThree carry_bit net net a b c a
  majority_outer_same has e = record {
    has = has;
    value = λ inputs x y z sa sb sc.
        stands_as net inputs a x (carry_bit x y z)
        (carry_outer_same x y ∙ ap (λ (w : Bool). carry_bit x y w) (value_of_same net inputs a c x z e sa sc)) sa;
  }

  pub majority_outer_opposite : HasWire net b → a ≡ opposite c → GivesThree carry_bit net net a b c b
  majority_outer_opposite has e = record {
    has = has;
    value = λ inputs x y z sa sb sc.
        stands_as net inputs b y (carry_bit x y z)
        (carry_outer_opposite y z ∙ ap (λ (w : Bool). carry_bit w y z) (sym (value_of_opposite net inputs a c x z e sa sc))) sb;
  }

  carry_last_same : (x y : Bool) → y ≡ carry_bit x y y
  carry_last_same true true = refl
  carry_last_same true false = refl
  carry_last_same false true = refl
  carry_last_same false false = refl

  carry_last_opposite : (x z : Bool) → x ≡ carry_bit x (not z) z
  carry_last_opposite true true = refl
  carry_last_opposite true false = refl
  carry_last_opposite false true = refl
  carry_last_opposite false false = refl

  pub majority_last_same : HasWire net b → b ≡ c → GivesThree carry_bit net net a b c b
  majority_last_same has e = record {
    has = has;
    value = λ inputs x y z sa sb sc.
        stands_as net inputs b y (carry_bit x y z)
        (carry_last_same x y ∙ ap (λ (w : Bool). carry_bit x y w) (value_of_same net inputs b c y z e sb sc)) sb;
  }

  pub majority_last_opposite : HasWire net a → b ≡ opposite c → GivesThree carry_bit net net a b c a
  majority_last_opposite has e = record {
    has = has;
    value = λ inputs x y z sa sb sc.
        stands_as net inputs a x (carry_bit x y z)
        (carry_last_opposite x z ∙ ap (λ (w : Bool). carry_bit x w z) (sym (value_of_opposite net inputs b c y z e sb sc))) sa;
  }

-- ---- two literals of one variable

pub literals_same : (k l : Lit) → k.var ≡ l.var → k.positive ≡ l.positive → Literal k ≡ Literal l
literals_same k l vars signs = ap (λ (m : Lit). Literal m) (lit-same k l vars signs)

not_of : (a b : Bool) → a ≢ b → a ≡ not b
not_of true true e = absurd (e refl)
not_of true false e = refl
not_of false true e = refl
not_of false false e = absurd (e refl)

pub literals_opposite : (k l : Lit) → k.var ≡ l.var → k.positive ≢ l.positive → Literal k ≡ opposite (Literal l)
literals_opposite k l vars signs = ap (λ (m : Lit). Literal m) (lit-same k (negation l) vars (not_of k.positive l.positive signs))
