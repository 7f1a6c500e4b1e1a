-- What the result of an operation stands for, from its number and its mask.
use Rattle.std.proofs.Common.{◌≡◌, ℕ, zero, suc, ◌-◌, ◌^◌, ◌<◌, Bool, true, false, List, [], ◌∷◌, refl, sym, ap, ◌∙◌, subst, arith, Some}
use Rattle.std.specs.Prelude.{◌↔◌, IsTrue, not, slice_get, if◌then◌else◌}
use Rattle.std.specs.Int.{bit_at}
use Rattle.std.specs.List.{All}
use Rattle.std.proofs.lemmas.List.Elements.{All-head, All-tail}
use Rattle.bits_core.specs.declared.number.Bits.{Bits}
use Rattle.bits_core.specs.declared.operator.Op.{Op}
use Rattle.bits_core.specs.declared.operator.OpShape.TheVariants.{One}
use Rattle.bits_core.specs.declared.points.Point.{Point}
use Rattle.bits_core.specs.Operator.{WidthsFit, shape_of, result_width, operator_value, test_value}
use Rattle.bits_core.proofs.RowLaws.{operator_value_below}
use Rattle.taint_domain.specs.declared.flag.TaintFlag.{TaintFlag}
use Rattle.taint_domain.specs.declared.tainted.Tainted.{Tainted}
use Rattle.taint_domain.specs.Flag.{FlagStandsFor}
use Rattle.taint_domain.specs.Masks.{IsMaskOf}
use Rattle.taint_domain.specs.Results.{ResultOf, ImageOf, ChoiceOf, TestOf, CombinationOf, MasksAll}
use Rattle.taint_domain.specs.Tainted.{IsSameOutside, StandsFor, ReadsAreZero}
use Rattle.taint_domain.proofs.ResultsLemmas.{same_where_masked, same_outside_ones}

-- ---- values

stands_by : (set : ℕ → Type 0) (v : Tainted) (p : Point) (z w n : ℕ) → v.number.width ≡ w → v.number.value ≡ n →
    MasksAll set n v.mask.value → set z → z < 2 ^ w → (ReadsAreZero p → z ≡ n) → StandsFor v p z
stands_by set v p z w n width number all of fits zeros = record {
  may = record {
    fits = subst (λ (k : ℕ). z < 2 ^ k) (sym width) fits;
    outside = subst (λ (k : ℕ). IsSameOutside v.mask.value k z) (sym number) (same_where_masked set n v.mask.value z all of);
  };
  zeros = λ none. zeros none ∙ sym number;
}

pub constant_stands : (v : Tainted) (b : Bits) (p : Point) → v.number ≡ b → StandsFor v p b.value
constant_stands v b p same =
    let value : b.value ≡ v.number.value = ap (λ (n : Bits). n.value) (sym same) in
    record {
      may = record {
        fits = subst (λ (n : ℕ). n < 2 ^ v.number.width) (sym value) v.number.fits;
        outside = record { bits = λ i clear. ap (λ (n : ℕ). bit_at n i) value };
      };
      zeros = λ none. value;
    }

read_of : (bs : List Bits) (read : ℕ) (b : Bits) → All (λ (n : Bits). n.value ≡ 0) bs → slice_get bs read ≡ Some b → b.value ≡ 0
read_of [] read b all at = absurd (cc)
read_of (c ∷ bs) zero b all at =
    let same : c ≡ b = cc in
    sym (ap (λ (n : Bits). n.value) same) ∙ All-head (λ (n : Bits). n.value ≡ 0) c bs all
read_of (c ∷ bs) (suc read) b all at = read_of bs read b (All-tail (λ (n : Bits). n.value ≡ 0) c bs all) at

pub unspecified_stands : (v : Tainted) (p : Point) (b : Bits) (read w : ℕ) → v.number.width ≡ w → v.number.value ≡ 0 →
    v.mask.value ≡ 2 ^ w - 1 → slice_get p.reads read ≡ Some b → b.width ≡ w → StandsFor v p b.value
unspecified_stands v p b read w width number mask at same =
    let fits : b.value < 2 ^ w = subst (λ (k : ℕ). b.value < 2 ^ k) same b.fits in
    let own : v.number.value < 2 ^ w = subst (λ (k : ℕ). v.number.value < 2 ^ k) width v.number.fits in
    record {
      may = record {
        fits = subst (λ (k : ℕ). b.value < 2 ^ k) (sym width) fits;
        outside = subst (λ (m : ℕ). IsSameOutside m v.number.value b.value) (sym mask) (same_outside_ones w v.number.value b.value own fits);
      };
      zeros = λ none. read_of p.reads read b none at ∙ sym number;
    }

pub result_stands : (op : Op) (a b v : Tainted) (p : Point) (x y : ℕ) → WidthsFit (shape_of op) a.number.width b.number.width →
    v.number.width ≡ result_width (shape_of op) a.number.width b.number.width →
    v.number.value ≡ operator_value op a.number.width a.number.value b.number.width b.number.value →
    IsMaskOf op a b v.mask.value → StandsFor a p x → StandsFor b p y →
    StandsFor v p (operator_value op a.number.width x b.number.width y)
result_stands op a b v p x y fits width number mask first second =
    let w = a.number.width in
    let u = b.number.width in
    stands_by (ResultOf op a b) v p (operator_value op w x u y) (result_width (shape_of op) w u) _ width number mask.all
    (record { x = x; y = y; first = first.may; second = second.may; is = refl })
    (operator_value_below op w x u y fits first.may.fits second.may.fits)
    (λ none. ap (λ (n : ℕ). operator_value op w n u y) (first.zeros none) ∙ ap (operator_value op w a.number.value u) (second.zeros none))

one_fits : (op : Op) (w v : ℕ) → shape_of op ≡ One → WidthsFit (shape_of op) w v
one_fits op w v one = subst (λ shape. WidthsFit shape w v) (sym one) tt

one_width : (op : Op) (w v : ℕ) → shape_of op ≡ One → result_width (shape_of op) w v ≡ w
one_width op w v one = ap (λ shape. result_width shape w v) one

operator_value_one : (op : Op) (w x v y : ℕ) → shape_of op ≡ One → operator_value op w x v y ≡ operator_value op w x 0 0
operator_value_one op w x v y one = grind arith

pub one_stands : (op : Op) (a v : Tainted) (p : Point) (x : ℕ) → shape_of op ≡ One → v.number.width ≡ a.number.width →
    v.number.value ≡ operator_value op a.number.width a.number.value 0 0 → IsMaskOf op a a v.mask.value → StandsFor a p x →
    StandsFor v p (operator_value op a.number.width x 0 0)
one_stands op a v p x one width number mask stands =
    let w = a.number.width in
    subst (StandsFor v p) (operator_value_one op w x w x one)
    (result_stands op a a v p x x (one_fits op w w one) (width ∙ sym (one_width op w w one))
    (number ∙ sym (operator_value_one op w a.number.value w a.number.value one)) mask stands stands)

pub image_stands : (f : ℕ → ℕ) (a v : Tainted) (p : Point) (x w : ℕ) → ((z : ℕ) → f z < 2 ^ w) → v.number.width ≡ w →
    v.number.value ≡ f a.number.value → MasksAll (ImageOf f a) (f a.number.value) v.mask.value → StandsFor a p x → StandsFor v p (f x)
image_stands f a v p x w fits width number all stands =
    stands_by (ImageOf f a) v p (f x) w (f a.number.value) width number all (record { x = x; may = stands.may; is = refl }) (fits x)
    (λ none. ap f (stands.zeros none))

chosen_width : (t : Bool) (a b : Bits) → a.width ≡ b.width → (if t then a else b).width ≡ a.width
chosen_width true a b same = refl
chosen_width false a b same = sym same

chosen_value : (t : Bool) (a b : Bits) → (if t then a else b).value ≡ (if t then a.value else b.value)
chosen_value true a b = refl
chosen_value false a b = refl

chosen_fits : (t : Bool) (w x y : ℕ) → x < 2 ^ w → y < 2 ^ w → (if t then x else y) < 2 ^ w
chosen_fits true w x y p q = p
chosen_fits false w x y p q = q

pub choice_width : (f : TaintFlag) (a b v : Tainted) → a.number.width ≡ b.number.width →
    v.number ≡ (if f.truth then a.number else b.number) → v.number.width ≡ a.number.width
choice_width f a b v same is = ap (λ (n : Bits). n.width) is ∙ chosen_width f.truth a.number b.number same

pub choice_stands : (f : TaintFlag) (a b v : Tainted) (p : Point) (t : Bool) (x y : ℕ) → a.number.width ≡ b.number.width →
    v.number ≡ (if f.truth then a.number else b.number) →
    MasksAll (ChoiceOf f a b) (if f.truth then a.number.value else b.number.value) v.mask.value →
    FlagStandsFor f p t → StandsFor a p x → StandsFor b p y → StandsFor v p (if t then x else y)
choice_stands f a b v p t x y same is all flag first second =
    let w = a.number.width in
    stands_by (ChoiceOf f a b) v p (if t then x else y) w _ (choice_width f a b v same is)
    (ap (λ (n : Bits). n.value) is ∙ chosen_value f.truth a.number b.number) all
    (record { t = t; x = x; y = y; flag = flag.may; first = first.may; second = second.may; is = refl })
    (chosen_fits t w x y first.may.fits (subst (λ (k : ℕ). y < 2 ^ k) (sym same) second.may.fits))
    (λ none.
    ap (λ s. if s then x else y) (flag.zeros none) ∙ ap (λ (n : ℕ). if f.truth then n else y) (first.zeros none)
    ∙ ap (λ (n : ℕ). if f.truth then a.number.value else n) (second.zeros none))

-- ---- flags

same_or_not : (u t : Bool) (P : Type 0) → (u ≡ t → P) → (u ≡ not t → P) → P
same_or_not true true P p q = p refl
same_or_not true false P p q = q refl
same_or_not false true P p q = q refl
same_or_not false false P p q = p refl

flag_stands_by : (set : Bool → Type 0) (h : TaintFlag) (p : Point) (u : Bool) → (IsTrue h.may_differ ↔ set (not h.truth)) → set u →
    (ReadsAreZero p → u ≡ h.truth) → FlagStandsFor h p u
flag_stands_by set h p u told of zeros = record {
  may = record {
    known = λ known.
        same_or_not u h.truth (u ≡ h.truth) (λ same. same)
        (λ other. let unknown : h.may_differ ≡ true = told.1 (subst set other of) in absurd (cc));
  };
  zeros = zeros;
}

pub test_stands : (op : Op) (a b : Tainted) (f : TaintFlag) (p : Point) (x y : ℕ) →
    f.truth ≡ test_value op a.number.width a.number.value b.number.value → (IsTrue f.may_differ ↔ TestOf op a b (not f.truth)) →
    StandsFor a p x → StandsFor b p y → FlagStandsFor f p (test_value op a.number.width x y)
test_stands op a b f p x y truth unknown first second =
    let w = a.number.width in
    flag_stands_by (TestOf op a b) f p (test_value op w x y) unknown
    (record { x = x; y = y; first = first.may; second = second.may; is = refl })
    (λ none.
    ap (λ (n : ℕ). test_value op w n y) (first.zeros none) ∙ ap (test_value op w a.number.value) (second.zeros none) ∙ sym truth)

pub combination_stands : (combine : Bool → Bool → Bool) (f g h : TaintFlag) (p : Point) (s t : Bool) →
    h.truth ≡ combine f.truth g.truth → (IsTrue h.may_differ ↔ CombinationOf combine f g (not h.truth)) →
    FlagStandsFor f p s → FlagStandsFor g p t → FlagStandsFor h p (combine s t)
combination_stands combine f g h p s t truth unknown first second =
    flag_stands_by (CombinationOf combine f g) h p (combine s t) unknown
    (record { s = s; t = t; first = first.may; second = second.may; is = refl })
    (λ none. ap (λ u. combine u t) (first.zeros none) ∙ ap (combine f.truth) (second.zeros none) ∙ sym truth)

pub not_stands : (f h : TaintFlag) (p : Point) (t : Bool) → h.truth ≡ not f.truth → h.may_differ ≡ f.may_differ →
    FlagStandsFor f p t → FlagStandsFor h p (not t)
not_stands f h p t truth same stands = record {
  may = record { known = λ known. ap not (stands.may.known (sym same ∙ known)) ∙ sym truth };
  zeros = λ none. ap not (stands.zeros none) ∙ sym truth;
}

pub fixed_stands : (h : TaintFlag) (p : Point) (t : Bool) → h.truth ≡ t → FlagStandsFor h p t
fixed_stands h p t truth = record { may = record { known = λ known. sym truth }; zeros = λ none. sym truth }
