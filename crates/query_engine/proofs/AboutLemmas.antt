-- The clauses of what is left of a question's term are about the question.
use Rattle.std.proofs.Common.{◌≡◌, ◌≢◌, ℕ, zero, suc, ◌<◌, ◌⊎◌, inl, inr, Bool, false, List, [], ◌∷◌, ◌++◌, Option, Some, None, length, slice_get, get_or, refl, sym, ap, subst, ◌∙◌, true≢false, arith}
use Rattle.std.specs.Prelude.{map, is_some, ◌↔◌, IfOk, IfSome, IfNone, IsTrue}
use Rattle.std.proofs.Common.{Result, Ok, Err}
use Rattle.bit_blaster.specs.declared.formula.Blasted.{Blasted}
use Rattle.std.specs.List.{All, AllZip, Contains}
use Rattle.std.specs.Option.{option_map}
use Rattle.std.proofs.lemmas.Option.{slice_get_within, slice_get-get_or, slice_get-map}
use Rattle.bits_core.specs.BitList.{bits_of}
use Rattle.bits_core.specs.declared.number.Bits.{Bits}
use Rattle.bits_core.specs.declared.points.Point.{Point}
use Rattle.cnf_core.specs.Determined.{IsDetermined}
use Rattle.cnf_core.specs.declared.derivation.Var.{Var}
use Rattle.cnf_core.specs.declared.derivation.Var.TheVariants.{Input, Read}
use Rattle.cnf_core.specs.declared.formula.Lit.{Lit}
use Rattle.term_dag.specs.Mention.{MentionsBit, MentionsRead, HasMentioned, AreSameOn}
use Rattle.term_dag.specs.Substitute.{IsSubstitute}
use Rattle.term_dag.specs.Substitution.{IsFixedAt, IsOverlaid, Overlays, ReadsFit}
use Rattle.term_dag.specs.Value.{Values, ReadGives}
use Rattle.term_dag.specs.Width.{IsDag, width_of}
use Rattle.term_dag.specs.declared.fixed.Fixed.{Fixed}
use Rattle.term_dag.specs.declared.node.Node.{Node}
use Rattle.term_dag.specs.declared.node.Term.{Term}
use Rattle.term_dag.proofs.StandingLemmas.{has_mentioned, same_value, term_stands}
use Rattle.term_dag.proofs.SubstituteLemmas.{bits_kept, reads_kept, bits_were, reads_were}
use Rattle.term_dag.proofs.ValueLemmas.{one_value, values_were}
use Rattle.bit_blaster.specs.Clauses.{IsExtendable}
use Rattle.bit_blaster.specs.Vars.{AreVarsOf, AsksOneWidth, HasBit, HasBits, IsFormulaOf, IsOneSomewhere, Mentions}
use Rattle.query_engine.specs.About.{AreBitsOf, AreFree, GoesBy, IsAbout, IsTrueWith}
use Rattle.query_engine.specs.Question.{FixesInputs, IsAt, IsLeft, fixed_bits, fixed_of}
use Rattle.query_engine.specs.declared.question.Question.{Question}
use Rattle.query_engine.proofs.BitLemmas.{bit_there, same_number}
use Rattle.query_engine.proofs.ListLemmas.{some_same, zip_at, zip_from}
use Rattle.query_engine.proofs.BlankLemmas.{later_differs, var_or_not}
use Rattle.query_engine.proofs.PointLemmas.{all_at, contains_at, has_given, place_of}
use Rattle.bit_blaster.proofs.PointLemmas.{point_with}
use Rattle.std.proofs.lemmas.List.{length-map}

-- ---- the fixed bits lie over a point that has them

fixed_there : (bits : List Bool) (i : ℕ) (x : Bool) → slice_get (map Some bits) i ≡ Some (Some x) → slice_get bits i ≡ Some x
fixed_there [] i x at = absurd (omega (arith, slice_get_within {A = Option Bool} [] i (Some x) at))
fixed_there (b ∷ bits) zero x at = some_same (Some b) (Some x) at
fixed_there (b ∷ bits) (suc i) x at = fixed_there bits i x at

nothing_fixed : {X : Type 0} (i : ℕ) (x : X) → slice_get {X = Option X} [] i ≡ Some (Some x) → ⊥
nothing_fixed {X} i x at = omega (arith, slice_get_within {A = Option X} [] i (Some x) at)

inputs_over : (at : Option (List Bool)) (p : Point) → IsAt at p → Overlays (fixed_bits at) p.inputs p.inputs
inputs_over None p is = record {
  fixed_there = λ i x there. absurd (nothing_fixed i x there);
  free_there = λ i free. refl;
}
inputs_over (Some bits) p is = record {
  fixed_there = λ i x there. ap (λ (l : List Bool). slice_get l i) is ∙ fixed_there bits i x there;
  free_there = λ i free. refl;
}

pub over_itself : (at : Option (List Bool)) (p : Point) → IsAt at p → IsOverlaid (fixed_of at) p p
over_itself at p is = record {
  inputs = inputs_over at p is;
  reads = record { fixed_there = λ i x there. absurd (nothing_fixed i x there); free_there = λ i free. refl };
}

-- no read is fixed
pub reads_fit : (nodes : List Node) (t : Term) (at : Option (List Bool)) → ReadsFit nodes t (fixed_of at)
reads_fit nodes t at = record { widths = λ read width b m there. absurd (nothing_fixed read b there) }

-- a point gives each read in one width
pub stands_one_width : (nodes : List Node) → IsDag nodes → (t : Term) (p : Point) (b : Bits) → Values nodes p t b → AsksOneWidth nodes t
stands_one_width nodes dag t p b stands = record {
  each = λ read v w m n.
      let has = has_mentioned nodes dag p t b stands in
      let x = has.reads read v m in
      let y = has.reads read w n in
      sym x.1.width ∙ ap (λ (b : Bits). b.width) (some_same x.0 y.0 (sym x.1.there ∙ y.1.there)) ∙ y.1.width;
}

-- a term stands for a number at a point that has all that it mentions, exactly where it asks for each read in one width
pub stands_if : (nodes : List Node) → IsDag nodes → (t : Term) → t.number < length nodes → (p : Point) →
    (AsksOneWidth nodes t → HasMentioned nodes t p) → (found : Option Bits) → IfSome found (Values nodes p t) →
    IfNone found ((b : Bits) → ¬ Values nodes p t b) → IsTrue (is_some found) ↔ AsksOneWidth nodes t
stands_if nodes dag t within p has (Some b) stands none = (λ some. stands_one_width nodes dag t p b stands, λ one. refl)
stands_if nodes dag t within p has None stands none = (
  λ some. absurd (true≢false (sym some)),
  λ one. let b = term_stands nodes dag p t within (has one) in absurd (none b.0 b.1),
)

-- ---- what is left, in the dag that has grown

module _ (old new : List Node) (dag : IsDag old) (keeps : (more : List Node) × (new ≡ old ++ more)) (t : Term) (within : t.number < length old) where
  grown : (P : List Node → Type 0) → P (old ++ keeps.0) → P new
  grown P h = subst P (sym keeps.1) h

  pub one_width_still : AsksOneWidth old t → AsksOneWidth new t
  one_width_still one = grown (λ n. AsksOneWidth n t) record {
    each = λ read v w m n. one.each read v w (reads_were old keeps.0 dag t within read v m) (reads_were old keeps.0 dag t within read w n);
  }

  pub two_widths_still : ¬ AsksOneWidth old t → ¬ AsksOneWidth new t
  two_widths_still not_one one = not_one record {
    each = λ read v w m n. one.each read v w (grown (λ n. MentionsRead n t read v) (reads_kept old keeps.0 dag t read v m))
        (grown (λ n. MentionsRead n t read w) (reads_kept old keeps.0 dag t read w n));
  }

  pub vars_still : (all : List Var) → AreVarsOf old t all → AreVarsOf new t all
  vars_still all are = grown (λ n. AreVarsOf n t all) record { rising = are.rising; mentioned = λ v. (λ h. up v ((are.mentioned v).0 h), λ m. (are.mentioned v).1 (down v m)) } where
    up : (v : Var) → Mentions old t v → Mentions (old ++ keeps.0) t v
    up (Input bit) m = bits_kept old keeps.0 dag t bit m
    up (Read r k) m = (m.0, reads_kept old keeps.0 dag t r m.0 m.1, m.2)

    down : (v : Var) → Mentions (old ++ keeps.0) t v → Mentions old t v
    down (Input bit) m = bits_were old keeps.0 dag t within bit m
    down (Read r k) m = (m.0, reads_were old keeps.0 dag t within r m.0 m.1, m.2)

  pub fixes_still : (at : Option (List Bool)) → FixesInputs old t at → FixesInputs new t at
  fixes_still None fixes = tt
  fixes_still (Some bits) fixes =
      grown (λ n. FixesInputs n t (Some bits)) (λ bit m. fixes bit (bits_were old keeps.0 dag t within bit m))

  left_is : (fixed : Fixed) (left : Term) → left.number < length new → width_of new left ≡ width_of old t → width_of new t ≡ width_of old t →
      ((p q : Point) (b : Bits) → IsOverlaid fixed p q → Values old q t b → Values new p left b) →
      ((bit : ℕ) → MentionsBit new left bit → MentionsBit old t bit) →
      ((bit : ℕ) → MentionsBit new left bit → ¬ IsFixedAt fixed.inputs bit) →
      ((read width : ℕ) → MentionsRead new left read width → MentionsRead old t read width) →
      ((read width : ℕ) → MentionsRead new left read width → ¬ IsFixedAt fixed.reads read) → IsSubstitute new fixed t left
  left_is fixed left inside width same value bits free_bits reads free_reads = record {
    within = inside;
    width = width ∙ sym same;
    value = λ p q b over v. value p q b over (values_were old dag q keeps.0 t b within (subst (λ (n : List Node). Values n q t b) keeps.1 v));
    bits = λ bit m. grown (λ n. MentionsBit n t bit) (bits_kept old keeps.0 dag t bit (bits bit m));
    free_bits = free_bits;
    reads = λ read w m. grown (λ n. MentionsRead n t read w) (reads_kept old keeps.0 dag t read w (reads read w m));
    free_reads = free_reads;
  }

  -- what is told of a substitution, where it succeeds
  pub ok_is_left : {E : Type 0} (fixed : Fixed) (r : Result Term E) → width_of new t ≡ width_of old t → IfOk r (λ x. x.number < length new) →
      IfOk r (λ x. width_of new x ≡ width_of old t) → IfOk r (λ x. (p q : Point) (b : Bits) → IsOverlaid fixed p q → Values old q t b → Values new p x b) →
      IfOk r (λ x. (bit : ℕ) → MentionsBit new x bit → MentionsBit old t bit) →
      IfOk r (λ x. (bit : ℕ) → MentionsBit new x bit → ¬ IsFixedAt fixed.inputs bit) →
      IfOk r (λ x. (read width : ℕ) → MentionsRead new x read width → MentionsRead old t read width) →
      IfOk r (λ x. (read width : ℕ) → MentionsRead new x read width → ¬ IsFixedAt fixed.reads read) →
      (q : Question) → q.term ≡ t → fixed ≡ fixed_of q.at → IfOk r (IsLeft new q)
  ok_is_left fixed (Ok x) same inside width value bits free_bits reads free_reads q is_term is_fixed =
      subst (λ (u : Term). IsSubstitute new (fixed_of q.at) u x) (sym is_term)
      (subst (λ (f : Fixed). IsSubstitute new f t x) is_fixed (left_is fixed x inside width same value bits free_bits reads free_reads))
  ok_is_left fixed (Err e) same inside width value bits free_bits reads free_reads q is_term is_fixed = tt

-- ---- the question goes by the bits of what is left

is_fixed : (bits : List Bool) (bit : ℕ) → bit < length bits → IsFixedAt (map Some bits) bit
is_fixed [] bit l = absurd (omega arith)
is_fixed (b ∷ bits) zero l = record { x = b; is = refl }
is_fixed (b ∷ bits) (suc bit) l = let h = is_fixed bits bit (omega arith) in record { x = h.x; is = h.is }

-- the value of a variable
abbrev value_of : List Var → List Bool → Var → Bool
value_of [] values v = false
value_of (x ∷ xs) [] v = false
value_of (x ∷ xs) (b ∷ bs) v = elim (var_or_not x v) [
  | inl e ↦ b
  | inr d ↦ value_of xs bs v
]

abbrev AreApart : List Var → Type 0
AreApart vars = (j k : ℕ) (u v : Var) → j < k → slice_get vars j ≡ Some u → slice_get vars k ≡ Some v → u ≢ v

found : (vars : List Var) (values : List Bool) → AreApart vars → (k : ℕ) (v : Var) (b : Bool) → slice_get vars k ≡ Some v →
    slice_get values k ≡ Some b → value_of vars values v ≡ b
found [] values apart k v b atv atb = absurd (omega (arith, slice_get_within {A = Var} [] k v atv))
found (x ∷ xs) [] apart k v b atv atb = absurd (omega (arith, slice_get_within {A = Bool} [] k b atb))
found (x ∷ xs) (c ∷ cs) apart zero v b atv atb = by (var_or_not x v) where
  by : (d : (x ≡ v) ⊎ (x ≢ v)) → elim d as (λ _. Bool) [ inl e ↦ c | inr n ↦ value_of xs cs v ] ≡ b
  by (inl e) = some_same c b atb
  by (inr n) = absurd (n (some_same x v atv))
found (x ∷ xs) (c ∷ cs) apart (suc k) v b atv atb =
    by (var_or_not x v) (found xs cs (λ i j u w l ati atj. apart (suc i) (suc j) u w (omega arith) ati atj) k v b atv atb) where
      by : (d : (x ≡ v) ⊎ (x ≢ v)) → value_of xs cs v ≡ b → elim d as (λ _. Bool) [ inl e ↦ c | inr n ↦ value_of xs cs v ] ≡ b
      by (inl e) rest = absurd (apart 0 (suc k) x v (omega arith) refl atv e)
      by (inr n) rest = rest

-- the point with the fixed bits as its inputs
abbrev placed : Option (List Bool) → Point → Point
placed None p = p
placed (Some bits) p = record { inputs = bits; reads = p.reads }

placed_at : (at : Option (List Bool)) (p : Point) → IsAt at (placed at p)
placed_at None p = tt
placed_at (Some bits) p = refl

placed_reads : (at : Option (List Bool)) (p : Point) → (placed at p).reads ≡ p.reads
placed_reads None p = refl
placed_reads (Some bits) p = refl

placed_inputs : (at : Option (List Bool)) (p : Point) → at ≡ None → (placed at p).inputs ≡ p.inputs
placed_inputs None p e = refl
placed_inputs (Some bits) p e = grind arith

placed_has : (nodes : List Node) (t : Term) (at : Option (List Bool)) (p : Point) → FixesInputs nodes t at → HasMentioned nodes t p →
    HasMentioned nodes t (placed at p)
placed_has nodes t None p fixes has = has
placed_has nodes t (Some bits) p fixes has = record {
  inputs = fixes;
  reads = λ read w m. let b = has.reads read w m in (b.0, record { there = b.1.there; width = b.1.width });
}

-- a point that has what a term mentions has its bits
pub values_of : (nodes : List Node) (t : Term) (p : Point) → HasMentioned nodes t p → (vars : List Var) → All (Mentions nodes t) vars →
    (values : List Bool) × (length values ≡ length vars) × HasBits p vars values
values_of nodes t p has vars mentioned = by vars (λ k v at. all_at (Mentions nodes t) vars v k mentioned at) where
  has_bit : (v : Var) → Mentions nodes t v → (b : Bool) × HasBit p v b
  has_bit (Input bit) m = (get_or p.inputs bit false, slice_get-get_or p.inputs bit false (has.inputs bit m))
  has_bit (Read r k) m =
      let x = has.reads r m.0 m.1 in
      let b = bit_there x.0.width x.0.value k (omega (arith, m.2, x.1.width)) in
      (b.0, (x.0, x.1.there, b.1))

  by : (vs : List Var) → ((k : ℕ) (v : Var) → slice_get vs k ≡ Some v → Mentions nodes t v) →
      (values : List Bool) × (length values ≡ length vs) × HasBits p vs values
  by [] each = ([], refl, record { each = tt })
  by (v ∷ vs) each =
      let b = has_bit v (each 0 v refl) in
      let rest = by vs (λ k u at. each (suc k) u at) in
      (b.0 ∷ rest.0, ap suc rest.1, record { each = (b.1, rest.2.each) })

module _ (nodes : List Node) (dag : IsDag nodes) (q : Question) (left : Term) (is_left : IsLeft nodes q left)
    (fixes : FixesInputs nodes q.term q.at) (vars : List Var) (are : AreVarsOf nodes left vars) where
  left_value : (p : Point) (b : Bits) → IsAt q.at p → Values nodes p q.term b → Values nodes p left b
  left_value p b at v = is_left.value p p b (over_itself q.at p at) v

  mentioned_in_left : (v : Var) → Mentions nodes left v → Mentions nodes q.term v
  mentioned_in_left (Input bit) m = is_left.bits bit m
  mentioned_in_left (Read r k) m = (m.0, is_left.reads r m.0 m.1, m.2)

  no_input : (o : Option (List Bool)) → q.at ≡ o → AreFree o vars
  no_input None e = tt
  no_input (Some bits) e = λ bit there.
      let m : MentionsBit nodes left bit = (are.mentioned (Input bit)).0 there in
      let fixed : FixesInputs nodes q.term (Some bits) = subst (FixesInputs nodes q.term) e fixes in
      is_left.free_bits bit m
      (subst (λ (o : Option (List Bool)). IsFixedAt (fixed_bits o) bit) (sym e) (is_fixed bits bit (fixed bit (is_left.bits bit m))))

  pub bits_are : AreBitsOf nodes q vars
  bits_are = record {
    rising = are.rising;
    mentioned = λ k d inside.
        mentioned_in_left (get_or vars k d) ((are.mentioned (get_or vars k d)).0 (contains_at vars (get_or vars k d) k (slice_get-get_or vars k d inside)));
    free = no_input q.at refl;
  }

  module _ (p r : Point) (values : List Bool) (hp : HasBits p vars values) (hr : HasBits r vars values)
      (mp : HasMentioned nodes left p) (mr : HasMentioned nodes left r) where
    same_bit : (v : Var) → Mentions nodes left v → (b : Bool) × HasBit p v b × HasBit r v b
    same_bit v m =
        let k = place_of vars v ((are.mentioned v).1 m) in
        let l : k.0 < length values = omega (arith, slice_get_within vars k.0 v k.1, long) in
        let atb = slice_get-get_or values k.0 false l in (
          get_or values k.0 false,
          zip_at (HasBit p) vars values k.0 v (get_or values k.0 false) hp.each k.1 atb,
          zip_at (HasBit r) vars values k.0 v (get_or values k.0 false) hr.each k.1 atb,
        )
      where
        zipped : (vs : List Var) (bs : List Bool) → AllZip (HasBit p) vs bs → length bs ≡ length vs
        zipped [] [] z = refl
        zipped [] (b ∷ bs) z = absurd z
        zipped (x ∷ vs) [] z = absurd z
        zipped (x ∷ vs) (b ∷ bs) z = ap suc (zipped vs bs z.1)

        long : length values ≡ length vars
        long = zipped vars values hp.each

    same_input : (bit : ℕ) → MentionsBit nodes left bit → slice_get r.inputs bit ≡ slice_get p.inputs bit
    same_input bit m = let b = same_bit (Input bit) m in b.2 ∙ sym b.1

    same_read : (read width : ℕ) → MentionsRead nodes left read width → slice_get r.reads read ≡ slice_get p.reads read
    same_read read width m =
        let x = mp.reads read width m in
        let y = mr.reads read width m in
        let e : y.0 ≡ x.0 = same_number y.0 x.0 (y.1.width ∙ sym x.1.width) (each x y) in
        y.1.there ∙ ap Some e ∙ sym x.1.there
      where
        each : (x : (b : Bits) × ReadGives p read width b) (y : (b : Bits) × ReadGives r read width b) (k : ℕ) → k < y.0.width →
            (b : Bool) × (slice_get (bits_of y.0.width y.0.value) k ≡ Some b) × (slice_get (bits_of x.0.width x.0.value) k ≡ Some b)
        each x y k l =
            let b = same_bit (Read read k) (width, m, omega (arith, l, y.1.width)) in
            let ex : b.1.0 ≡ x.0 = some_same b.1.0 x.0 (sym b.1.1 ∙ x.1.there) in
            let ey : b.2.0 ≡ y.0 = some_same b.2.0 y.0 (sym b.2.1 ∙ y.1.there) in (
              b.0,
              subst (λ (z : Bits). slice_get (bits_of z.width z.value) k ≡ Some b.0) ey b.2.2,
              subst (λ (z : Bits). slice_get (bits_of z.width z.value) k ≡ Some b.0) ex b.1.2,
            )

    same_on : AreSameOn nodes left p r
    same_on = record { inputs = same_input; reads = same_read }

  -- at points with the same bits what is left stands for the same
  left_goes_by : (p r : Point) (values : List Bool) (b c : Bits) → HasBits p vars values → HasBits r vars values →
      Values nodes p left b → Values nodes r left c → b ≡ c
  left_goes_by p r values b c hp hr vb vc =
      let same = same_on p r values hp hr (has_mentioned nodes dag p left b vb) (has_mentioned nodes dag r left c vc) in
      one_value nodes dag r left b c (same_value nodes dag p r left b same vb) vc

  pub goes_by : GoesBy nodes q vars
  goes_by p r values b c atp atr hp hr vb vc = left_goes_by p r values b c hp hr (left_value p b atp vb) (left_value r c atr vc)

  -- ---- the clauses

  module _ (one_width : AsksOneWidth nodes q.term) (within : q.term.number < length nodes) (all : List Var) (are_all : AreVarsOf nodes q.term all)
      (clauses : List (List Lit)) (formula : IsFormulaOf nodes left vars clauses) (determined : IsDetermined (length vars) clauses) where
    -- some point that the question asks about has the values, and all that the term mentions
    some_point : (values : List Bool) → length values ≡ length vars → (p : Point) × IsAt q.at p × HasBits p vars values × HasMentioned nodes q.term p
    some_point values long = by (point_with nodes dag q.term all are_all cut (map (value_of vars values) all) (length-map all (value_of vars values))) where
      cut : (r w : ℕ) → MentionsRead nodes q.term r w → Contains all (Read r w) → ⊥
      cut r w m there =
          let n : Mentions nodes q.term (Read r w) = (are_all.mentioned (Read r w)).0 there in
          omega (arith, n.2, one_width.each r n.0 w n.1 m)

      given : (p : Point) → HasBits p all (map (value_of vars values) all) → HasBits p vars values
      given p has = record { each = zip_from (HasBit p) vars values long one } where
        one : (k : ℕ) (v : Var) (b : Bool) → slice_get vars k ≡ Some v → slice_get values k ≡ Some b → HasBit p v b
        one k v b atv atb =
            let j = place_of all v ((are_all.mentioned v).1 (all_at (Mentions nodes q.term) vars v k bits_are.mentioned atv)) in
            let e : value_of vars values v ≡ b = found vars values (later_differs vars are.rising) k v b atv atb in
            zip_at (HasBit p) all (map (value_of vars values) all) j.0 v b has.each j.1
            (slice_get-map (value_of vars values) all j.0 ∙ ap (option_map (value_of vars values)) j.1 ∙ ap Some e)

      by : (p : Point) × HasBits p all (map (value_of vars values) all) × HasMentioned nodes q.term p →
          (p : Point) × IsAt q.at p × HasBits p vars values × HasMentioned nodes q.term p
      by (p, bits, has) = (
        placed q.at p,
        placed_at q.at p,
        has_given q.at p (placed q.at p) vars values bits_are.free (placed_reads q.at p) (placed_inputs q.at p) (given p bits),
        placed_has nodes q.term q.at p fixes has,
      )

    to_left : (values : List Bool) → IsTrueWith nodes q vars values → IsOneSomewhere nodes left vars values
    to_left values h = record {
      point = h.point;
      bits = h.bits;
      number = h.one.number;
      stands = left_value h.point h.one.number h.at h.one.stands;
      is_one = h.one.is_one;
    }

    from_left : (values : List Bool) → length values ≡ length vars → IsOneSomewhere nodes left vars values → IsTrueWith nodes q vars values
    from_left values long h =
        let p = some_point values long in
        let b = term_stands nodes dag p.0 q.term within p.3 in
        let e : b.0 ≡ h.number = left_goes_by p.0 h.point values b.0 h.number p.2 h.bits (left_value p.0 b.0 p.1 b.1) h.stands in
        record {
          point = p.0;
          at = p.1;
          bits = p.2;
          one = record { number = b.0; stands = b.1; is_one = ap (λ (x : Bits). x.value) e ∙ h.is_one };
        }

    pub is_about : IsAbout nodes q vars clauses
    is_about = record {
      bits = bits_are;
      goes_by = goes_by;
      exact = λ values long. (
        λ h. (formula.each values long).0 (to_left values h),
        λ h. from_left values long ((formula.each values long).1 h),
      );
      determined = determined;
    }

  -- where a read is asked for in two widths the question is true nowhere, and the empty clause says so
  pub never_is_about : ¬ AsksOneWidth nodes q.term → IsAbout nodes q vars ([] ∷ [])
  never_is_about not_one_width = record {
    bits = bits_are;
    goes_by = goes_by;
    exact = λ values long. (λ h. absurd (not_true values h), λ h. absurd (not_extendable values h));
    determined = λ chosen chooses. inl (0, [], omega arith, refl, λ i d l. absurd (omega arith));
  } where
    not_true : (values : List Bool) → IsTrueWith nodes q vars values → ⊥
    not_true values h = not_one_width (stands_one_width nodes dag q.term h.point h.one.number h.one.stands)

    not_extendable : (values : List Bool) → IsExtendable ([] ∷ []) values → ⊥
    not_extendable values h = let empty = h.satisfies 0 [] (omega arith) in omega (arith, empty.2)

-- what the calls say together, where they succeed
module _ {E : Type 0} (nodes : List Node) (dag : IsDag nodes) (q : Question) (left : Term) (is_left : IsLeft nodes q left)
    (r : Result Blasted E) (are : IfOk r (λ b. AreVarsOf nodes left b.vars)) where
  pub ok_about : FixesInputs nodes q.term q.at → AsksOneWidth nodes q.term → q.term.number < length nodes → (all : List Var) →
      AreVarsOf nodes q.term all → IfOk r (λ b. IsFormulaOf nodes left b.vars b.clauses) → IfOk r (λ b. IsDetermined (length b.vars) b.clauses) →
      IfOk r (λ b. IsAbout nodes q b.vars b.clauses)
  ok_about fixes one_width within all are_all formula determined = by r are formula determined where
    by : (s : Result Blasted E) → IfOk s (λ b. AreVarsOf nodes left b.vars) → IfOk s (λ b. IsFormulaOf nodes left b.vars b.clauses) →
        IfOk s (λ b. IsDetermined (length b.vars) b.clauses) → IfOk s (λ b. IsAbout nodes q b.vars b.clauses)
    by (Ok b) v f d = is_about nodes dag q left is_left fixes b.vars v one_width within all are_all b.clauses f d
    by (Err e) v f d = tt

  pub ok_never : FixesInputs nodes q.term q.at → ¬ AsksOneWidth nodes q.term → IfOk r (λ b. b.clauses ≡ [] ∷ []) →
      IfOk r (λ b. IsAbout nodes q b.vars b.clauses)
  ok_never fixes not_one_width never = by r are never where
    by : (s : Result Blasted E) → IfOk s (λ b. AreVarsOf nodes left b.vars) → IfOk s (λ b. b.clauses ≡ [] ∷ []) →
        IfOk s (λ b. IsAbout nodes q b.vars b.clauses)
    by (Ok b) v n = subst (λ (cs : List (List Lit)). IsAbout nodes q b.vars cs) (sym n)
        (never_is_about nodes dag q left is_left fixes b.vars v not_one_width)
    by (Err e) v n = tt

  pub ok_left : IfOk r (λ b. (x : Term) × IsLeft nodes q x × AreVarsOf nodes x b.vars)
  ok_left = by r are where
    by : (s : Result Blasted E) → IfOk s (λ b. AreVarsOf nodes left b.vars) → IfOk s (λ b. (x : Term) × IsLeft nodes q x × AreVarsOf nodes x b.vars)
    by (Ok b) v = (left, is_left, v)
    by (Err e) v = tt
