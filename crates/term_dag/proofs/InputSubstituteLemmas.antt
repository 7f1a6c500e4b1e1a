-- The terms of runs of input bits, and of two runs in a row.
use Rattle.std.proofs.Common.{◌≡◌, ℕ, zero, suc, ◌+◌, ◌-◌, ◌*◌, ◌<◌, ◌≤◌, ◌^◌, ◌⊎◌, inl, inr, Bool, List, [], ◌∷◌, Option, Some, None, length, reverse, slice_get, refl, sym, ap, subst, ◌∙◌, arith}
use Rattle.std.specs.Prelude.{slice_range}
use Rattle.std.proofs.lemmas.List.{length-reverse}
use Rattle.std.proofs.lemmas.Option.{slice_get_within}
use Rattle.bits_core.specs.BitList.{number_of}
use Rattle.bits_core.proofs.BitListLaws.{number_of_below}
use Rattle.bits_core.proofs.NumberLaws.{same_fields}
use Rattle.bits_core.specs.declared.number.Bits.{Bits}
use Rattle.bits_core.specs.declared.operator.Op.TheVariants.{Cat}
use Rattle.bits_core.specs.declared.points.Point.{Point}
use Rattle.term_dag.specs.declared.fixed.Fixed.{Fixed}
use Rattle.term_dag.specs.declared.node.Term.{Term}
use Rattle.term_dag.specs.declared.node.Node.{Node}
use Rattle.term_dag.specs.declared.node.Node.TheVariants.{Constant, Input, Read, Two}
use Rattle.term_dag.specs.Folding.{IsConstant}
use Rattle.term_dag.specs.Made.{AddsTo, IsMade}
use Rattle.term_dag.specs.Mention.{IsOperand, IsPartOf, MentionsBit, MentionsRead}
use Rattle.term_dag.specs.Substitute.{IsInputSubstitute}
use Rattle.term_dag.specs.Substitution.{IsFixedAt, Overlays, IsOverlaid}
use Rattle.term_dag.specs.Value.{NodeGives, InputGives, Values}
use Rattle.term_dag.specs.Width.{width_of, OperandsBelow, Fits, IsDag}
use Rattle.term_dag.proofs.BitRunLemmas.{range_sum, number_of_two, same_range, range_length}
use Rattle.term_dag.proofs.MentionLemmas.{made_parts}
use Rattle.term_dag.proofs.SubstituteLemmas.{adds_both, input_substitute_kept}

-- a part that is no constant, of the term that was made of a node
module _ (old new : List Node) (dag : IsDag old) (keeps : AddsTo old new) (node : Node) (below : OperandsBelow (length old) node)
    (r : Term) (made : IsMade old new node r) where
  pub parts_of_made : (part : Node) → ((x : Bits) → Constant x ≡ part → ⊥) → IsPartOf new part r
      → (node ≡ part) ⊎ ((a : Term) × IsOperand node a × IsPartOf old part a)
  parts_of_made part proper h =
      let e = keeps.1 in
      made_parts old keeps.0 dag node below r made.side
      (λ k. subst (λ (l : List Node). IsConstant l r) e (made.constant k))
      (λ c k. subst (λ (l : List Node). slice_get l r.number ≡ Some node) e (made.node_stands c k)) part proper
      (subst (λ (l : List Node). IsPartOf l part r) e h)

no_part_of_constant : (old new : List Node) → IsDag old → AddsTo old new → (x : Bits) (r : Term) → IsMade old new (Constant x) r
    → (part : Node) → ((x : Bits) → Constant x ≡ part → ⊥) → IsPartOf new part r → ⊥
no_part_of_constant old new dag keeps x r made part proper h =
    elim (parts_of_made old new dag keeps (Constant x) tt r made part proper h) [
      | inl is ↦ proper x is
      | inr k ↦ k.1
    ]

pub no_bit_of_constant : (old new : List Node) → IsDag old → AddsTo old new → (x : Bits) (r : Term) → IsMade old new (Constant x) r
    → (bit : ℕ) → MentionsBit new r bit → ⊥
no_bit_of_constant old new dag keeps x r made bit m =
    no_part_of_constant old new dag keeps x r made (Input m.first m.width) (λ x e. grind arith) m.part

pub no_read_of_constant : (old new : List Node) → IsDag old → AddsTo old new → (x : Bits) (r : Term) → IsMade old new (Constant x) r
    → (read w : ℕ) → MentionsRead new r read w → ⊥
no_read_of_constant old new dag keeps x r made read w m =
    no_part_of_constant old new dag keeps x r made (Read read w) (λ x e. grind arith) m

module _ (old new : List Node) (dag : IsDag old) (keeps : AddsTo old new) (fixed : Fixed) (from to : ℕ) (less : from < to) (r : Term) where
  whole : from + (to - from) ≡ to
  whole = omega arith

  -- bits that are fixed
  pub fixed_run_done : (x : Bits) → x.width ≡ to - from
      → ((under over : List Bool) → Overlays fixed.inputs under over → x.value ≡ number_of (reverse (slice_range over from to)))
      → IsMade old new (Constant x) r → IsInputSubstitute new fixed from (to - from) r
  fixed_run_done x wide is made = record {
    within = made.within;
    width = made.width ∙ wide;
    value = λ p q b o g. made.value p b (same_fields b x (g.width ∙ sym wide)
        (g.value ∙ ap (λ n. number_of (reverse (slice_range q.inputs from n))) whole ∙ sym (is p.inputs q.inputs o.inputs)));
    from = λ bit m. absurd (no_bit_of_constant old new dag keeps x r made bit m);
    before = λ bit m. absurd (no_bit_of_constant old new dag keeps x r made bit m);
    free_bits = λ bit m. absurd (no_bit_of_constant old new dag keeps x r made bit m);
    no_reads = λ read w m. no_read_of_constant old new dag keeps x r made read w m;
  }

  -- bits that are free
  module _ (free : (bit : ℕ) → from ≤ bit → bit < to → IsFixedAt fixed.inputs bit → ⊥)
      (made : IsMade old new (Input from (to - from)) r) where
    own_input : (first w : ℕ) → IsPartOf new (Input first w) r → Input from (to - from) ≡ Input first w
    own_input first w h =
        elim (parts_of_made old new dag keeps (Input from (to - from)) tt r made (Input first w) (λ x e. grind arith) h) [
          | inl is ↦ is
          | inr k ↦ absurd k.1
        ]

    first_is : (first w : ℕ) → Input from (to - from) ≡ Input first w → from ≡ first
    first_is first w e = grind arith

    width_is : (first w : ℕ) → Input from (to - from) ≡ Input first w → to - from ≡ w
    width_is first w e = grind arith

    bit_from : (bit : ℕ) → MentionsBit new r bit → from ≤ bit
    bit_from bit m = omega (arith, first_is m.first m.width (own_input m.first m.width m.part), m.from)

    bit_before : (bit : ℕ) → MentionsBit new r bit → bit < from + (to - from)
    bit_before bit m =
        omega (
          arith,
          first_is m.first m.width (own_input m.first m.width m.part),
          width_is m.first m.width (own_input m.first m.width m.part),
          m.before,
        )

    reads_none : (read w : ℕ) → MentionsRead new r read w → ⊥
    reads_none read w h =
        elim (parts_of_made old new dag keeps (Input from (to - from)) tt r made (Read read w) (λ x e. grind arith) h) [
          | inl is ↦ grind arith
          | inr k ↦ k.1
        ]

    same_there : (p q : Point) → IsOverlaid fixed p q → (k : ℕ) → from ≤ k → k < to → slice_get q.inputs k ≡ slice_get p.inputs k
    same_there p q o k l m = o.inputs.free_there k (free k l m)

    as_long : (p q : Point) → IsOverlaid fixed p q → to ≤ length q.inputs → to ≤ length p.inputs
    as_long p q o l = by (slice_get q.inputs (to - 1)) refl
      where
        found : {X : Type 0} (xs : List X) (k : ℕ) → k < length xs → slice_get xs k ≡ None → ⊥
        found [] k l e = absurd (omega arith)
        found (x ∷ xs) zero l e = grind arith
        found (x ∷ xs) (suc k) l e = found xs k (omega arith) e

        by : (b : Option Bool) → slice_get q.inputs (to - 1) ≡ b → to ≤ length p.inputs
        by (Some b) e =
            let there : slice_get p.inputs (to - 1) ≡ Some b = sym (same_there p q o (to - 1) (omega arith) (omega arith)) ∙ e in
            omega (arith, slice_get_within p.inputs (to - 1) b there)
        by None e = absurd (found q.inputs (to - 1) (omega arith) e)

    input_gives : (p q : Point) (b : Bits) → IsOverlaid fixed p q → InputGives q from (to - from) b → InputGives p from (to - from) b
    input_gives p q b o g =
        let long : to ≤ length q.inputs = subst (λ (n : ℕ). n ≤ length q.inputs) whole g.there in
        record {
          there = subst (λ (n : ℕ). n ≤ length p.inputs) (sym whole) (as_long p q o long);
          width = g.width;
          value = g.value ∙ ap (λ (l : List Bool). number_of (reverse l))
              (same_range q.inputs p.inputs from (from + (to - from)) (λ k l m. same_there p q o k l (omega arith)));
        }

    pub free_run_done : IsInputSubstitute new fixed from (to - from) r
    free_run_done = record {
      within = made.within;
      width = made.width;
      value = λ p q b o g. made.value p b (input_gives p q b o g);
      from = bit_from;
      before = bit_before;
      free_bits = λ bit m. free bit (bit_from bit m) (subst (λ (n : ℕ). bit < n) whole (bit_before bit m));
      no_reads = reads_none;
    }

-- ---- two runs in a row

pub gives_below : (q : Point) (from w : ℕ) → from + w ≤ length q.inputs
    → number_of (reverse (slice_range q.inputs from (from + w))) < 2 ^ w
gives_below q from w l =
    let e : from + w - from ≡ w = omega arith in
    let long : length (reverse (slice_range q.inputs from (from + w))) ≡ w =
    length-reverse (slice_range q.inputs from (from + w)) ∙ range_length q.inputs from (from + w) l ∙ e in
    subst (λ (n : ℕ). number_of (reverse (slice_range q.inputs from (from + w))) < 2 ^ n) long
    (number_of_below (reverse (slice_range q.inputs from (from + w))))

abbrev pub input_number : (q : Point) (from w : ℕ) → 1 ≤ w → w ≤ 128 → from + w ≤ length q.inputs → Bits
input_number q from w some most l = record {
  width = w;
  value = number_of (reverse (slice_range q.inputs from (from + w)));
  some_bit = some;
  at_most_widest = most;
  fits = gives_below q from w l;
}

module _ (nodes : List Node) (dag : IsDag nodes) (fixed : Fixed) (from a c : ℕ) (some : 1 ≤ a) (also : 1 ≤ c) (most : a + c ≤ 128)
    (s r : Term) (left : IsInputSubstitute nodes fixed from a s) (right : IsInputSubstitute nodes fixed (from + a) c r) where
  pub joined_fits : Fits nodes (Two Cat s r)
  joined_fits = record { operands = (left.within, right.within); widths = ((λ e. grind arith), fit) }
    where
      fit : width_of nodes s + width_of nodes r ≤ 128
      fit = omega (arith, left.width, right.width)

  module _ (new : List Node) (keeps : AddsTo nodes new) (t : Term) (made : IsMade nodes new (Two Cat s r) t) where
    gives : (p q : Point) (b : Bits) → IsOverlaid fixed p q → InputGives q from (a + c) b → NodeGives (Values nodes p) p (Two Cat s r) b
    gives p q b o g =
        let l : from + a ≤ length q.inputs = omega (arith, g.there) in
        let m : from + a + c ≤ length q.inputs = omega (arith, g.there) in
        record {
          x = input_number q from a some (omega arith) l;
          y = input_number q (from + a) c also (omega arith) m;
          first = left.value p q _ o record { there = l; width = refl; value = refl };
          second = right.value p q _ o record { there = m; width = refl; value = refl };
          width = g.width;
          value = g.value ∙ ap (λ (l : List Bool). number_of (reverse l)) (range_sum q.inputs from a c)
              ∙ number_of_two (slice_range q.inputs from (from + a)) (slice_range q.inputs (from + a) (from + a + c))
              ∙ ap (λ n. number_of (reverse (slice_range q.inputs from (from + a))) * 2 ^ n
              + number_of (reverse (slice_range q.inputs (from + a) (from + a + c))))
              (range_length q.inputs (from + a) (from + a + c) m ∙ long);
        }
      where
        long : from + a + c - (from + a) ≡ c
        long = omega arith

    of_either : (part : Node) → ((x : Bits) → Constant x ≡ part → ⊥) → (Two Cat s r ≡ part → ⊥) → IsPartOf new part t
        → IsPartOf nodes part s ⊎ IsPartOf nodes part r
    of_either part proper differs h =
        elim (parts_of_made nodes new dag keeps (Two Cat s r) joined_fits.operands t made part proper h) [
          | inl is ↦ absurd (differs is)
          | inr k ↦ side k.0 k.1 k.2
        ]
      where
        side : (x : Term) → (x ≡ s) ⊎ (x ≡ r) → IsPartOf nodes part x → IsPartOf nodes part s ⊎ IsPartOf nodes part r
        side x (inl e) h = inl (subst (IsPartOf nodes part) e h)
        side x (inr e) h = inr (subst (IsPartOf nodes part) e h)

    bit_of_either : (bit : ℕ) → MentionsBit new t bit → MentionsBit nodes s bit ⊎ MentionsBit nodes r bit
    bit_of_either bit m =
        elim (of_either (Input m.first m.width) (λ x e. grind arith) (λ e. grind arith) m.part) [
          | inl h ↦ inl record { first = m.first; width = m.width; part = h; from = m.from; before = m.before }
          | inr h ↦ inr record { first = m.first; width = m.width; part = h; from = m.from; before = m.before }
        ]

    pub joined_done : IsInputSubstitute new fixed from (a + c) t
    joined_done = record {
      within = made.within;
      width = made.width ∙ (λ i. left.width i + right.width i);
      value = λ p q b o g. made.value p b (gives p q b o g);
      from = λ bit m. elim (bit_of_either bit m) [
        | inl h ↦ left.from bit h
        | inr h ↦ omega (arith, right.from bit h)
      ];
      before = λ bit m. elim (bit_of_either bit m) [
        | inl h ↦ omega (arith, left.before bit h)
        | inr h ↦ omega (arith, right.before bit h)
      ];
      free_bits = λ bit m. elim (bit_of_either bit m) [
        | inl h ↦ left.free_bits bit h
        | inr h ↦ right.free_bits bit h
      ];
      no_reads = λ read w h. elim (of_either (Read read w) (λ x e. grind arith) (λ e. grind arith) h) [
        | inl k ↦ left.no_reads read w k
        | inr k ↦ right.no_reads read w k
      ];
    }

-- the runs up to one place, of those up to an end
pub record IsInputSoFar (start now : List Node) (fixed : Fixed) (first at end : ℕ) (term : Term) : Type 0 where
  pub adds : AddsTo start now
  pub dag : IsDag now
  pub done : IsInputSubstitute now fixed first (at - first) term
  pub after : first < at
  pub within : at ≤ end
  pub turn : at < end → at ≤ length fixed.inputs

module _ (start now : List Node) (fixed : Fixed) (first at end : ℕ) (term : Term) (so_far : IsInputSoFar start now fixed first at end term)
    (next : ℕ) (on : at < next) (within : next ≤ end) (most : end ≤ first + 128) (mid : List Node) (grown : IsDag mid) (keeps : AddsTo now mid)
    (run : Term) (done : IsInputSubstitute mid fixed at (next - at) run) where
  left_run : IsInputSubstitute mid fixed first (at - first) term
  left_run = input_substitute_kept now mid so_far.dag keeps fixed first (at - first) term so_far.done

  right_run : IsInputSubstitute mid fixed (first + (at - first)) (next - at) run
  right_run =
      let e : at ≡ first + (at - first) = omega (arith, so_far.after) in
      subst (λ (n : ℕ). IsInputSubstitute mid fixed n (next - at) run) e done

  pub run_fits : Fits mid (Two Cat term run)
  run_fits =
      joined_fits mid grown fixed first (at - first) (next - at) (omega (arith, so_far.after)) (omega arith) (omega (arith, so_far.after))
      term run left_run right_run

  pub run_joined : (new : List Node) (t : Term) → IsDag new → AddsTo mid new → IsMade mid new (Two Cat term run) t
      → (next < end → next ≤ length fixed.inputs) → IsInputSoFar start new fixed first next end t
  run_joined new t dag adds made turn =
      let e : at - first + (next - at) ≡ next - first = omega (arith, so_far.after) in
      record {
        adds = adds_both start now new so_far.adds (adds_both now mid new keeps adds);
        dag = dag;
        done = subst (λ (n : ℕ). IsInputSubstitute new fixed first n t) e
            (joined_done mid grown fixed first (at - first) (next - at) (omega (arith, so_far.after)) (omega arith) (omega (arith, so_far.after))
            term run left_run right_run new adds t made);
        after = omega (arith, so_far.after);
        within = within;
        turn = turn;
      }
