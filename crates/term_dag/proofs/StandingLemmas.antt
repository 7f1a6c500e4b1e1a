-- A term stands for a number exactly where the point has what it mentions, and goes by that alone.
use Rattle.std.proofs.Common.{◌≡◌, ℕ, zero, suc, ◌+◌, ◌-◌, ◌<◌, ◌≤◌, ◌^◌, inl, inr, Bool, List, [], ◌∷◌, Option, Some, None, length, reverse, slice_get, refl, sym, ap, subst, ◌∙◌, arith}
use Rattle.std.specs.Prelude.{◌==◌, if◌then◌else◌, slice_range}
use Rattle.std.proofs.lemmas.Nat.{pow_pos, mod_below}
use Rattle.std.proofs.lemmas.Option.{slice_get_within}
use Rattle.bits_core.proofs.RowLaws.{operator_value_below}
use Rattle.bits_core.proofs.WidthLaws.{wrapped_below}
use Rattle.bits_core.specs.BitList.{number_of}
use Rattle.bits_core.specs.Number.{slice_value, extend_value}
use Rattle.bits_core.specs.Operator.{shape_of, WidthsFit, result_width, operator_value}
use Rattle.bits_core.specs.declared.number.Bits.{Bits}
use Rattle.bits_core.specs.declared.operator.OpShape.TheVariants.{One as OneOperand}
use Rattle.bits_core.specs.declared.points.Point.{Point}
use Rattle.term_dag.specs.declared.node.Term.{Term}
use Rattle.term_dag.specs.declared.node.Node.{Node}
use Rattle.term_dag.specs.declared.node.Node.TheVariants.{Constant, Input, Read, One, Two, Slice, Extend, Choose}
use Rattle.term_dag.specs.Mention.{IsOperand, IsPartOf, MentionsBit, MentionsRead, HasMentioned, AreSameOn}
use Rattle.term_dag.specs.Mention.IsPartOf.{own, of_operand}
use Rattle.term_dag.specs.Value.{NodeGives, InputGives, ReadGives, StandsBelow, Values}
use Rattle.term_dag.specs.Width.{width_of, OperandsBelow, WidthsAllow, IsDag}
use Rattle.term_dag.proofs.BitRunLemmas.{same_range}
use Rattle.term_dag.proofs.BoundLemmas.{IsWidth, result_is_width, slice_is_width}
use Rattle.term_dag.proofs.InputSubstituteLemmas.{input_number}
use Rattle.term_dag.proofs.MentionLemmas.{operand_below}
use Rattle.term_dag.proofs.ValueLemmas.{value_from, value_to, enough, width_of_value}

there : {X : Type 0} (xs : List X) (k : ℕ) → k < length xs → slice_get xs k ≡ None → ⊥
there [] k l e = absurd (omega arith)
there (x ∷ xs) zero l e = grind arith
there (x ∷ xs) (suc k) l e = there xs k (omega arith) e

-- ---- what stands has all that it mentions

operand_value : (S : Term → Bits → Type 0) (p : Point) (node : Node) (a : Term) (b : Bits) → IsOperand node a → NodeGives S p node b
    → (x : Bits) × S a x
operand_value S p (Constant c) a b is h = absurd is
operand_value S p (Input first w) a b is h = absurd is
operand_value S p (Read read w) a b is h = absurd is
operand_value S p (One op y) a b is h = (h.x, subst (λ (t : Term). S t h.x) (sym is) h.operand)
operand_value S p (Two op y z) a b (inl is) h = (h.x, subst (λ (t : Term). S t h.x) (sym is) h.first)
operand_value S p (Two op y z) a b (inr is) h = (h.y, subst (λ (t : Term). S t h.y) (sym is) h.second)
operand_value S p (Slice y high low) a b is h = (h.x, subst (λ (t : Term). S t h.x) (sym is) h.operand)
operand_value S p (Extend y w signed) a b is h = (h.x, subst (λ (t : Term). S t h.x) (sym is) h.operand)
operand_value S p (Choose c y z) a b (inl is) h = (h.test, subst (λ (t : Term). S t h.test) (sym is) h.condition)
operand_value S p (Choose c y z) a b (inr (inl is)) h = (h.x, subst (λ (t : Term). S t h.x) (sym is) h.first)
operand_value S p (Choose c y z) a b (inr (inr is)) h = (h.y, subst (λ (t : Term). S t h.y) (sym is) h.second)

module _ (nodes : List Node) (dag : IsDag nodes) (p : Point) where
  part_gives : (part : Node) {t : Term} → IsPartOf nodes part t → (b : Bits) → Values nodes p t b
      → (c : Bits) × NodeGives (Values nodes p) p part c
  part_gives part (own t at) b v = (b, value_to nodes dag p t part b at v)
  part_gives part (of_operand t a node at is h) b v =
      let x = operand_value (Values nodes p) p node a b is (value_to nodes dag p t node b at v) in
      part_gives part h x.0 x.1

  pub has_mentioned : (t : Term) (b : Bits) → Values nodes p t b → HasMentioned nodes t p
  has_mentioned t b v = record {
    inputs = λ bit m. let g = part_gives (Input m.first m.width) m.part b v in omega (arith, g.1.there, m.before);
    reads = λ read width m. part_gives (Read read width) m b v;
  }

-- ---- what the point has all of stands

abbrev number : (w x : ℕ) → IsWidth w → x < 2 ^ w → Bits
number w x h fits = record { width = w; value = x; some_bit = h.some_bit; at_most_widest = h.at_most_widest; fits = fits }

abbrev of_bits : (b : Bits) → IsWidth b.width
of_bits b = record { some_bit = b.some_bit; at_most_widest = b.at_most_widest }

module _ (S : Term → Bits → Type 0) (width : Term → ℕ) (wide : (a : Term) (x : Bits) → S a x → x.width ≡ width a) (p : Point) where
  node_gives : (node : Node) → WidthsAllow width node → ((a : Term) → IsOperand node a → (x : Bits) × S a x)
      → ((first w : ℕ) → node ≡ Input first w → first + w ≤ length p.inputs)
      → ((read w : ℕ) → node ≡ Read read w → (b : Bits) × ReadGives p read w b)
      → (b : Bits) × NodeGives S p node b
  node_gives (Constant c) fit operands inputs reads = (c, refl)
  node_gives (Input first w) fit operands inputs reads =
      (input_number p first w fit.0 fit.1 (inputs first w refl), record { there = inputs first w refl; width = refl; value = refl })
  node_gives (Read read w) fit operands inputs reads = reads read w refl
  node_gives (One op a) fit operands inputs reads =
      let x = operands a refl in
      let fits : WidthsFit (shape_of op) x.0.width 0 = subst (λ h. WidthsFit h x.0.width 0) (sym fit) tt in
      let same : result_width (shape_of op) x.0.width 0 ≡ x.0.width = ap (λ h. result_width h x.0.width 0) fit in (
        number x.0.width (operator_value op x.0.width x.0.value 0 0) (of_bits x.0)
            (subst (λ (w : ℕ). operator_value op x.0.width x.0.value 0 0 < 2 ^ w) same
            (operator_value_below op x.0.width x.0.value 0 0 fits x.0.fits (omega arith))),
        record { x = x.0; operand = x.1; width = refl; value = refl },
      )
  node_gives (Two op a c) fit operands inputs reads =
      let x = operands a (inl refl) in
      let y = operands c (inr refl) in
      let fits : WidthsFit (shape_of op) x.0.width y.0.width =
      subst (λ (w : ℕ). WidthsFit (shape_of op) w y.0.width) (sym (wide a x.0 x.1))
      (subst (λ (v : ℕ). WidthsFit (shape_of op) (width a) v) (sym (wide c y.0 y.1)) fit.1) in (
        number (result_width (shape_of op) x.0.width y.0.width) (operator_value op x.0.width x.0.value y.0.width y.0.value)
            (result_is_width (shape_of op) x.0.width y.0.width fits (of_bits x.0) (of_bits y.0))
            (operator_value_below op x.0.width x.0.value y.0.width y.0.value fits x.0.fits y.0.fits),
        record { x = x.0; y = y.0; first = x.1; second = y.1; width = refl; value = refl },
      )
  node_gives (Slice a high low) fit operands inputs reads =
      let x = operands a refl in
      let within : high < x.0.width = subst (λ (w : ℕ). high < w) (sym (wide a x.0 x.1)) fit.1 in (
        number (high - low + 1) (slice_value x.0.value high low) (slice_is_width x.0.width high low fit.0 within (of_bits x.0))
            (mod_below _ _ (pow_pos (high - low + 1))),
        record { x = x.0; operand = x.1; width = refl; value = refl },
      )
  node_gives (Extend a w signed) fit operands inputs reads =
      let x = operands a refl in (
        number w (extend_value signed x.0.width x.0.value w) record { some_bit = fit.0; at_most_widest = fit.1 } (wrapped_below w _),
        record { x = x.0; operand = x.1; width = refl; value = refl },
      )
  node_gives (Choose c a d) fit operands inputs reads =
      let test = operands c (inl refl) in
      let x = operands a (inr (inl refl)) in
      let y = operands d (inr (inr refl)) in (
        if test.0.value == 1 then x.0 else y.0,
        record { test = test.0; x = x.0; y = y.0; condition = test.1; first = x.1; second = y.1; value = refl },
      )

module _ (nodes : List Node) (dag : IsDag nodes) (p : Point) where
  has_of_operand : (t a : Term) (node : Node) → slice_get nodes t.number ≡ Some node → IsOperand node a
      → HasMentioned nodes t p → HasMentioned nodes a p
  has_of_operand t a node at is has = record {
    inputs = λ bit m. has.inputs bit record {
      first = m.first;
      width = m.width;
      part = of_operand t a node at is m.part;
      from = m.from;
      before = m.before;
    };
    reads = λ read w m. has.reads read w (of_operand t a node at is m);
  }

  input_there : (t : Term) (first w : ℕ) → 1 ≤ w → slice_get nodes t.number ≡ Some (Input first w) → HasMentioned nodes t p
      → first + w ≤ length p.inputs
  input_there t first w some at has =
      omega (
        arith,
        has.inputs (first + w - 1) record {
          first = first;
          width = w;
          part = own t at;
          from = omega arith;
          before = omega arith;
        },
      )

  some_bit_of : (node : Node) (first w : ℕ) → WidthsAllow (width_of nodes) node → node ≡ Input first w → 1 ≤ w
  some_bit_of node first w fit e =
      let f : WidthsAllow (width_of nodes) (Input first w) = subst (WidthsAllow (width_of nodes)) e fit in f.0

  by_node : (t : Term) (o : Option Node) → t.number < length nodes → HasMentioned nodes t p
      → ((a : Term) → a.number < t.number → HasMentioned nodes a p → (x : Bits) × Values nodes p a x)
      → slice_get nodes t.number ≡ o → (b : Bits) × Values nodes p t b
  by_node t None within has below at = absurd (there nodes t.number within at)
  by_node t (Some node) within has below at =
      let fit = dag.fit t.number node at in
      let g = node_gives (Values nodes p) (width_of nodes) (λ a x v. width_of_value nodes dag p a x v) p node fit
      (λ a is. below a (operand_below t.number node a (dag.ordered t.number node at) is) (has_of_operand t a node at is has))
      (λ first w e. input_there t first w (some_bit_of node first w fit e) (at ∙ ap Some e) has)
      (λ read w e. has.reads read w (own t (at ∙ ap Some e))) in
      (g.0, value_from nodes dag p t node g.0 at g.1)

  stands_below : (n : ℕ) (t : Term) → t.number < n → t.number < length nodes → HasMentioned nodes t p → (b : Bits) × Values nodes p t b
  stands_below zero t l within has = absurd (omega arith)
  stands_below (suc n) t l within has =
      by_node t (slice_get nodes t.number) within has (λ a k h. stands_below n a (omega arith) (omega arith) h) refl

  pub term_stands : (t : Term) → t.number < length nodes → HasMentioned nodes t p → (b : Bits) × Values nodes p t b
  term_stands t within has = stands_below (suc t.number) t (omega arith) within has

-- ---- two points

module _ (p q : Point) (first w : ℕ) (some : 1 ≤ w)
    (same : (bit : ℕ) → first ≤ bit → bit < first + w → slice_get q.inputs bit ≡ slice_get p.inputs bit) where
  as_long : first + w ≤ length p.inputs → first + w ≤ length q.inputs
  as_long l = by (slice_get p.inputs (first + w - 1)) refl
    where
      by : (b : Option Bool) → slice_get p.inputs (first + w - 1) ≡ b → first + w ≤ length q.inputs
      by (Some b) e =
          omega (arith, slice_get_within q.inputs (first + w - 1) b (same (first + w - 1) (omega arith) (omega arith) ∙ e))
      by None e = absurd (there p.inputs (first + w - 1) (omega arith) e)

  same_input : (b : Bits) → InputGives p first w b → InputGives q first w b
  same_input b g = record {
    there = as_long g.there;
    width = g.width;
    value = g.value ∙ ap (λ (l : List Bool). number_of (reverse l))
        (same_range p.inputs q.inputs first (first + w) (λ k l m. sym (same k l m)));
  }

module _ (S T : Term → Bits → Type 0) (p q : Point) where
  same_gives : (node : Node) (b : Bits) → ((a : Term) (x : Bits) → IsOperand node a → S a x → T a x)
      → ((first w : ℕ) → node ≡ Input first w → InputGives p first w b → InputGives q first w b)
      → ((read w : ℕ) → node ≡ Read read w → ReadGives p read w b → ReadGives q read w b)
      → NodeGives S p node b → NodeGives T q node b
  same_gives (Constant c) b along inputs reads h = h
  same_gives (Input first w) b along inputs reads h = inputs first w refl h
  same_gives (Read read w) b along inputs reads h = reads read w refl h
  same_gives (One op a) b along inputs reads h =
      record { x = h.x; operand = along a h.x refl h.operand; width = h.width; value = h.value }
  same_gives (Two op a c) b along inputs reads h =
      record {
        x = h.x;
        y = h.y;
        first = along a h.x (inl refl) h.first;
        second = along c h.y (inr refl) h.second;
        width = h.width;
        value = h.value;
      }
  same_gives (Slice a high low) b along inputs reads h =
      record { x = h.x; operand = along a h.x refl h.operand; width = h.width; value = h.value }
  same_gives (Extend a w signed) b along inputs reads h =
      record { x = h.x; operand = along a h.x refl h.operand; width = h.width; value = h.value }
  same_gives (Choose c a d) b along inputs reads h =
      record {
        test = h.test;
        x = h.x;
        y = h.y;
        condition = along c h.test (inl refl) h.condition;
        first = along a h.x (inr (inl refl)) h.first;
        second = along d h.y (inr (inr refl)) h.second;
        value = h.value;
      }

module _ (nodes : List Node) (dag : IsDag nodes) (p q : Point) where
  same_of_operand : (t a : Term) (node : Node) → slice_get nodes t.number ≡ Some node → IsOperand node a
      → AreSameOn nodes t p q → AreSameOn nodes a p q
  same_of_operand t a node at is same = record {
    inputs = λ bit m. same.inputs bit record {
      first = m.first;
      width = m.width;
      part = of_operand t a node at is m.part;
      from = m.from;
      before = m.before;
    };
    reads = λ read w m. same.reads read w (of_operand t a node at is m);
  }

  its_input : (t : Term) (first w : ℕ) (b : Bits) → 1 ≤ w → slice_get nodes t.number ≡ Some (Input first w) → AreSameOn nodes t p q
      → InputGives p first w b → InputGives q first w b
  its_input t first w b some at same g =
      same_input p q first w some
      (λ bit l m. same.inputs bit record { first = first; width = w; part = own t at; from = l; before = m }) b g

  same_below : (n : ℕ) (t : Term) (b : Bits) → AreSameOn nodes t p q → StandsBelow n nodes p t b → Values nodes q t b
  same_below zero t b same h = absurd h
  same_below (suc n) t b same h =
      value_from nodes dag q t h.node b h.at
      (same_gives (StandsBelow n nodes p) (Values nodes q) p q h.node b
      (λ a x is s. same_below n a x (same_of_operand t a h.node h.at is same) s)
      (λ first w e g. its_input t first w b (some_bit_of nodes dag p h.node first w (dag.fit t.number h.node h.at) e) (h.at ∙ ap Some e) same g)
      (λ read w e g. record { there = same.reads read w (own t (h.at ∙ ap Some e)) ∙ g.there; width = g.width }) h.gives)

  pub same_value : (t : Term) (b : Bits) → AreSameOn nodes t p q → Values nodes p t b → Values nodes q t b
  same_value t b same v = same_below (suc t.number) t b same v
