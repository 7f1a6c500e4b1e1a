-- A node on the operands' substitutes makes the substitute of its term, and what is one stays one.
use Rattle.std.proofs.Common.{append_assoc, slice_index_or, ◌≡◌, ℕ, ◌<◌, ◌≤◌, ◌⊎◌, inl, inr, List, ◌++◌, Some, length, slice_get, refl, sym, ap, subst, ◌∙◌, arith}
use Rattle.std.proofs.lemmas.Option.{slice_get_within, slice_get-get_or}
use Rattle.bits_core.specs.Operator.{shape_of, WidthsFit, result_width}
use Rattle.bits_core.specs.declared.number.Bits.{Bits}
use Rattle.bits_core.specs.declared.points.Point.{Point}
use Rattle.term_dag.specs.declared.fixed.Fixed.{Fixed}
use Rattle.term_dag.specs.declared.node.Term.{Term}
use Rattle.term_dag.specs.declared.node.Node.{Node}
use Rattle.term_dag.specs.declared.node.Node.TheVariants.{Constant, Input, Read, One, Two, Slice, Extend, Choose}
use Rattle.term_dag.specs.Folding.{IsConstant, IsChosen, HasConstantOperands, HasConstantCondition}
use Rattle.term_dag.specs.Made.{AddsTo}
use Rattle.term_dag.specs.Mention.{IsOperand, IsPartOf, MentionsBit, MentionsRead}
use Rattle.term_dag.specs.Mention.IsPartOf.{own}
use Rattle.term_dag.specs.Substitute.{IsSubstitute, IsInputSubstitute, AreOperandsDone, changed}
use Rattle.term_dag.specs.Substitution.{IsFixedAt, IsOverlaid, ReadsFit}
use Rattle.term_dag.specs.Value.{NodeGives, ReadGives, Values}
use Rattle.term_dag.specs.Width.{node_width, width_of, OperandsBelow, WidthsAllow, Fits, IsDag}
use Rattle.term_dag.proofs.InsertLemmas.{kept_older}
use Rattle.term_dag.proofs.MentionLemmas.{parts_kept, parts_were, parts_from, parts_to, made_parts, operand_below}
use Rattle.term_dag.proofs.NodeListLemmas.{slice_get_append}
use Rattle.term_dag.proofs.ValueLemmas.{values_kept, values_were, value_from, value_to}
use Rattle.term_dag.proofs.WidthLemmas.{width_of_kept, width_of_at}

some_same : {X : Type 0} (x y : X) → Some x ≡ Some y → x ≡ y
some_same x y e = grind arith

-- ---- what is added, and what is mentioned

pub adds_both : (old mid new : List Node) → AddsTo old mid → AddsTo mid new → AddsTo old new
adds_both old mid new h k = (h.0 ++ k.0, k.1 ∙ ap (λ (l : List Node). l ++ k.0) h.1 ∙ append_assoc old h.0 k.0)

pub bits_along : (old new : List Node) (s t : Term) → ((first w : ℕ) → IsPartOf old (Input first w) s → IsPartOf new (Input first w) t)
    → (bit : ℕ) → MentionsBit old s bit → MentionsBit new t bit
bits_along old new s t along bit m =
    record { first = m.first; width = m.width; part = along m.first m.width m.part; from = m.from; before = m.before }

module _ (nodes more : List Node) (dag : IsDag nodes) (t : Term) where
  pub bits_kept : (bit : ℕ) → MentionsBit nodes t bit → MentionsBit (nodes ++ more) t bit
  bits_kept = bits_along nodes (nodes ++ more) t t (λ first w h. parts_kept nodes (Input first w) more h)

  pub bits_were : t.number < length nodes → (bit : ℕ) → MentionsBit (nodes ++ more) t bit → MentionsBit nodes t bit
  bits_were l = bits_along (nodes ++ more) nodes t t (λ first w h. parts_were nodes (Input first w) more dag l h)

  pub reads_kept : (read w : ℕ) → MentionsRead nodes t read w → MentionsRead (nodes ++ more) t read w
  reads_kept read w h = parts_kept nodes (Read read w) more h

  pub reads_were : t.number < length nodes → (read w : ℕ) → MentionsRead (nodes ++ more) t read w → MentionsRead nodes t read w
  reads_were l read w h = parts_were nodes (Read read w) more dag l h

-- ---- a dag that grows

module _ (nodes new : List Node) (dag : IsDag nodes) (keeps : (more : List Node) × (new ≡ nodes ++ more)) (fixed : Fixed) where
  still : (r : Term) → r.number < length nodes → r.number < length (nodes ++ keeps.0)
  still r l = (kept_older nodes (nodes ++ keeps.0) dag (keeps.0, refl) r l).0

  pub substitute_kept : (t r : Term) → t.number < length nodes → IsSubstitute nodes fixed t r → IsSubstitute new fixed t r
  substitute_kept t r l is =
      subst (λ (n : List Node). IsSubstitute n fixed t r) (sym keeps.1)
      record {
        within = still r is.within;
        width = width_of_kept nodes dag keeps.0 r is.within ∙ is.width ∙ sym (width_of_kept nodes dag keeps.0 t l);
        value = λ p q b o v. values_kept nodes dag p keeps.0 r b (is.value p q b o (values_were nodes dag q keeps.0 t b l v));
        bits = λ bit m. bits_kept nodes keeps.0 dag t bit (is.bits bit (bits_were nodes keeps.0 dag r is.within bit m));
        free_bits = λ bit m. is.free_bits bit (bits_were nodes keeps.0 dag r is.within bit m);
        reads = λ read w m. reads_kept nodes keeps.0 dag t read w (is.reads read w (reads_were nodes keeps.0 dag r is.within read w m));
        free_reads = λ read w m. is.free_reads read w (reads_were nodes keeps.0 dag r is.within read w m);
      }

  pub input_substitute_kept : (first w : ℕ) (r : Term) → IsInputSubstitute nodes fixed first w r → IsInputSubstitute new fixed first w r
  input_substitute_kept first w r is =
      subst (λ (n : List Node). IsInputSubstitute n fixed first w r) (sym keeps.1)
      record {
        within = still r is.within;
        width = width_of_kept nodes dag keeps.0 r is.within ∙ is.width;
        value = λ p q b o v. values_kept nodes dag p keeps.0 r b (is.value p q b o v);
        from = λ bit m. is.from bit (bits_were nodes keeps.0 dag r is.within bit m);
        before = λ bit m. is.before bit (bits_were nodes keeps.0 dag r is.within bit m);
        free_bits = λ bit m. is.free_bits bit (bits_were nodes keeps.0 dag r is.within bit m);
        no_reads = λ read w m. is.no_reads read w (reads_were nodes keeps.0 dag r is.within read w m);
      }

-- ---- a node on other operands

module _ (f : Term → Term) where
  changed_width : (g h : Term → ℕ) (node : Node) → ((a : Term) → IsOperand node a → g (f a) ≡ h a)
      → node_width g (changed f node) ≡ node_width h node
  changed_width g h (Constant c) same = refl
  changed_width g h (Input first w) same = refl
  changed_width g h (Read read w) same = refl
  changed_width g h (One op a) same = same a refl
  changed_width g h (Two op a b) same = λ i. result_width (shape_of op) (same a (inl refl) i) (same b (inr refl) i)
  changed_width g h (Slice a high low) same = refl
  changed_width g h (Extend a w signed) same = refl
  changed_width g h (Choose c a b) same = same a (inr (inl refl))

  changed_below : (n : ℕ) (node : Node) → ((a : Term) → IsOperand node a → (f a).number < n) → OperandsBelow n (changed f node)
  changed_below n (Constant c) all = tt
  changed_below n (Input first w) all = tt
  changed_below n (Read read w) all = tt
  changed_below n (One op a) all = all a refl
  changed_below n (Two op a b) all = (all a (inl refl), all b (inr refl))
  changed_below n (Slice a high low) all = all a refl
  changed_below n (Extend a w signed) all = all a refl
  changed_below n (Choose c a b) all = (all c (inl refl), all a (inr (inl refl)), all b (inr (inr refl)))

  changed_allow : (g : Term → ℕ) (node : Node) → ((a : Term) → IsOperand node a → g (f a) ≡ g a) → WidthsAllow g node → WidthsAllow g (changed f node)
  changed_allow g (Constant c) same h = h
  changed_allow g (Input first w) same h = h
  changed_allow g (Read read w) same h = h
  changed_allow g (One op a) same h = h
  changed_allow g (Two op a b) same h = (
    h.0,
    subst (λ (x : ℕ). WidthsFit (shape_of op) x (g (f b))) (sym (same a (inl refl)))
        (subst (λ (y : ℕ). WidthsFit (shape_of op) (g a) y) (sym (same b (inr refl))) h.1),
  )
  changed_allow g (Slice a high low) same h = (h.0, subst (λ (w : ℕ). high < w) (sym (same a refl)) h.1)
  changed_allow g (Extend a w signed) same h = h
  changed_allow g (Choose c a b) same h =
      (same c (inl refl) ∙ h.0, same a (inr (inl refl)) ∙ h.1 ∙ sym (same b (inr (inr refl))))

  -- the operands of the changed node are those of the node, changed
  changed_operand : (node : Node) (a : Term) → IsOperand (changed f node) a → (x : Term) × IsOperand node x × (a ≡ f x)
  changed_operand (Constant c) a is = absurd is
  changed_operand (Input first w) a is = absurd is
  changed_operand (Read read w) a is = absurd is
  changed_operand (One op x) a is = (x, refl, is)
  changed_operand (Two op x y) a (inl is) = (x, inl refl, is)
  changed_operand (Two op x y) a (inr is) = (y, inr refl, is)
  changed_operand (Slice x high low) a is = (x, refl, is)
  changed_operand (Extend x w signed) a is = (x, refl, is)
  changed_operand (Choose c x y) a (inl is) = (c, inl refl, is)
  changed_operand (Choose c x y) a (inr (inl is)) = (x, inr (inl refl), is)
  changed_operand (Choose c x y) a (inr (inr is)) = (y, inr (inr refl), is)

-- no input and no read
abbrev pub IsInner : Node → Type 0
IsInner (Constant c) = Unit {0}
IsInner (Input first w) = ⊥
IsInner (Read read w) = ⊥
IsInner (One op a) = Unit {0}
IsInner (Two op a b) = Unit {0}
IsInner (Slice a high low) = Unit {0}
IsInner (Extend a w signed) = Unit {0}
IsInner (Choose c a b) = Unit {0}

pub is_inner : (node : Node) → ((first w : ℕ) → node ≡ Input first w → ⊥) → ((read w : ℕ) → node ≡ Read read w → ⊥) → IsInner node
is_inner (Constant c) no_input no_read = tt
is_inner (Input first w) no_input no_read = no_input first w refl
is_inner (Read read w) no_input no_read = no_read read w refl
is_inner (One op a) no_input no_read = tt
is_inner (Two op a b) no_input no_read = tt
is_inner (Slice a high low) no_input no_read = tt
is_inner (Extend a w signed) no_input no_read = tt
is_inner (Choose c a b) no_input no_read = tt

module _ (f : Term → Term) (S T : Term → Bits → Type 0) (p q : Point) where
  changed_gives : (node : Node) (b : Bits) → IsInner node → ((a : Term) (x : Bits) → IsOperand node a → S a x → T (f a) x)
      → NodeGives S q node b → NodeGives T p (changed f node) b
  changed_gives (Constant c) b inner along h = h
  changed_gives (Input first w) b inner along h = absurd inner
  changed_gives (Read read w) b inner along h = absurd inner
  changed_gives (One op a) b inner along h =
      record { x = h.x; operand = along a h.x refl h.operand; width = h.width; value = h.value }
  changed_gives (Two op a c) b inner along h =
      record {
        x = h.x;
        y = h.y;
        first = along a h.x (inl refl) h.first;
        second = along c h.y (inr refl) h.second;
        width = h.width;
        value = h.value;
      }
  changed_gives (Slice a high low) b inner along h =
      record { x = h.x; operand = along a h.x refl h.operand; width = h.width; value = h.value }
  changed_gives (Extend a w signed) b inner along h =
      record { x = h.x; operand = along a h.x refl h.operand; width = h.width; value = h.value }
  changed_gives (Choose c a d) b inner along h =
      record {
        test = h.test;
        x = h.x;
        y = h.y;
        condition = along c h.test (inl refl) h.condition;
        first = along a h.x (inr (inl refl)) h.first;
        second = along d h.y (inr (inr refl)) h.second;
        value = h.value;
      }

module _ (nodes : List Node) (dag : IsDag nodes) (fixed : Fixed) (t : Term) (node : Node) (at : slice_get nodes t.number ≡ Some node)
    (f : Term → Term) (done : (a : Term) → IsOperand node a → IsSubstitute nodes fixed a (f a)) where
  pub changed_fits : Fits nodes (changed f node)
  changed_fits = record {
    operands = changed_below f (length nodes) node (λ a is. (done a is).within);
    widths = changed_allow f (width_of nodes) node (λ a is. (done a is).width) (dag.fit t.number node at);
  }

  module _ (new : List Node) (grown : IsDag new) (keeps : (more : List Node) × (new ≡ nodes ++ more)) (inner : IsInner node) (r : Term)
      (within : r.number < length new) (width : width_of new r ≡ node_width (width_of nodes) (changed f node))
      (value : (p : Point) (b : Bits) → NodeGives (Values nodes p) p (changed f node) b → Values new p r b)
      (side : HasConstantCondition nodes (changed f node) → IsChosen nodes (changed f node) r)
      (constant : HasConstantOperands nodes (changed f node) → IsConstant new r)
      (otherwise : (HasConstantCondition nodes (changed f node) → ⊥) → (HasConstantOperands nodes (changed f node) → ⊥)
      → slice_get new r.number ≡ Some (changed f node)) where
    parts : (part : Node) → ((x : Bits) → Constant x ≡ part → ⊥) → IsPartOf new part r
        → (changed f node ≡ part) ⊎ ((a : Term) × IsOperand (changed f node) a × IsPartOf nodes part a)
    parts part proper h =
        let e = keeps.1 in
        made_parts nodes keeps.0 dag (changed f node) changed_fits.operands r side
        (λ k. subst (λ (l : List Node). IsConstant l r) e (constant k))
        (λ c k. subst (λ (l : List Node). slice_get l r.number ≡ Some (changed f node)) e (otherwise c k)) part proper
        (subst (λ (l : List Node). IsPartOf l part r) e h)

    here : t.number < length nodes
    here = slice_get_within nodes t.number node at

    -- a part of the result that is no constant is one of an operand's substitute
    of_operand : (part : Node) → ((x : Bits) → Constant x ≡ part → ⊥) → (changed f node ≡ part → ⊥) → IsPartOf new part r
        → (x : Term) × IsOperand node x × IsPartOf nodes part (f x)
    of_operand part proper differs h =
        elim (parts part proper h) [
          | inl is ↦ absurd (differs is)
          | inr k ↦ let o = changed_operand f node k.0 k.1 in
              (o.0, o.1, subst (λ (a : Term). IsPartOf nodes part a) o.2 k.2)
        ]

    no_input : (node : Node) (first w : ℕ) → IsInner node → changed f node ≡ Input first w → ⊥
    no_input (Constant c) first w inner e = grind arith
    no_input (Input a b) first w inner e = absurd inner
    no_input (Read a b) first w inner e = absurd inner
    no_input (One op a) first w inner e = grind arith
    no_input (Two op a b) first w inner e = grind arith
    no_input (Slice a high low) first w inner e = grind arith
    no_input (Extend a m signed) first w inner e = grind arith
    no_input (Choose c a b) first w inner e = grind arith

    no_read : (node : Node) (read w : ℕ) → IsInner node → changed f node ≡ Read read w → ⊥
    no_read (Constant c) first w inner e = grind arith
    no_read (Input a b) first w inner e = absurd inner
    no_read (Read a b) first w inner e = absurd inner
    no_read (One op a) first w inner e = grind arith
    no_read (Two op a b) first w inner e = grind arith
    no_read (Slice a high low) first w inner e = grind arith
    no_read (Extend a m signed) first w inner e = grind arith
    no_read (Choose c a b) first w inner e = grind arith

    operand_bit : (bit : ℕ) → MentionsBit new r bit → (x : Term) × IsOperand node x × MentionsBit nodes (f x) bit
    operand_bit bit m =
        let o = of_operand (Input m.first m.width) (λ x e. grind arith) (no_input node m.first m.width inner) m.part in
        (o.0, o.1, record { first = m.first; width = m.width; part = o.2; from = m.from; before = m.before })

    operand_read : (read w : ℕ) → MentionsRead new r read w → (x : Term) × IsOperand node x × MentionsRead nodes (f x) read w
    operand_read read w m = of_operand (Read read w) (λ x e. grind arith) (no_read node read w inner) m

    from_operand_bit : (x : Term) → IsOperand node x → (bit : ℕ) → MentionsBit nodes x bit → MentionsBit nodes t bit
    from_operand_bit x is = bits_along nodes nodes x t (λ first w h. parts_from nodes (Input first w) t node at (inr (x, is, h)))

    to_new_bit : (bit : ℕ) → MentionsBit nodes t bit → MentionsBit new t bit
    to_new_bit bit m = subst (λ (l : List Node). MentionsBit l t bit) (sym keeps.1) (bits_kept nodes keeps.0 dag t bit m)

    to_new_read : (read w : ℕ) → MentionsRead nodes t read w → MentionsRead new t read w
    to_new_read read w m = subst (λ (l : List Node). MentionsRead l t read w) (sym keeps.1) (reads_kept nodes keeps.0 dag t read w m)

    was : (q : Point) (b : Bits) → Values new q t b → Values nodes q t b
    was q b v = values_were nodes dag q keeps.0 t b here (subst (λ (l : List Node). Values l q t b) keeps.1 v)

    pub changed_substitute : IsSubstitute new fixed t r
    changed_substitute = record {
      within = within;
      width = width ∙ changed_width f (width_of nodes) (width_of nodes) node (λ a is. (done a is).width)
          ∙ sym (width_of_at nodes dag t node at) ∙ sym (kept_older nodes new dag keeps t here).1;
      value = λ p q b o v. value p b (changed_gives f (Values nodes q) (Values nodes p) p q node b inner
          (λ a x is s. (done a is).value p q x o s) (value_to nodes dag q t node b at (was q b v)));
      bits = λ bit m. let o = operand_bit bit m in to_new_bit bit (from_operand_bit o.0 o.1 bit ((done o.0 o.1).bits bit o.2));
      free_bits = λ bit m. let o = operand_bit bit m in (done o.0 o.1).free_bits bit o.2;
      reads = λ read w m. let o = operand_read read w m in
          to_new_read read w (parts_from nodes (Read read w) t node at (inr (o.0, o.1, (done o.0 o.1).reads read w o.2)));
      free_reads = λ read w m. let o = operand_read read w m in (done o.0 o.1).free_reads read w o.2;
    }

-- ---- inputs and reads

module _ (nodes new : List Node) (dag : IsDag nodes) (grown : IsDag new) (keeps : (more : List Node) × (new ≡ nodes ++ more)) (fixed : Fixed) (t : Term) where
  still_at : (node : Node) → slice_get nodes t.number ≡ Some node → slice_get new t.number ≡ Some node
  still_at node at =
      subst (λ (l : List Node). slice_get l t.number ≡ Some node) (sym keeps.1)
      (slice_get_append nodes keeps.0 t.number (slice_get_within nodes t.number node at) ∙ at)

  pub input_substitute : (first w : ℕ) → slice_get nodes t.number ≡ Some (Input first w) → (r : Term)
      → IsInputSubstitute new fixed first w r → IsSubstitute new fixed t r
  input_substitute first w at r done = record {
    within = done.within;
    width = done.width ∙ sym (width_of_at new grown t (Input first w) (still_at (Input first w) at));
    value = λ p q b o v. done.value p q b o (value_to new grown q t (Input first w) b (still_at (Input first w) at) v);
    bits = λ bit m. record {
      first = first;
      width = w;
      part = own t (still_at (Input first w) at);
      from = done.from bit m;
      before = done.before bit m;
    };
    free_bits = done.free_bits;
    reads = λ read w m. absurd (done.no_reads read w m);
    free_reads = λ read w m. absurd (done.no_reads read w m);
  }

  module _ (read w : ℕ) (at : slice_get nodes t.number ≡ Some (Read read w)) where
    read_now : (p : Point) (b : Bits) → Values new p t b → ReadGives p read w b
    read_now p b v = value_to new grown p t (Read read w) b (still_at (Read read w) at) v

    pub fixed_read : (x : Bits) → slice_get fixed.reads read ≡ Some (Some x) → ReadsFit nodes t fixed → (r : Term)
        → r.number < length new → width_of new r ≡ x.width → ((p : Point) (b : Bits) → b ≡ x → Values new p r b)
        → ((bit : ℕ) → MentionsBit new r bit → ⊥) → ((read w : ℕ) → MentionsRead new r read w → ⊥) → IsSubstitute new fixed t r
    fixed_read x is fit r within width value no_bit no_read = record {
      within = within;
      width = width ∙ fit.widths read w x (own t at) is ∙ sym (width_of_at new grown t (Read read w) (still_at (Read read w) at));
      value = λ p q b o v. value p b (some_same b x (sym (read_now q b v).there ∙ o.reads.fixed_there read x is));
      bits = λ bit m. absurd (no_bit bit m);
      free_bits = λ bit m k. no_bit bit m;
      reads = λ read w m. absurd (no_read read w m);
      free_reads = λ read w m k. no_read read w m;
    }

module _ (nodes : List Node) (dag : IsDag nodes) (fixed : Fixed) (t : Term) (read w : ℕ) (at : slice_get nodes t.number ≡ Some (Read read w))
    (free : IsFixedAt fixed.reads read → ⊥) where
  own_part : (part : Node) → IsPartOf nodes part t → Read read w ≡ part
  own_part part h =
      elim (parts_to nodes part (Read read w) at h) [
        | inl is ↦ is
        | inr k ↦ absurd k.1
      ]

  no_bit : (bit : ℕ) → MentionsBit nodes t bit → ⊥
  no_bit bit m = apart (own_part (Input m.first m.width) m.part)
    where
      apart : Read read w ≡ Input m.first m.width → ⊥
      apart e = grind arith

  its_read : (other v : ℕ) → MentionsRead nodes t other v → read ≡ other
  its_read other v h = same (own_part (Read other v) h)
    where
      same : Read read w ≡ Read other v → read ≡ other
      same e = grind arith

  read_gives : (p q : Point) (b : Bits) → IsOverlaid fixed p q → Values nodes q t b → ReadGives p read w b
  read_gives p q b o v =
      let g : ReadGives q read w b = value_to nodes dag q t (Read read w) b at v in
      record { there = sym (o.reads.free_there read free) ∙ g.there; width = g.width }

  pub free_read : IsSubstitute nodes fixed t t
  free_read = record {
    within = slice_get_within nodes t.number (Read read w) at;
    width = refl;
    value = λ p q b o v. value_from nodes dag p t (Read read w) b at (read_gives p q b o v);
    bits = λ bit m. m;
    free_bits = λ bit m k. no_bit bit m;
    reads = λ other v m. m;
    free_reads = λ other v m k. free (subst (IsFixedAt fixed.reads) (sym (its_read other v m)) k);
  }

-- each operand's substitute is where the list has it
pub operands_done : (nodes : List Node) → IsDag nodes → (fixed : Fixed) (t : Term) (node : Node) → slice_get nodes t.number ≡ Some node
    → (results : List Term) → t.number ≤ length results → AreOperandsDone nodes fixed t results
    → (a : Term) → IsOperand node a → IsSubstitute nodes fixed a (slice_index_or results a.number a)
operands_done nodes dag fixed t node at results long done a is =
    let below = operand_below t.number node a (dag.ordered t.number node at) is in
    done.each node a _ at is (slice_get-get_or results a.number a (omega arith))
