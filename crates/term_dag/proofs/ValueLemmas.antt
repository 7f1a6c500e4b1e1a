-- Values go by the operands, are one at a point, have the term's width, and stay when nodes are added.
use Rattle.std.proofs.Common.{◌≡◌, ℕ, zero, suc, ◌<◌, ◌≤◌, Bool, true, false, List, ◌++◌, Some, length, slice_get, sym, ap, subst, ◌∙◌, arith}
use Rattle.std.specs.Prelude.{◌==◌, if◌then◌else◌}
use Rattle.std.proofs.lemmas.Option.{slice_get_within}
use Rattle.bits_core.proofs.NumberLaws.{same_fields}
use Rattle.bits_core.specs.Operator.{operator_value, result_width, shape_of}
use Rattle.bits_core.specs.declared.number.Bits.{Bits}
use Rattle.bits_core.specs.declared.points.Point.{Point}
use Rattle.term_dag.specs.declared.node.Term.{Term}
use Rattle.term_dag.specs.declared.node.Node.{Node}
use Rattle.term_dag.specs.declared.node.Node.TheVariants.{Constant, Input, Read, One, Two, Slice, Extend, Choose}
use Rattle.bits_core.specs.Number.{slice_value, extend_value}
use Rattle.term_dag.specs.Value.{NodeGives, ChooseGives, StandsBelow, Values}
use Rattle.term_dag.specs.Width.{node_width, width_of, OperandsBelow, WidthsAllow, IsDag}
use Rattle.term_dag.proofs.NodeListLemmas.{slice_get_append}
use Rattle.term_dag.proofs.WidthLemmas.{width_of_at}

some_same : {X : Type 0} (x y : X) → Some x ≡ Some y → x ≡ y
some_same x y e = grind arith

module _ (S T : Term → Bits → Type 0) (n : ℕ) (along : (t : Term) (x : Bits) → t.number < n → S t x → T t x) (p : Point) where
  pub gives_along : (node : Node) (b : Bits) → OperandsBelow n node → NodeGives S p node b → NodeGives T p node b
  gives_along (Constant c) b o h = h
  gives_along (Input first w) b o h = h
  gives_along (Read read w) b o h = h
  gives_along (One op a) b o h = record { x = h.x; operand = along a h.x o h.operand; width = h.width; value = h.value }
  gives_along (Two op a c) b o h =
      record {
        x = h.x;
        y = h.y;
        first = along a h.x o.0 h.first;
        second = along c h.y o.1 h.second;
        width = h.width;
        value = h.value;
      }
  gives_along (Slice a high low) b o h = record { x = h.x; operand = along a h.x o h.operand; width = h.width; value = h.value }
  gives_along (Extend a w signed) b o h = record { x = h.x; operand = along a h.x o h.operand; width = h.width; value = h.value }
  gives_along (Choose c a d) b o h =
      record {
        test = h.test;
        x = h.x;
        y = h.y;
        condition = along c h.test o.0 h.condition;
        first = along a h.x o.1 h.first;
        second = along d h.y o.2 h.second;
        value = h.value;
      }

module _ (nodes : List Node) (dag : IsDag nodes) (p : Point) where
  -- the recursion may go deeper
  pub deeper : (n m : ℕ) (t : Term) (b : Bits) → n ≤ m → StandsBelow n nodes p t b → StandsBelow m nodes p t b
  deeper zero m t b l h = absurd h
  deeper (suc n) zero t b l h = absurd (omega arith)
  deeper (suc n) (suc m) t b l h =
      record {
        node = h.node;
        at = h.at;
        gives = gives_along (StandsBelow n nodes p) (StandsBelow m nodes p) t.number
            (λ u x k s. deeper n m u x (omega arith) s) p h.node b (dag.ordered t.number h.node h.at) h.gives;
      }

  -- and need not go past the term's number
  pub enough : (n : ℕ) (t : Term) (b : Bits) → StandsBelow n nodes p t b → Values nodes p t b
  enough zero t b h = absurd h
  enough (suc n) t b h =
      record {
        node = h.node;
        at = h.at;
        gives = gives_along (StandsBelow n nodes p) (StandsBelow t.number nodes p) t.number
            (λ u x k s. deeper (suc u.number) t.number u x k (enough n u x s)) p h.node b (dag.ordered t.number h.node h.at) h.gives;
      }

  -- a term stands for what its node gives on what the operands stand for
  pub value_from : (t : Term) (node : Node) (b : Bits) → slice_get nodes t.number ≡ Some node
      → NodeGives (Values nodes p) p node b → Values nodes p t b
  value_from t node b at h =
      record {
        node = node;
        at = at;
        gives = gives_along (Values nodes p) (StandsBelow t.number nodes p) t.number
            (λ u x k s. deeper (suc u.number) t.number u x k s) p node b (dag.ordered t.number node at) h;
      }

  -- and for nothing else
  pub value_to : (t : Term) (node : Node) (b : Bits) → slice_get nodes t.number ≡ Some node
      → Values nodes p t b → NodeGives (Values nodes p) p node b
  value_to t node b at h =
      let same : h.node ≡ node = some_same h.node node (sym h.at ∙ at) in
      gives_along (StandsBelow t.number nodes p) (Values nodes p) t.number
      (λ u x k s. enough t.number u x s) p node b (dag.ordered t.number node at)
      (subst (λ (n : Node). NodeGives (StandsBelow t.number nodes p) p n b) same h.gives)

  module _ (more : List Node) where
    kept_below : (n : ℕ) (t : Term) (b : Bits) → StandsBelow n nodes p t b → StandsBelow n (nodes ++ more) p t b
    kept_below zero t b h = absurd h
    kept_below (suc n) t b h =
        record {
          node = h.node;
          at = slice_get_append nodes more t.number (slice_get_within nodes t.number h.node h.at) ∙ h.at;
          gives = gives_along (StandsBelow n nodes p) (StandsBelow n (nodes ++ more) p) t.number
              (λ u x k s. kept_below n u x s) p h.node b (dag.ordered t.number h.node h.at) h.gives;
        }

    -- a term keeps what it stands for when nodes are added
    pub values_kept : (t : Term) (b : Bits) → Values nodes p t b → Values (nodes ++ more) p t b
    values_kept t b h = kept_below (suc t.number) t b h

    were_below : (n : ℕ) (t : Term) (b : Bits) → t.number < length nodes → StandsBelow n (nodes ++ more) p t b → StandsBelow n nodes p t b
    were_below zero t b l h = absurd h
    were_below (suc n) t b l h =
        let at : slice_get nodes t.number ≡ Some h.node = sym (slice_get_append nodes more t.number l) ∙ h.at in
        record {
          node = h.node;
          at = at;
          gives = gives_along (StandsBelow n (nodes ++ more) p) (StandsBelow n nodes p) t.number
              (λ u x k s. were_below n u x (omega arith) s) p h.node b (dag.ordered t.number h.node at) h.gives;
        }

    -- and stands for nothing new
    pub values_were : (t : Term) (b : Bits) → t.number < length nodes → Values (nodes ++ more) p t b → Values nodes p t b
    values_were t b l h = were_below (suc t.number) t b l h

module _ (S : Term → Bits → Type 0) (f : Term → ℕ) (along : (t : Term) (x : Bits) → S t x → x.width ≡ f t) (p : Point) where
  side_width : (c a d : Term) (b : Bits) → f a ≡ f d → ChooseGives S c a d b → b.width ≡ f a
  side_width c a d b e h =
      ap (λ (n : Bits). n.width) h.value ∙ by (h.test.value == 1)
    where
      by : (t : Bool) → (if t then h.x else h.y).width ≡ f a
      by true = along a h.x h.first
      by false = along d h.y h.second ∙ sym e

  -- what a node gives has the node's width
  gives_width : (node : Node) (b : Bits) → WidthsAllow f node → NodeGives S p node b → b.width ≡ node_width f node
  gives_width (Constant c) b w h = ap (λ (n : Bits). n.width) h
  gives_width (Input first m) b w h = h.width
  gives_width (Read read m) b w h = h.width
  gives_width (One op a) b w h = h.width ∙ along a h.x h.operand
  gives_width (Two op a c) b w h = h.width ∙ (λ i. result_width (shape_of op) (along a h.x h.first i) (along c h.y h.second i))
  gives_width (Slice a high low) b w h = h.width
  gives_width (Extend a m signed) b w h = h.width
  gives_width (Choose c a d) b w h = side_width c a d b w.1 h

module _ (S T : Term → Bits → Type 0) (one : (t : Term) (x y : Bits) → S t x → T t y → x ≡ y) (p : Point) where
  -- a node gives one number where each operand stands for one
  gives_one : (node : Node) (b c : Bits) → NodeGives S p node b → NodeGives T p node c → b ≡ c
  gives_one (Constant n) b c h k = h ∙ sym k
  gives_one (Input first m) b c h k = same_fields b c (h.width ∙ sym k.width) (h.value ∙ sym k.value)
  gives_one (Read read m) b c h k = some_same b c (sym h.there ∙ k.there)
  gives_one (One op a) b c h k =
      let e : h.x ≡ k.x = one a h.x k.x h.operand k.operand in
      same_fields b c (h.width ∙ ap (λ (n : Bits). n.width) e ∙ sym k.width)
      (h.value ∙ ap (λ (n : Bits). operator_value op n.width n.value 0 0) e ∙ sym k.value)
  gives_one (Two op a d) b c h k =
      let e : h.x ≡ k.x = one a h.x k.x h.first k.first in
      let f : h.y ≡ k.y = one d h.y k.y h.second k.second in
      same_fields b c (h.width ∙ (λ i. result_width (shape_of op) (e i).width (f i).width) ∙ sym k.width)
      (h.value ∙ (λ i. operator_value op (e i).width (e i).value (f i).width (f i).value) ∙ sym k.value)
  gives_one (Slice a high low) b c h k =
      let e : h.x ≡ k.x = one a h.x k.x h.operand k.operand in
      same_fields b c (h.width ∙ sym k.width) (h.value ∙ ap (λ (n : Bits). slice_value n.value high low) e ∙ sym k.value)
  gives_one (Extend a m signed) b c h k =
      let e : h.x ≡ k.x = one a h.x k.x h.operand k.operand in
      same_fields b c (h.width ∙ sym k.width) (h.value ∙ ap (λ (n : Bits). extend_value signed n.width n.value m) e ∙ sym k.value)
  gives_one (Choose d a g) b c h k =
      let t : h.test ≡ k.test = one d h.test k.test h.condition k.condition in
      let e : h.x ≡ k.x = one a h.x k.x h.first k.first in
      let f : h.y ≡ k.y = one g h.y k.y h.second k.second in
      h.value ∙ (λ i. if (t i).value == 1 then e i else f i) ∙ sym k.value

module _ (nodes : List Node) (dag : IsDag nodes) (p : Point) where
  width_below_value : (n : ℕ) (t : Term) (b : Bits) → StandsBelow n nodes p t b → b.width ≡ width_of nodes t
  width_below_value zero t b h = absurd h
  width_below_value (suc n) t b h =
      gives_width (StandsBelow n nodes p) (width_of nodes) (λ u x s. width_below_value n u x s) p h.node b
      (dag.fit t.number h.node h.at) h.gives
      ∙ sym (width_of_at nodes dag t h.node h.at)

  -- what a term stands for has the term's width
  pub width_of_value : (t : Term) (b : Bits) → Values nodes p t b → b.width ≡ width_of nodes t
  width_of_value t b h = width_below_value (suc t.number) t b h

  one_below : (n : ℕ) (t : Term) (b c : Bits) → StandsBelow n nodes p t b → Values nodes p t c → b ≡ c
  one_below zero t b c h k = absurd h
  one_below (suc n) t b c h k =
      gives_one (StandsBelow n nodes p) (Values nodes p) (λ u x y s v. one_below n u x y s v) p h.node b c h.gives
      (value_to nodes dag p t h.node c h.at k)

  -- a term stands for one number at a point
  pub one_value : (t : Term) (b c : Bits) → Values nodes p t b → Values nodes p t c → b ≡ c
  one_value t b c h k = one_below (suc t.number) t b c h k
