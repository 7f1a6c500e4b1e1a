-- A table says what its terms stand for, and goes on with what the next node gives.
use Rattle.std.proofs.Common.{◌≡◌, ℕ, zero, suc, ◌<◌, ◌⊎◌, inl, inr, List, [], ◌∷◌, ◌++◌, Option, Some, None, length, slice_get, refl, sym, ap, subst, ◌∙◌, arith}
use Rattle.std.specs.Prelude.{IfSome, IfNone}
use Rattle.std.proofs.lemmas.Option.{slice_get_within}
use Rattle.bits_core.specs.declared.number.Bits.{Bits}
use Rattle.bits_core.specs.declared.points.Point.{Point}
use Rattle.term_dag.specs.declared.node.Term.{Term}
use Rattle.term_dag.specs.declared.node.Node.{Node}
use Rattle.term_dag.specs.Table.{IsTable}
use Rattle.term_dag.specs.Value.{NodeGives, Values}
use Rattle.term_dag.specs.Width.{width_of, IsDag}
use Rattle.term_dag.proofs.NodeListLemmas.{slice_get_append, slice_get_last, before_or_last}
use Rattle.term_dag.proofs.ValueLemmas.{value_from, value_to, one_value, width_of_value}

some_same : {X : Type 0} (x y : X) → Some x ≡ Some y → x ≡ y
some_same x y e = grind arith

split : (n m : ℕ) → n < suc m → (n < m) ⊎ (n ≡ m)
split zero zero l = inr refl
split zero (suc m) l = inl (omega arith)
split (suc n) zero l = absurd (omega arith)
split (suc n) (suc m) l =
    elim (split n m (omega arith)) [
      | inl h ↦ inl (omega arith)
      | inr h ↦ inr (ap suc h)
    ]

pub length_pushed : {X : Type 0} (xs : List X) (x : X) → length (xs ++ x ∷ []) ≡ suc (length xs)
length_pushed [] x = refl
length_pushed (y ∷ xs) x = ap suc (length_pushed xs x)

module _ (nodes : List Node) (dag : IsDag nodes) (p : Point) where
  pub no_table : IsTable nodes p []
  no_table = record { right = λ t b h. grind arith; whole = λ t b l. absurd (omega arith) }

  module _ (table : List (Option Bits)) (is : IsTable nodes p table) where
    pub known_width : (t : Term) (o : Option Bits) → slice_get table t.number ≡ Some o → IfSome o (λ x. x.width ≡ width_of nodes t)
    known_width t (Some x) at = width_of_value nodes dag p t x (is.right t x at)
    known_width t None at = tt

    pub known_none : (t : Term) (o : Option Bits) → slice_get table t.number ≡ Some o → IfNone o ((b : Bits) → Values nodes p t b → ⊥)
    known_none t (Some x) at = tt
    known_none t None at = λ b v. absurd (apart (sym at ∙ is.whole t b (slice_get_within table t.number None at) v))
      where
        apart : {b : Bits} → Some None ≡ Some (Some b) → ⊥
        apart e = grind arith

    module _ (node : Node) (at : slice_get nodes (length table) ≡ Some node) (o : Option Bits)
        (some : IfSome o (NodeGives (Values nodes p) p node))
        (none : IfNone o ((b : Bits) → NodeGives (Values nodes p) p node b → ⊥)) where
      pub next_table : IsTable nodes p (table ++ o ∷ [])
      next_table = record { right = right; whole = whole }
        where
          stands : (t : Term) (b : Bits) (o : Option Bits) → IfSome o (NodeGives (Values nodes p) p node)
              → t.number ≡ length table → Some o ≡ Some (Some b) → Values nodes p t b
          stands t b (Some x) s e h =
              subst (Values nodes p t) (some_same x b (some_same (Some x) (Some b) h))
              (value_from nodes dag p t node x (ap (slice_get nodes) e ∙ at) s)
          stands t b None s e h = absurd (grind arith)

          right : (t : Term) (b : Bits) → slice_get (table ++ o ∷ []) t.number ≡ Some (Some b) → Values nodes p t b
          right t b h =
              elim (before_or_last table o (Some b) t.number h) [
                | inl k ↦ is.right t b k
                | inr k ↦ stands t b o some k.0 k.1
              ]

          given : (t : Term) (b : Bits) → t.number ≡ length table → Values nodes p t b → NodeGives (Values nodes p) p node b
          given t b e v = value_to nodes dag p t node b (ap (slice_get nodes) e ∙ at) v

          found : (t : Term) (b : Bits) (o : Option Bits) → IfSome o (NodeGives (Values nodes p) p node)
              → IfNone o ((b : Bits) → NodeGives (Values nodes p) p node b → ⊥)
              → t.number ≡ length table → Values nodes p t b → o ≡ Some b
          found t b (Some x) s n e v =
              ap Some (one_value nodes dag p t x b (value_from nodes dag p t node x (ap (slice_get nodes) e ∙ at) s) v)
          found t b None s n e v = absurd (n b (given t b e v))

          whole : (t : Term) (b : Bits) → t.number < length (table ++ o ∷ []) → Values nodes p t b
              → slice_get (table ++ o ∷ []) t.number ≡ Some (Some b)
          whole t b l v =
              elim (split t.number (length table) (subst (λ (n : ℕ). t.number < n) (length_pushed table o) l)) [
                | inl k ↦ slice_get_append table (o ∷ []) t.number k ∙ is.whole t b k v
                | inr k ↦ ap (slice_get (table ++ o ∷ [])) k ∙ slice_get_last table o ∙ ap Some (found t b o some none k v)
              ]

  module _ (t : Term) (node : Node) (at : slice_get nodes t.number ≡ Some node) where
    pub stands_as_node : (o : Option Bits) → IfSome o (NodeGives (Values nodes p) p node) → IfSome o (Values nodes p t)
    stands_as_node (Some x) h = value_from nodes dag p t node x at h
    stands_as_node None h = h

    pub none_as_node : (o : Option Bits) → IfNone o ((b : Bits) → NodeGives (Values nodes p) p node b → ⊥)
        → IfNone o ((b : Bits) → Values nodes p t b → ⊥)
    none_as_node (Some x) h = h
    none_as_node None h = λ b v. h b (value_to nodes dag p t node b at v)
