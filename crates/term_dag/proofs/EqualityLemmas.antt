-- Nodes are compared as equal exactly where they are.
use Rattle.std.proofs.Common.{rules, ◌≡◌, ℕ, Bool, true, false, List, Some, slice_get, ◌&&◌, nat_eq, refl, sym, ap, ◌∙◌, true≢false, arith}
use Rattle.std.proofs.lemmas.Bool.{and_parts, eqb-true}
use mathlib.Core.Bool.{beq}
use denote.Enum.Bare.{same_true, sameb}
use Rattle.bits_core.specs.declared.operator.Op.{Op}
use Rattle.bits_core.specs.contracts.operator.Op.{the_type}
use Rattle.bits_core.proofs.NumberLaws.{same_fields}
use Rattle.term_dag.specs.declared.node.Term.{Term}
use Rattle.term_dag.specs.declared.node.Node.{Node}
use Rattle.term_dag.specs.declared.node.Node.TheVariants.{Constant, Input, Read, One, Two, Slice, Extend, Choose}
use Rattle.term_dag.specs.contracts.node.NodePartialEq.TheImpl.{eq-value}

-- the derived `==`
abbrev pub are_same : Node → Node → Bool
are_same = (eq-value).it

same_number : (a b : ℕ) → nat_eq a b ≡ true → a ≡ b
same_number a b e = eqb-true a b e

same_term : (a b : Term) → nat_eq a.number b.number ≡ true → a ≡ b
same_term a b e = λ i. record { number = same_number a.number b.number e i }

same_operator : (a b : Op) → sameb the_type a b ≡ true → a ≡ b
same_operator a b e = same_true the_type tt a b e

pub same : (x y : Node) → are_same x y ≡ true → x ≡ y
same (Constant a) (Constant b) e =
    let h = and_parts (nat_eq a.width b.width) (nat_eq a.value b.value) e in
    ap Constant (same_fields a b (same_number _ _ h.0) (same_number _ _ h.1))
same (Input a w) (Input b v) e = grind arith
same (Read a w) (Read b v) e = grind arith
same (One o a) (One p b) e =
    let h = and_parts (sameb the_type o p) (nat_eq a.number b.number) e in
    λ i. One (same_operator o p h.0 i) (same_term a b h.1 i)
same (Two o a c) (Two p b d) e =
    let h = and_parts (sameb the_type o p) (nat_eq a.number b.number && nat_eq c.number d.number) e in
    let k = and_parts (nat_eq a.number b.number) (nat_eq c.number d.number) h.1 in
    λ i. Two (same_operator o p h.0 i) (same_term a b k.0 i) (same_term c d k.1 i)
same (Slice a m n) (Slice b k l) e =
    let h = and_parts (nat_eq a.number b.number) (nat_eq m k && nat_eq n l) e in
    let j = and_parts (nat_eq m k) (nat_eq n l) h.1 in
    λ i. Slice (same_term a b h.0 i) (same_number m k j.0 i) (same_number n l j.1 i)
same (Extend a w s) (Extend b v t) e =
    let h = and_parts (nat_eq a.number b.number) _ e in
    let j = and_parts (nat_eq w v) _ h.1 in
    λ i. Extend (same_term a b h.0 i) (same_number w v j.0 i) (same_sign s t j.1 i)
  where
    same_sign : (s t : Bool) → beq s t ≡ true → s ≡ t
    same_sign true true e = refl
    same_sign false false e = refl
    same_sign true false e = absurd (true≢false (sym e))
    same_sign false true e = absurd (true≢false (sym e))
same (Choose a b c) (Choose x y z) e =
    let h = and_parts (nat_eq a.number x.number) (nat_eq b.number y.number && nat_eq c.number z.number) e in
    let j = and_parts (nat_eq b.number y.number) (nat_eq c.number z.number) h.1 in
    λ i. Choose (same_term a x h.0 i) (same_term b y j.0 i) (same_term c z j.1 i)
same x y e = absurd (true≢false (sym e))

pub itself : (n : Node) → are_same n n ≡ true
itself n = search rules

-- what a set says of the key that it keeps in the place of a node
pub stored_is : (nodes : List Node) (i : ℕ) (node k : Node) → slice_get nodes i ≡ Some k → are_same node k ≡ true → slice_get nodes i ≡ Some node
stored_is nodes i node k at e = at ∙ ap Some (sym (same node k e))
