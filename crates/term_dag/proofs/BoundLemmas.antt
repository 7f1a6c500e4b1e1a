-- A term has 1 to 128 bits, as its node does where the operands do.
use Rattle.std.proofs.Common.{◌≡◌, ℕ, zero, suc, ◌<◌, ◌≤◌, ◌-◌, ◌+◌, List, [], ◌∷◌, Option, Some, None, length, slice_get, refl, sym, subst, arith}
use Rattle.bits_core.specs.Operator.{shape_of, WidthsFit, result_width}
use Rattle.bits_core.specs.declared.operator.OpShape.{OpShape}
use Rattle.bits_core.specs.declared.operator.OpShape.TheVariants.{One as OneOperand, Same, Shift, Join, Test}
use Rattle.term_dag.specs.declared.node.Node.{Node}
use Rattle.term_dag.specs.declared.node.Node.TheVariants.{Constant, Input, Read, One, Two, Slice, Extend, Choose}
use Rattle.term_dag.specs.declared.node.Term.{Term}
use Rattle.term_dag.specs.Width.{node_width, width_of, OperandsBelow, WidthsAllow, IsDag}
use Rattle.term_dag.proofs.WidthLemmas.{width_of_at}

-- as many bits as a number may have
pub record IsWidth (w : ℕ) : Type 0 where
  pub some_bit : 1 ≤ w
  pub at_most_widest : w ≤ 128

pub result_is_width : (s : OpShape) (w v : ℕ) → WidthsFit s w v → IsWidth w → IsWidth v → IsWidth (result_width s w v)
result_is_width OneOperand w v fit h k = h
result_is_width Same w v fit h k = h
result_is_width Shift w v fit h k = h
result_is_width Join w v fit h k = record { some_bit = omega (arith, h.some_bit); at_most_widest = fit }
result_is_width Test w v fit h k = record { some_bit = omega arith; at_most_widest = omega arith }

pub slice_is_width : (w high low : ℕ) → low ≤ high → high < w → IsWidth w → IsWidth (high - low + 1)
slice_is_width w high low ordered within h =
    record { some_bit = omega arith; at_most_widest = omega (arith, h.at_most_widest) }

module _ (width : Term → ℕ) (n : ℕ) (right : (t : Term) → t.number < n → IsWidth (width t)) where
  node_is_width : (node : Node) → OperandsBelow n node → WidthsAllow width node → IsWidth (node_width width node)
  node_is_width (Constant c) o w = record { some_bit = c.some_bit; at_most_widest = c.at_most_widest }
  node_is_width (Input first m) o w = record { some_bit = w.0; at_most_widest = w.1 }
  node_is_width (Read read m) o w = record { some_bit = w.0; at_most_widest = w.1 }
  node_is_width (One op a) o w = right a o
  node_is_width (Two op a b) o w = result_is_width (shape_of op) (width a) (width b) w.1 (right a o.0) (right b o.1)
  node_is_width (Slice a high low) o w = slice_is_width (width a) high low w.0 w.1 (right a o)
  node_is_width (Extend a m signed) o w = record { some_bit = w.0; at_most_widest = w.1 }
  node_is_width (Choose c a b) o w = right a o.1

there : {X : Type 0} (xs : List X) (k : ℕ) → k < length xs → slice_get xs k ≡ None → ⊥
there [] k l e = absurd (omega arith)
there (x ∷ xs) zero l e = grind arith
there (x ∷ xs) (suc k) l e = there xs k (omega arith) e

module _ (nodes : List Node) (dag : IsDag nodes) where
  by_node : (t : Term) (o : Option Node) → t.number < length nodes → ((u : Term) → u.number < t.number → IsWidth (width_of nodes u))
      → slice_get nodes t.number ≡ o → IsWidth (width_of nodes t)
  by_node t (Some node) within right at =
      subst IsWidth (sym (width_of_at nodes dag t node at))
      (node_is_width (width_of nodes) t.number right node (dag.ordered t.number node at) (dag.fit t.number node at))
  by_node t None within right at = absurd (there nodes t.number within at)

  is_width_below : (n : ℕ) (t : Term) → t.number < n → t.number < length nodes → IsWidth (width_of nodes t)
  is_width_below zero t l within = absurd (omega arith)
  is_width_below (suc n) t l within =
      by_node t (slice_get nodes t.number) within (λ u k. is_width_below n u (omega arith) (omega arith)) refl

  pub term_is_width : (t : Term) → t.number < length nodes → IsWidth (width_of nodes t)
  term_is_width t within = is_width_below (suc t.number) t (omega arith) within
