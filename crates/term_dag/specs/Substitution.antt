-- What is fixed of a point, and the point overlaid by it.
use Rattle.std.specs.Prelude.{◌≡◌, ℕ, List, Option, Some, slice_get}
use Rattle.bits_core.specs.declared.number.Bits.{Bits}
use Rattle.bits_core.specs.declared.points.Point.{Point}
use Rattle.term_dag.specs.declared.fixed.Fixed.{Fixed}
use Rattle.term_dag.specs.declared.node.Node.{Node}
use Rattle.term_dag.specs.declared.node.Term.{Term}
use Rattle.term_dag.specs.Mention.{MentionsRead}

-- something is fixed at this place
pub record IsFixedAt {X : Type 0} (fixed : List (Option X)) (i : ℕ) : Type 0 where
  pub x : X
  pub is : slice_get fixed i ≡ Some (Some x)

-- the list `over` has at each place what is fixed there, and else what `under` has
pub record Overlays {X : Type 0} (fixed : List (Option X)) (under over : List X) : Type 0 where
  pub fixed_there : (i : ℕ) (x : X) → slice_get fixed i ≡ Some (Some x) → slice_get over i ≡ Some x
  pub free_there : (i : ℕ) → (IsFixedAt fixed i → ⊥) → slice_get over i ≡ slice_get under i

-- the point q is the point p overlaid by what is fixed
pub record IsOverlaid (fixed : Fixed) (p q : Point) : Type 0 where
  pub inputs : Overlays fixed.inputs p.inputs q.inputs
  pub reads : Overlays fixed.reads p.reads q.reads

-- the reads that are fixed have the widths in which the term asks for them
pub record ReadsFit (nodes : List Node) (t : Term) (fixed : Fixed) : Type 0 where
  pub widths : (read width : ℕ) (b : Bits) → MentionsRead nodes t read width
      → slice_get fixed.reads read ≡ Some (Some b) → b.width ≡ width
