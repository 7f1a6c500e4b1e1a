-- What stands in a term's place once some of a point is fixed. It holds of the terms of one dag.
use Rattle.std.specs.Prelude.{◌≡◌, ℕ, ◌+◌, ◌<◌, ◌≤◌, List, Some, length, slice_get}
use Rattle.bits_core.specs.declared.number.Bits.{Bits}
use Rattle.bits_core.specs.declared.points.Point.{Point}
use Rattle.term_dag.specs.declared.fixed.Fixed.{Fixed}
use Rattle.term_dag.specs.declared.node.Node.{Node}
use Rattle.term_dag.specs.declared.node.Node.TheVariants.{Constant, Input, Read, One, Two, Slice, Extend, Choose}
use Rattle.term_dag.specs.declared.node.Term.{Term}
use Rattle.term_dag.specs.Mention.{IsOperand, MentionsBit, MentionsRead}
use Rattle.term_dag.specs.Substitution.{IsFixedAt, IsOverlaid}
use Rattle.term_dag.specs.Value.{InputGives, Values}
use Rattle.term_dag.specs.Width.{width_of}

-- At a point the result stands for what the term stands for at the point overlaid. It mentions what the term mentions, but
-- nothing that is fixed.
pub record IsSubstitute (nodes : List Node) (fixed : Fixed) (t result : Term) : Type 0 where
  pub within : result.number < length nodes
  pub width : width_of nodes result ≡ width_of nodes t
  pub value : (p q : Point) (b : Bits) → IsOverlaid fixed p q → Values nodes q t b → Values nodes p result b
  pub bits : (bit : ℕ) → MentionsBit nodes result bit → MentionsBit nodes t bit
  pub free_bits : (bit : ℕ) → MentionsBit nodes result bit → IsFixedAt fixed.inputs bit → ⊥
  pub reads : (read width : ℕ) → MentionsRead nodes result read width → MentionsRead nodes t read width
  pub free_reads : (read width : ℕ) → MentionsRead nodes result read width → IsFixedAt fixed.reads read → ⊥

-- the same for so many input bits from this one on, in place of a term
pub record IsInputSubstitute (nodes : List Node) (fixed : Fixed) (first w : ℕ) (result : Term) : Type 0 where
  pub within : result.number < length nodes
  pub width : width_of nodes result ≡ w
  pub value : (p q : Point) (b : Bits) → IsOverlaid fixed p q → InputGives q first w b → Values nodes p result b
  pub from : (bit : ℕ) → MentionsBit nodes result bit → first ≤ bit
  pub before : (bit : ℕ) → MentionsBit nodes result bit → bit < first + w
  pub free_bits : (bit : ℕ) → MentionsBit nodes result bit → IsFixedAt fixed.inputs bit → ⊥
  pub no_reads : (read width : ℕ) → MentionsRead nodes result read width → ⊥

-- the list has each operand's substitute at the operand's number
pub record AreOperandsDone (nodes : List Node) (fixed : Fixed) (t : Term) (results : List Term) : Type 0 where
  pub each : (node : Node) (a r : Term) → slice_get nodes t.number ≡ Some node → IsOperand node a
      → slice_get results a.number ≡ Some r → IsSubstitute nodes fixed a r

-- the node with each operand changed
abbrev pub changed : (Term → Term) → Node → Node
changed f (Constant c) = Constant c
changed f (Input first w) = Input first w
changed f (Read read w) = Read read w
changed f (One op a) = One op (f a)
changed f (Two op a b) = Two op (f a) (f b)
changed f (Slice a high low) = Slice (f a) high low
changed f (Extend a w signed) = Extend (f a) w signed
changed f (Choose c a b) = Choose (f c) (f a) (f b)
