-- What a term mentions: the input bits and the reads that it is made of.
use Rattle.std.specs.Prelude.{◌≡◌, ℕ, ◌+◌, ◌<◌, ◌≤◌, ◌⊎◌, List, Some, length, slice_get}
use Rattle.bits_core.specs.declared.number.Bits.{Bits}
use Rattle.bits_core.specs.declared.points.Point.{Point}
use Rattle.term_dag.specs.declared.node.Term.{Term}
use Rattle.term_dag.specs.declared.node.Node.{Node}
use Rattle.term_dag.specs.declared.node.Node.TheVariants.{Constant, Input, Read, One, Two, Slice, Extend, Choose}
use Rattle.term_dag.specs.Value.{ReadGives}

-- the term is one of the node's operands
abbrev pub IsOperand : Node → Term → Type 0
IsOperand (Constant c) t = ⊥
IsOperand (Input first w) t = ⊥
IsOperand (Read read w) t = ⊥
IsOperand (One op a) t = t ≡ a
IsOperand (Two op a b) t = (t ≡ a) ⊎ (t ≡ b)
IsOperand (Slice a high low) t = t ≡ a
IsOperand (Extend a w signed) t = t ≡ a
IsOperand (Choose c a b) t = (t ≡ c) ⊎ ((t ≡ a) ⊎ (t ≡ b))

-- the part is the term's own node, or a part of one of its operands
pub data IsPartOf (nodes : List Node) (part : Node) : Term → Type 0 where
  own : (t : Term) → slice_get nodes t.number ≡ Some part → IsPartOf nodes part t
  of_operand : (t a : Term) (node : Node) → slice_get nodes t.number ≡ Some node → IsOperand node a
      → IsPartOf nodes part a → IsPartOf nodes part t

-- an input of the term has this bit
pub record MentionsBit (nodes : List Node) (t : Term) (bit : ℕ) : Type 0 where
  pub first : ℕ
  pub width : ℕ
  pub part : IsPartOf nodes (Input first width) t
  pub from : first ≤ bit
  pub before : bit < first + width

-- the term asks for this read in this width
abbrev pub MentionsRead : List Node → Term → ℕ → ℕ → Type 0
MentionsRead nodes t read width = IsPartOf nodes (Read read width) t

-- the point has the term's input bits, and its reads in their widths
pub record HasMentioned (nodes : List Node) (t : Term) (p : Point) : Type 0 where
  pub inputs : (bit : ℕ) → MentionsBit nodes t bit → bit < length p.inputs
  pub reads : (read width : ℕ) → MentionsRead nodes t read width → (b : Bits) × ReadGives p read width b

-- the points have the same where the term mentions it
pub record AreSameOn (nodes : List Node) (t : Term) (p q : Point) : Type 0 where
  pub inputs : (bit : ℕ) → MentionsBit nodes t bit → slice_get q.inputs bit ≡ slice_get p.inputs bit
  pub reads : (read width : ℕ) → MentionsRead nodes t read width → slice_get q.reads read ≡ slice_get p.reads read
