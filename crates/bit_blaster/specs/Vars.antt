-- The variables of a term, which are the bits of its inputs and reads.
use Rattle.std.specs.Prelude.{◌≡◌, ◌↔◌, ◌⊎◌, ⊤, ℕ, ◌+◌, ◌<◌, ◌≤◌, Bool, List, Some, length, slice_get}
use Rattle.std.specs.List.{AllPairs, AllZip, Contains}
use Rattle.bits_core.specs.BitList.{bits_of}
use Rattle.bits_core.specs.declared.number.Bits.{Bits}
use Rattle.bits_core.specs.declared.points.Point.{Point}
use Rattle.cnf_core.specs.declared.formula.Lit.{Lit}
use Rattle.cnf_core.specs.declared.derivation.Var.{Var}
use Rattle.cnf_core.specs.declared.derivation.Var.TheVariants.{Input, Read}
use Rattle.term_dag.specs.Mention.{MentionsBit, MentionsRead}
use Rattle.term_dag.specs.Value.{Values}
use Rattle.term_dag.specs.declared.node.Node.{Node}
use Rattle.term_dag.specs.declared.node.Node.TheVariants.{Input as InputNode, Read as ReadNode}
use Rattle.term_dag.specs.declared.node.Term.{Term}
use Rattle.bit_blaster.specs.Clauses.{IsExtendable}

-- the term has the input bit, or asks for the read in a width that has the bit
abbrev pub Mentions : List Node → Term → Var → Type 0
Mentions nodes t (Input bit) = MentionsBit nodes t bit
Mentions nodes t (Read read bit) = (width : ℕ) × MentionsRead nodes t read width × (bit < width)

-- inputs by rising number, and then reads by rising number and bit
abbrev pub IsBefore : Var → Var → Type 0
IsBefore (Input a) (Input b) = a < b
IsBefore (Input a) (Read s b) = ⊤
IsBefore (Read r a) (Input b) = ⊥
IsBefore (Read r a) (Read s b) = (r < s) ⊎ ((r ≡ s) × (a < b))

-- the variables are the bits that the term mentions, in order
pub record AreVarsOf (nodes : List Node) (t : Term) (vars : List Var) : Type 0 where
  pub rising : AllPairs IsBefore vars
  pub mentioned : (v : Var) → Contains vars v ↔ Mentions nodes t v

-- no read is asked for in two widths
pub record AsksOneWidth (nodes : List Node) (t : Term) : Type 0 where
  pub each : (read v w : ℕ) → MentionsRead nodes t read v → MentionsRead nodes t read w → v ≡ w

-- the point has this bit; of a read, bit 0 is the lowest
abbrev pub HasBit : Point → Var → Bool → Type 0
HasBit p (Input bit) truth = slice_get p.inputs bit ≡ Some truth
HasBit p (Read read bit) truth =
    (x : Bits) × (slice_get p.reads read ≡ Some x) × (slice_get (bits_of x.width x.value) bit ≡ Some truth)

-- the point has the variables' values
pub record HasBits (p : Point) (vars : List Var) (values : List Bool) : Type 0 where
  pub each : AllZip (HasBit p) vars values

-- some point that has these values makes the term 1
pub record IsOneSomewhere (nodes : List Node) (t : Term) (vars : List Var) (values : List Bool) : Type 0 where
  pub point : Point
  pub bits : HasBits point vars values
  pub number : Bits
  pub stands : Values nodes point t number
  pub is_one : number.value ≡ 1

-- the values that make the term 1 somewhere are those that extend to a valuation that satisfies the clauses
pub record IsFormulaOf (nodes : List Node) (t : Term) (vars : List Var) (clauses : List (List Lit)) : Type 0 where
  pub each : (values : List Bool) → length values ≡ length vars →
      IsOneSomewhere nodes t vars values ↔ IsExtendable clauses values

-- the node names the bit
abbrev pub Names : Node → Var → Type 0
Names (InputNode first width) (Input bit) = (first ≤ bit) × (bit < first + width)
Names (ReadNode read width) (Read r bit) = (r ≡ read) × (bit < width)
Names node v = ⊥

-- the node is a read of which there is a bit past the node's width
abbrev pub IsCutRead : List Var → Node → Type 0
IsCutRead vars (ReadNode read width) = Contains vars (Read read width)
IsCutRead vars node = ⊥

-- the new list has what the old one had and what is so, and nothing else
pub record Gains (old new : List Var) (IsSo : Var → Type 0) : Type 0 where
  pub kept : (v : Var) → Contains old v → Contains new v
  pub added : (v : Var) → IsSo v → Contains new v
  pub only : (v : Var) → Contains new v → Contains old v ⊎ IsSo v
