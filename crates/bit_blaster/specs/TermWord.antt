-- Words of terms: at each point that has the inputs' values a word carries what its term stands for.
use Rattle.std.specs.Prelude.{◌≡◌, ℕ, suc, zero, ◌+◌, ◌==◌, if◌then◌else◌, Bool, List, [], ◌∷◌, Some, length, slice_get}
use Rattle.std.specs.List.{AllZip}
use Rattle.bits_core.specs.declared.number.Bits.{Bits}
use Rattle.bits_core.specs.declared.points.Point.{Point}
use Rattle.cnf_core.specs.declared.derivation.Var.{Var}
use Rattle.cnf_core.specs.declared.derivation.Var.TheVariants.{Input, Read}
use Rattle.term_dag.specs.Marks.{IsMarked}
use Rattle.term_dag.specs.Mention.{IsOperand}
use Rattle.term_dag.specs.Value.{NodeGives, Values}
use Rattle.term_dag.specs.Width.{node_width, width_of}
use Rattle.term_dag.specs.declared.node.Node.{Node}
use Rattle.term_dag.specs.declared.node.Term.{Term}
use Rattle.bit_blaster.specs.declared.wire.Wire.{Wire}
use Rattle.bit_blaster.specs.declared.wire.Wire.TheVariants.{Literal}
use Rattle.bit_blaster.specs.Netlist.{Netlist, HasWord, Carries}
use Rattle.bit_blaster.specs.Tseitin.{variable}
use Rattle.bit_blaster.specs.Vars.{HasBits}

-- the word has w bits, and carries each number that is given at a point that has the inputs' values
pub record CarriesGiven (vars : List Var) (net : Netlist) (w : ℕ) (Gives : Point → Bits → Type 0) (word : List Wire) : Type 0 where
  pub has : HasWord net word
  pub long : length word ≡ w
  pub value : (inputs : List Bool) (p : Point) (b : Bits) → HasBits p vars inputs → Gives p b → Carries net inputs word b.value

-- what a term stands for
abbrev pub IsWordOf : List Node → List Var → Netlist → Term → List Wire → Type 0
IsWordOf nodes vars net t word = CarriesGiven vars net (width_of nodes t) (λ p. Values nodes p t) word

-- what a node gives on what its operands stand for
abbrev pub IsNodeWord : List Node → List Var → Netlist → Node → List Wire → Type 0
IsNodeWord nodes vars net node word =
    CarriesGiven vars net (node_width (width_of nodes) node) (λ p. NodeGives (Values nodes p) p node) word

-- the table has the words of the marked terms so far
pub record IsWordTable (nodes : List Node) (vars : List Var) (net : Netlist) (marks : List Bool) (table : List (List Wire)) : Type 0 where
  pub each : (u : Term) (word : List Wire) → IsMarked marks u → slice_get table u.number ≡ Some word → IsWordOf nodes vars net u word

-- and of a node's operands
pub record HasOperandWords (nodes : List Node) (vars : List Var) (net : Netlist) (node : Node) (table : List (List Wire)) : Type 0 where
  pub each : (a : Term) (word : List Wire) → IsOperand node a → slice_get table a.number ≡ Some word → IsWordOf nodes vars net a word

-- ---- the bits of inputs and reads

-- the wire is the variable of this bit
pub record IsWireOfVar (vars : List Var) (w : Wire) (v : Var) : Type 0 where
  pub place : ℕ
  pub at : slice_get vars place ≡ Some v
  pub is : w ≡ Literal (variable (suc place))

-- the wires are the variables of these bits
pub record AreWiresOf (vars : List Var) (word : List Wire) (bits : List Var) : Type 0 where
  pub each : AllZip (IsWireOfVar vars) word bits

-- so many input bits from this one on, the last first
abbrev pub input_bits : ℕ → ℕ → List Var
input_bits first zero = []
input_bits first (suc w) = Input (first + w) ∷ input_bits first w

-- the bits of a read, from this one on
abbrev pub read_bits : ℕ → ℕ → ℕ → List Var
read_bits read from zero = []
read_bits read from (suc w) = Read read from ∷ read_bits read (suc from) w

-- ---- what the circuits of parts and choices give

-- the new word of w bits carries f of the number that the operand carried
pub record ComputesOne (w : ℕ) (f : ℕ → ℕ) (old new : Netlist) (a r : List Wire) : Type 0 where
  pub has : HasWord new r
  pub long : length r ≡ w
  pub value : (inputs : List Bool) (x : ℕ) → Carries old inputs a x → Carries new inputs r (f x)

-- the new word carries the first number where the condition carried 1, and else the second
pub record ComputesChoice (old new : Netlist) (condition a b r : List Wire) : Type 0 where
  pub has : HasWord new r
  pub long : length r ≡ length a
  pub value : (inputs : List Bool) (test x y : ℕ) → Carries old inputs condition test → Carries old inputs a x →
      Carries old inputs b y → Carries new inputs r (if test == 1 then x else y)
