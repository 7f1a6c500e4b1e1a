-- What a term stands for at a point: the number that its node gives on what its operands stand for. A term stands for
-- nothing at a point that lacks one of its inputs or reads, or has one of the reads in another width.
use Rattle.std.specs.Prelude.{◌≡◌, ℕ, zero, suc, ◌+◌, ◌≤◌, ◌-◌, ◌==◌, Bool, List, Some, length, reverse, slice_get, slice_range, if◌then◌else◌}
use Rattle.bits_core.specs.BitList.{number_of}
use Rattle.bits_core.specs.Number.{slice_value, extend_value}
use Rattle.bits_core.specs.Operator.{operator_value, result_width, shape_of}
use Rattle.bits_core.specs.declared.number.Bits.{Bits}
use Rattle.bits_core.specs.declared.operator.Op.{Op}
use Rattle.bits_core.specs.declared.points.Point.{Point}
use Rattle.term_dag.specs.declared.node.Term.{Term}
use Rattle.term_dag.specs.declared.node.Node.{Node}
use Rattle.term_dag.specs.declared.node.Node.TheVariants.{Constant, Input, Read, One, Two, Slice, Extend, Choose}

-- the number of so many of the input's bits from this one on, the first most significant
pub record InputGives (p : Point) (first w : ℕ) (b : Bits) : Type 0 where
  pub there : first + w ≤ length p.inputs
  pub width : b.width ≡ w
  pub value : b.value ≡ number_of (reverse (slice_range p.inputs first (first + w)))

-- what the read of this number gives, which has this width
pub record ReadGives (p : Point) (read w : ℕ) (b : Bits) : Type 0 where
  pub there : slice_get p.reads read ≡ Some b
  pub width : b.width ≡ w

-- In what follows `Stands a x` says that the operand `a` stands for the number `x`.
pub record OneGives (Stands : Term → Bits → Type 0) (op : Op) (a : Term) (b : Bits) : Type 0 where
  pub x : Bits
  pub operand : Stands a x
  pub width : b.width ≡ x.width
  pub value : b.value ≡ operator_value op x.width x.value 0 0

pub record TwoGives (Stands : Term → Bits → Type 0) (op : Op) (a c : Term) (b : Bits) : Type 0 where
  pub x : Bits
  pub y : Bits
  pub first : Stands a x
  pub second : Stands c y
  pub width : b.width ≡ result_width (shape_of op) x.width y.width
  pub value : b.value ≡ operator_value op x.width x.value y.width y.value

pub record SliceGives (Stands : Term → Bits → Type 0) (a : Term) (high low : ℕ) (b : Bits) : Type 0 where
  pub x : Bits
  pub operand : Stands a x
  pub width : b.width ≡ high - low + 1
  pub value : b.value ≡ slice_value x.value high low

pub record ExtendGives (Stands : Term → Bits → Type 0) (a : Term) (w : ℕ) (signed : Bool) (b : Bits) : Type 0 where
  pub x : Bits
  pub operand : Stands a x
  pub width : b.width ≡ w
  pub value : b.value ≡ extend_value signed x.width x.value w

pub record ChooseGives (Stands : Term → Bits → Type 0) (c a d : Term) (b : Bits) : Type 0 where
  pub test : Bits
  pub x : Bits
  pub y : Bits
  pub condition : Stands c test
  pub first : Stands a x
  pub second : Stands d y
  pub value : b ≡ (if test.value == 1 then x else y)

abbrev pub NodeGives : (Term → Bits → Type 0) → Point → Node → Bits → Type 0
NodeGives Stands p (Constant c) b = b ≡ c
NodeGives Stands p (Input first w) b = InputGives p first w b
NodeGives Stands p (Read read w) b = ReadGives p read w b
NodeGives Stands p (One op a) b = OneGives Stands op a b
NodeGives Stands p (Two op a c) b = TwoGives Stands op a c b
NodeGives Stands p (Slice a high low) b = SliceGives Stands a high low b
NodeGives Stands p (Extend a w signed) b = ExtendGives Stands a w signed b
NodeGives Stands p (Choose c a d) b = ChooseGives Stands c a d b

-- the term's node gives b
pub record TermGives (Stands : Term → Bits → Type 0) (nodes : List Node) (p : Point) (t : Term) (b : Bits) : Type 0 where
  pub node : Node
  pub at : slice_get nodes t.number ≡ Some node
  pub gives : NodeGives Stands p node b

-- by recursion on the terms' numbers, which stop below n
abbrev pub StandsBelow : ℕ → List Node → Point → Term → Bits → Type 0
StandsBelow zero nodes p t b = ⊥
StandsBelow (suc n) nodes p t b = TermGives (StandsBelow n nodes p) nodes p t b

-- the term stands for b at the point
abbrev pub Values : List Node → Point → Term → Bits → Type 0
Values nodes p t b = StandsBelow (suc t.number) nodes p t b
