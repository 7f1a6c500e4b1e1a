-- What the domain of a dag speaks of, and what its values and flags are and stand for. It offers every read, and its laws
-- speak of every point.
use Rattle.std.specs.Prelude.{◌≡◌, ℕ, ◌<◌, ◌≤◌, List, length}
use Rattle.bits_core.specs.declared.number.TheConstants.{MAX_WIDTH}
use Rattle.bits_core.specs.BitList.{bit_value}
use Rattle.bits_core.specs.declared.number.Bits.{Bits}
use Rattle.bits_core.specs.declared.points.Point.{Point}
use Rattle.term_dag.specs.declared.node.Node.{Node}
use Rattle.term_dag.specs.declared.node.Term.{Term}
use Rattle.term_dag.specs.Value.{Values}
use Rattle.term_dag.specs.Width.{IsDag, width_of}
use Rattle.value_domain.specs.Meaning.{Meaning}

-- a term of the dag
pub record IsTerm (nodes : List Node) (t : Term) : Type 0 where
  pub dag : IsDag nodes
  pub within : t.number < length nodes

-- a term of one bit
pub record IsFlag (nodes : List Node) (t : Term) : Type 0 where
  pub term : IsTerm nodes t
  pub one_bit : width_of nodes t ≡ 1

-- the number x is the term's value at the point, so nothing is where the point lacks an input or a read of the term
pub record StandsFor (nodes : List Node) (t : Term) (p : Point) (x : ℕ) : Type 0 where
  pub b : Bits
  pub value : Values nodes p t b
  pub is : b.value ≡ x

abbrev pub symbolic_meaning : List Node → Meaning Term Term
symbolic_meaning nodes = record {
  offers = λ read width. (1 ≤ width) × (width ≤ MAX_WIDTH);
  speaks_of = λ p. Unit {0};
  has = IsTerm nodes;
  width_of = width_of nodes;
  stands = StandsFor nodes;
  has_flag = IsFlag nodes;
  flag_stands = λ f p truth. StandsFor nodes f p (bit_value truth);
}
