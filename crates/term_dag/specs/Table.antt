-- A table of what the first terms of a dag stand for at a point.
use Rattle.std.specs.Prelude.{◌≡◌, ◌<◌, List, Option, Some, length, slice_get}
use Rattle.bits_core.specs.declared.number.Bits.{Bits}
use Rattle.bits_core.specs.declared.points.Point.{Point}
use Rattle.term_dag.specs.declared.node.Term.{Term}
use Rattle.term_dag.specs.declared.node.Node.{Node}
use Rattle.term_dag.specs.Value.{Values}

-- each term of the table stands for what the table has, and for nothing where it has nothing
pub record IsTable (nodes : List Node) (p : Point) (table : List (Option Bits)) : Type 0 where
  pub right : (t : Term) (b : Bits) → slice_get table t.number ≡ Some (Some b) → Values nodes p t b
  pub whole : (t : Term) (b : Bits) → t.number < length table → Values nodes p t b → slice_get table t.number ≡ Some (Some b)
