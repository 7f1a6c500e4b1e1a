-- A mark for each term up to one: whether that one is made of it.
use Rattle.std.specs.Prelude.{◌≡◌, suc, ◌⊎◌, Bool, true, List, Some, length, slice_get}
use Rattle.term_dag.specs.declared.node.Node.{Node}
use Rattle.term_dag.specs.declared.node.Term.{Term}
use Rattle.term_dag.specs.Mention.{IsOperand, IsPartOf}

abbrev pub IsMarked : List Bool → Term → Type 0
IsMarked marks t = slice_get marks t.number ≡ Some true

-- the node's operands are marked too, and nothing else
pub record MarksOperands (node : Node) (old new : List Bool) : Type 0 where
  pub long : length new ≡ length old
  pub kept : (t : Term) → IsMarked old t → IsMarked new t
  pub operands : (a : Term) → IsOperand node a → IsMarked new a
  pub only : (t : Term) → IsMarked new t → IsMarked old t ⊎ IsOperand node t

-- the term is marked, and with each its operands; what is marked has no part that the term has not
pub record AreMarks (nodes : List Node) (t : Term) (marks : List Bool) : Type 0 where
  pub long : length marks ≡ suc t.number
  pub itself : IsMarked marks t
  pub operands : (u a : Term) (node : Node) → IsMarked marks u → slice_get nodes u.number ≡ Some node
      → IsOperand node a → IsMarked marks a
  pub parts : (u : Term) (part : Node) → IsMarked marks u → IsPartOf nodes part u → IsPartOf nodes part t
