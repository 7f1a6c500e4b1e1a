-- When variables and clauses are about a question.
use Rattle.std.specs.Prelude.{◌≡◌, ◌↔◌, ℕ, ⊤, Bool, List, Option, None, Some, length}
use Rattle.std.specs.List.{All, AllPairs, Contains}
use Rattle.bits_core.specs.declared.number.Bits.{Bits}
use Rattle.bits_core.specs.declared.points.Point.{Point}
use Rattle.cnf_core.specs.Determined.{IsDetermined}
use Rattle.cnf_core.specs.declared.derivation.Var.{Var}
use Rattle.cnf_core.specs.declared.derivation.Var.TheVariants.{Input}
use Rattle.cnf_core.specs.declared.formula.Lit.{Lit}
use Rattle.term_dag.specs.Value.{Values}
use Rattle.term_dag.specs.declared.node.Node.{Node}
use Rattle.bit_blaster.specs.Clauses.{IsExtendable}
use Rattle.bit_blaster.specs.Vars.{HasBits, IsBefore, Mentions}
use Rattle.query_engine.specs.Question.{IsAt, IsOne}
use Rattle.query_engine.specs.declared.question.Question.{Question}

-- none of the variables is an input bit, where these are fixed
abbrev pub AreFree : Option (List Bool) → List Var → Type 0
AreFree None vars = ⊤
AreFree (Some bits) vars = (bit : ℕ) → ¬ Contains vars (Input bit)

-- the variables are bits of the question's term that are not fixed, in order
pub record AreBitsOf (nodes : List Node) (q : Question) (vars : List Var) : Type 0 where
  pub rising : AllPairs IsBefore vars
  pub mentioned : All (Mentions nodes q.term) vars
  pub free : AreFree q.at vars

-- the values make the question true: some point that it asks about has them, and the term is 1 there
pub record IsTrueWith (nodes : List Node) (q : Question) (vars : List Var) (values : List Bool) : Type 0 where
  pub point : Point
  pub at : IsAt q.at point
  pub bits : HasBits point vars values
  pub one : IsOne nodes q.term point

-- what the term stands for, at the points that the question asks about, goes by the variables alone
abbrev pub GoesBy : List Node → Question → List Var → Type 0
GoesBy nodes q vars = (p r : Point) (values : List Bool) (b c : Bits) → IsAt q.at p → IsAt q.at r → HasBits p vars values → HasBits r vars values →
    Values nodes p q.term b → Values nodes r q.term c → b ≡ c

-- The question depends on the variables alone. The values that make it true are those that extend to a valuation that satisfies
-- the clauses. Once the variables are set, propagation sets all others or conflicts.
pub record IsAbout (nodes : List Node) (q : Question) (vars : List Var) (clauses : List (List Lit)) : Type 0 where
  pub bits : AreBitsOf nodes q vars
  pub goes_by : GoesBy nodes q vars
  pub exact : (values : List Bool) → length values ≡ length vars → IsTrueWith nodes q vars values ↔ IsExtendable clauses values
  pub determined : IsDetermined (length vars) clauses
