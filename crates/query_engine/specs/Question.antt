-- A question: whether its term is 1 at some of the points that it asks about. These are all points, or those whose input bits
-- are the fixed ones.
use Rattle.std.specs.Prelude.{◌≡◌, ◌<◌, ℕ, ⊤, Bool, List, [], Option, None, Some, length, map}
use Rattle.bits_core.specs.declared.number.Bits.{Bits}
use Rattle.bits_core.specs.declared.points.Point.{Point}
use Rattle.cnf_core.specs.declared.derivation.Var.{Var}
use Rattle.term_dag.specs.Mention.{MentionsBit}
use Rattle.term_dag.specs.Substitute.{IsSubstitute}
use Rattle.term_dag.specs.Value.{Values}
use Rattle.term_dag.specs.declared.fixed.Fixed.{Fixed}
use Rattle.term_dag.specs.declared.node.Node.{Node}
use Rattle.term_dag.specs.declared.node.Term.{Term}
use Rattle.bit_blaster.specs.Vars.{Mentions}
use Rattle.query_engine.specs.declared.question.Decided.{Decided}
use Rattle.query_engine.specs.declared.question.Decided.TheVariants.{Yes, No, Spent}
use Rattle.query_engine.specs.declared.question.Question.{Question}

-- the point has the fixed bits and no other
abbrev pub IsAt : Option (List Bool) → Point → Type 0
IsAt None p = ⊤
IsAt (Some bits) p = p.inputs ≡ bits

-- all input bits of the term are fixed, where some are
abbrev pub FixesInputs : List Node → Term → Option (List Bool) → Type 0
FixesInputs nodes t None = ⊤
FixesInputs nodes t (Some bits) = (bit : ℕ) → MentionsBit nodes t bit → bit < length bits

-- the term is 1 at the point
pub record IsOne (nodes : List Node) (t : Term) (p : Point) : Type 0 where
  pub number : Bits
  pub stands : Values nodes p t number
  pub is_one : number.value ≡ 1

-- the question asks about the point, and its term is 1 there
pub record IsYesAt (nodes : List Node) (q : Question) (p : Point) : Type 0 where
  pub at : IsAt q.at p
  pub one : IsOne nodes q.term p

-- ---- the term with the fixed bits put in

abbrev pub fixed_bits : Option (List Bool) → List (Option Bool)
fixed_bits None = []
fixed_bits (Some bits) = map Some bits

abbrev pub fixed_of : Option (List Bool) → Fixed
fixed_of at = record { inputs = fixed_bits at; reads = [] }

-- this is what is left of the question's term
abbrev pub IsLeft : List Node → Question → Term → Type 0
IsLeft nodes q left = IsSubstitute nodes (fixed_of q.at) q.term left

-- no bit decides what the term stands for
abbrev pub IsConstant : List Node → Term → Type 0
IsConstant nodes t = (v : Var) → ¬ Mentions nodes t v

-- ---- facts of each answer

abbrev pub IfYes : Decided → (Point → Type 0) → Type 0
IfYes (Yes p) says = says p
IfYes No says = ⊤
IfYes Spent says = ⊤

abbrev pub IfNo : Decided → Type 0 → Type 0
IfNo (Yes p) says = ⊤
IfNo No says = says
IfNo Spent says = ⊤

abbrev pub IfSpent : Decided → Type 0 → Type 0
IfSpent (Yes p) says = ⊤
IfSpent No says = ⊤
IfSpent Spent says = says
