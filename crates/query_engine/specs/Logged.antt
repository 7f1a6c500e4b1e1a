-- What a question adds to the log.
use Rattle.std.specs.Prelude.{◌≡◌, ◌≢◌, ◌<◌, ◌^◌, ◌∷◌, ◌++◌, ◌⊎◌, ⊤, ℕ, List, [], Some, All, length}
use Rattle.cnf_core.specs.declared.derivation.Derived.{Derived}
use Rattle.cnf_core.specs.declared.derivation.Derived.TheVariants.{Cube, Step}
use Rattle.cnf_core.specs.declared.derivation.Var.{Var}
use Rattle.cnf_core.specs.declared.formula.Lit.{Lit}
use Rattle.proof_stream.specs.Valid.{HasText}
use Rattle.proof_stream.specs.declared.record.End.{End}
use Rattle.proof_stream.specs.declared.record.End.TheVariants as end
use Rattle.proof_stream.specs.declared.record.Record.{Record}
use Rattle.proof_stream.specs.declared.record.Record.TheVariants.{Asked}
use Rattle.refutation_checker.specs.Acceptance.{IsAccepted, HasEmptyStep}
use Rattle.refutation_checker.specs.AcceptedCubes.{cubes_of}
use Rattle.refutation_checker.specs.Derivation.{Derivation}
use Rattle.term_dag.specs.declared.node.Node.{Node}
use Rattle.term_dag.specs.declared.node.Term.{Term}
use Rattle.bit_blaster.specs.Clauses.{IsExtendable}
use Rattle.bit_blaster.specs.Vars.{HasBits}
use Rattle.query_engine.specs.About.{IsAbout}
use Rattle.query_engine.specs.Question.{IfSpent, IsLeft, IsConstant}
use Rattle.query_engine.specs.declared.question.Decided.{Decided}
use Rattle.query_engine.specs.declared.question.Decided.TheVariants.{Yes, No, Spent}
use Rattle.query_engine.specs.declared.question.Question.{Question}

-- the formula of a question with what was derived from it
abbrev pub derivation : List Var → List (List Lit) → List Derived → Derivation
derivation vars clauses derived = record { inputs = length vars; clauses = clauses; derived = derived }

abbrev pub cube_count : List Derived → ℕ
cube_count derived = length (cubes_of derived)

-- The last line says the answer: the bits of the point, which satisfy the clauses; that the empty clause was derived; or that as
-- many cubes as were allowed were derived before another answer.
abbrev pub SaysAnswer : List Var → List (List Lit) → List Derived → ℕ → Decided → End → Type 0
SaysAnswer vars clauses derived allowance (Yes p) (end.Sat bits) =
    HasBits p vars bits × IsExtendable clauses bits × (cube_count derived < allowance)
SaysAnswer vars clauses derived allowance No end.Unsat = HasEmptyStep (derivation vars clauses derived) × (cube_count derived < allowance)
SaysAnswer vars clauses derived allowance Spent end.Spent = (cube_count derived ≡ allowance) × (allowance < 3 ^ length vars)
SaysAnswer vars clauses derived allowance decided last = ⊥

-- the hints of a step are numbers of clauses
abbrev pub HasNumbers : Derived → Type 0
HasNumbers (Cube cube) = ⊤
HasNumbers (Step step) = All (λ hint. 0 < hint) step.hints

-- The record is about the question, each of its lines was accepted, and it ends with the answer. It has a variable; and a text,
-- but where the fixed input has no bits.
pub record IsRecordOf (nodes : List Node) (q : Question) (allowance : ℕ) (decided : Decided) (r : Record) : Type 0 where
  pub vars : List Var
  pub clauses : List (List Lit)
  pub derived : List Derived
  pub last : End
  pub is : r ≡ Asked q.kind q.at vars clauses derived last
  pub some_var : vars ≢ []
  pub about : IsAbout nodes q vars clauses
  pub accepted : IsAccepted (derivation vars clauses derived)
  pub says : SaysAnswer vars clauses derived allowance decided last
  pub text : q.at ≢ Some [] → HasText r

-- one record was added behind the others
pub record AddsRecord (nodes : List Node) (q : Question) (allowance : ℕ) (decided : Decided) (old new : List Record) : Type 0 where
  pub added : Record
  pub is_last : new ≡ old ++ added ∷ []
  pub of_question : IsRecordOf nodes q allowance decided added

-- with the fixed bits put in the question has an answer at once, and adds nothing
pub record AddsNothing (nodes : List Node) (left : Term) (decided : Decided) (old new : List Record) : Type 0 where
  pub constant : IsConstant nodes left
  pub same : new ≡ old
  pub answered : IfSpent decided ⊥

-- a record is added but where nothing is left to ask
pub record Logs (nodes : List Node) (q : Question) (allowance : ℕ) (decided : Decided) (old new : List Record) : Type 0 where
  pub left : Term
  pub is_left : IsLeft nodes q left
  pub adds : AddsNothing nodes left decided old new ⊎ ((¬ IsConstant nodes left) × AddsRecord nodes q allowance decided old new)
