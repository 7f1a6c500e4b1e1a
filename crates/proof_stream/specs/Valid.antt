-- Which records have a text, and which texts are those of a record.
use Rattle.std.specs.Prelude.{◌≡◌, ◌≢◌, ◌<◌, ◌^◌, ℕ, Bool, List, [], Option, None, length}
use Rattle.std.specs.List.{AllByRecursion}
use Rattle.cnf_core.specs.Literal.{IsApart}
use Rattle.cnf_core.specs.declared.derivation.Derived.TheVariants.{Cube, Step}
use Rattle.cnf_core.specs.declared.derivation.Var.{Var}
use Rattle.cnf_core.specs.declared.derivation.Var.TheVariants.{Input, Read}
use Rattle.cnf_core.specs.declared.formula.Lit.{Lit}
use Rattle.proof_stream.specs.declared.line.Line.{Line}
use Rattle.proof_stream.specs.declared.line.Line.TheVariants as line
use Rattle.proof_stream.specs.declared.record.End.{End}
use Rattle.proof_stream.specs.declared.record.End.TheVariants.{Sat, Unsat, Spent}
use Rattle.proof_stream.specs.declared.record.Kind.{Kind}
use Rattle.proof_stream.specs.declared.record.Kind.TheVariants.{Reach, Steady, Break, Nibble}
use Rattle.proof_stream.specs.declared.record.Record.{Record}
use Rattle.proof_stream.specs.declared.record.Record.TheVariants.{Asked, Broken}
use Rattle.proof_stream.specs.Spelling.{lines_of, text_of}

-- variables are numbered from 1
abbrev pub HasVariables : List Lit → Type 0
HasVariables lits = AllByRecursion (λ l. 0 < l.var) lits

-- clauses are numbered from 1
abbrev pub AreNumbers : List ℕ → Type 0
AreNumbers hints = AllByRecursion (λ hint. 0 < hint) hints

-- a line that can be spelled: bits have a digit, literals a variable, hints a clause, and no clause a variable twice
abbrev pub IsLine : Line → Type 0
IsLine (line.Head kind) = Unit {0}
IsLine (line.At bits) = bits ≢ []
IsLine (line.Var var) = Unit {0}
IsLine (line.Clause lits) = HasVariables lits × IsApart lits
IsLine (line.Derived (Cube lits)) = HasVariables lits
IsLine (line.Derived (Step step)) = HasVariables step.clause × AreNumbers step.hints
IsLine (line.End (Sat bits)) = bits ≢ []
IsLine (line.End Unsat) = Unit {0}
IsLine (line.End Spent) = Unit {0}
IsLine (line.Broken target) = Unit {0}
IsLine (line.Runs values) = Unit {0}
IsLine (line.Breaks values) = Unit {0}

-- the fixed input of a question stands exactly where it is about one
abbrev pub IsAtOf : Kind → Option (List Bool) → Type 0
IsAtOf (Reach statement) at = at ≡ None
IsAtOf (Steady statement) at = at ≡ None
IsAtOf (Break statement) at = at ≢ None
IsAtOf (Nibble test nibble) at = at ≢ None

-- an answer that is sat has a truth for each variable
abbrev pub IsEndOf : List Var → End → Type 0
IsEndOf vars (Sat bits) = length bits ≡ length vars
IsEndOf vars Unsat = Unit {0}
IsEndOf vars Spent = Unit {0}

-- the order of the lines is that of a record
abbrev pub IsOrderly : Record → Type 0
IsOrderly (Asked kind at vars clauses derived end) = IsAtOf kind at × (vars ≢ []) × IsEndOf vars end
IsOrderly (Broken target at runs breaks) = Unit {0}

-- a record that has a text
pub record HasText (r : Record) : Type 0 where
  pub orderly : IsOrderly r
  pub lines : AllByRecursion IsLine (lines_of r)

abbrev pub Is32 : ℕ → Type 0
Is32 n = n < 2 ^ 32

-- each number of the line is one of 32 bits, as the types of a record have it
abbrev pub Fits : Line → Type 0
Fits (line.Head (Reach statement)) = Is32 statement
Fits (line.Head (Steady statement)) = Is32 statement
Fits (line.Head (Break statement)) = Is32 statement
Fits (line.Head (Nibble test nibble)) = Is32 test × Is32 nibble
Fits (line.At bits) = Unit {0}
Fits (line.Var (Input place)) = Is32 place
Fits (line.Var (Read read bit)) = Is32 read × Is32 bit
Fits (line.Clause lits) = AllByRecursion (λ l. Is32 l.var) lits
Fits (line.Derived (Cube lits)) = AllByRecursion (λ l. Is32 l.var) lits
Fits (line.Derived (Step step)) = AllByRecursion (λ l. Is32 l.var) step.clause × AllByRecursion Is32 step.hints
Fits (line.End end) = Unit {0}
Fits (line.Broken target) = Is32 target
Fits (line.Runs values) = Unit {0}
Fits (line.Breaks values) = Unit {0}

-- the text is that of the record
pub record IsReading (text : List ℕ) (r : Record) : Type 0 where
  pub has_text : HasText r
  pub fits : AllByRecursion Fits (lines_of r)
  pub spelled : text ≡ text_of r
