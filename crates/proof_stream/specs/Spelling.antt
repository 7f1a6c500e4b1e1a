-- The text of a record: its lines in order, and the words of each line.
use Rattle.std.specs.Prelude.{ℕ, Bool, List, [], ◌∷◌, ◌++◌, Option, None, Some, map, codes}
use Rattle.std.specs.Fmt.{decimal}
use Rattle.std.specs.List.{flat_map}
use Rattle.cnf_core.specs.declared.derivation.Derived.TheVariants.{Cube, Step}
use Rattle.cnf_core.specs.declared.derivation.Var.{Var}
use Rattle.cnf_core.specs.declared.derivation.Var.TheVariants.{Input, Read}
use Rattle.proof_stream.specs.declared.line.Line.{Line}
use Rattle.proof_stream.specs.declared.line.Line.TheVariants as line
use Rattle.proof_stream.specs.declared.record.End.TheVariants.{Sat, Unsat, Spent}
use Rattle.proof_stream.specs.declared.record.Kind.{Kind}
use Rattle.proof_stream.specs.declared.record.Kind.TheVariants.{Reach, Steady, Break, Nibble}
use Rattle.proof_stream.specs.declared.record.Record.{Record}
use Rattle.proof_stream.specs.declared.record.Record.TheVariants.{Asked, Broken}
use Rattle.proof_stream.specs.Words.{Word, clause_words, hint_words, bits_word, hex_word}

-- the line of the fixed input, where there is one
abbrev pub at_lines : Option (List Bool) → List Line
at_lines None = []
at_lines (Some bits) = line.At bits ∷ []

-- the lines of a record, in order
abbrev pub lines_of : Record → List Line
lines_of (Asked kind at vars clauses derived end) =
    line.Head kind ∷ (at_lines at ++ (map line.Var vars ++ (map line.Clause clauses ++ (map line.Derived derived ++ line.End end ∷ []))))
lines_of (Broken target at runs breaks) = line.Broken target ∷ line.At at ∷ line.Runs runs ∷ line.Breaks breaks ∷ []

abbrev pub kind_words : Kind → List Word
kind_words (Reach statement) = codes "reach" ∷ decimal statement ∷ []
kind_words (Steady statement) = codes "steady" ∷ decimal statement ∷ []
kind_words (Break statement) = codes "break" ∷ decimal statement ∷ []
kind_words (Nibble test nibble) = codes "nibble" ∷ decimal test ∷ decimal nibble ∷ []

abbrev pub var_words : Var → List Word
var_words (Input place) = codes "input" ∷ decimal place ∷ []
var_words (Read read bit) = codes "read" ∷ decimal read ∷ decimal bit ∷ []

-- the first word of a line
abbrev pub keyword : Line → Word
keyword (line.Head kind) = codes "record"
keyword (line.At bits) = codes "at"
keyword (line.Var var) = codes "var"
keyword (line.Clause lits) = codes "clause"
keyword (line.Derived (Cube lits)) = codes "cube"
keyword (line.Derived (Step step)) = codes "step"
keyword (line.End (Sat bits)) = codes "sat"
keyword (line.End Unsat) = codes "unsat"
keyword (line.End Spent) = codes "spent"
keyword (line.Broken target) = codes "broken"
keyword (line.Runs values) = codes "runs"
keyword (line.Breaks values) = codes "breaks"

-- the words behind the first
abbrev pub operands : Line → List Word
operands (line.Head kind) = kind_words kind
operands (line.At bits) = bits_word bits ∷ []
operands (line.Var var) = var_words var
operands (line.Clause lits) = clause_words lits
operands (line.Derived (Cube lits)) = clause_words lits
operands (line.Derived (Step step)) = clause_words step.clause ++ hint_words step.hints
operands (line.End (Sat bits)) = bits_word bits ∷ []
operands (line.End Unsat) = []
operands (line.End Spent) = []
operands (line.Broken target) = decimal target ∷ []
operands (line.Runs values) = map hex_word values
operands (line.Breaks values) = map hex_word values

abbrev pub blank : ℕ
blank = 32

abbrev pub line_feed : ℕ
line_feed = 10

-- a word behind a blank
abbrev pub spaced : Word → List ℕ
spaced word = blank ∷ word

-- the words of a line with single blanks between them
abbrev pub line_text : Line → List ℕ
line_text line = keyword line ++ flat_map spaced (operands line)

-- a line and the line feed that ends it
abbrev pub ended : List ℕ → List ℕ
ended text = text ++ line_feed ∷ []

-- lines in a row, each ended
abbrev pub text_of_lines : List Line → List ℕ
text_of_lines lines = flat_map (λ line. ended (line_text line)) lines

-- the one text of a record
abbrev pub text_of : Record → List ℕ
text_of r = text_of_lines (lines_of r)
