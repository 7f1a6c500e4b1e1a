-- The order of the lines of a record, one line after the other.
use Rattle.std.specs.Prelude.{ℕ, ◌+◌, ◌==◌, ◌&&◌, Bool, true, false, not, if◌then◌else◌, List, [], ◌∷◌, ◌++◌, length, Option, None, Some, Result, Ok, Err}
use Rattle.std.specs.List.{slice_split}
use Rattle.cnf_core.specs.declared.derivation.Var.{Var}
use Rattle.proof_stream.specs.declared.draft.Draft.{Draft}
use Rattle.proof_stream.specs.declared.draft.Draft.TheVariants as draft
use Rattle.proof_stream.specs.declared.draft.Question.{Question}
use Rattle.proof_stream.specs.declared.line.Line.{Line}
use Rattle.proof_stream.specs.declared.line.Line.TheVariants as line
use Rattle.proof_stream.specs.declared.record.End.{End}
use Rattle.proof_stream.specs.declared.record.End.TheVariants.{Sat, Unsat, Spent}
use Rattle.proof_stream.specs.declared.record.Kind.{Kind}
use Rattle.proof_stream.specs.declared.record.Kind.TheVariants.{Reach, Steady, Break, Nibble}
use Rattle.proof_stream.specs.declared.record.Record.{Record}
use Rattle.proof_stream.specs.declared.record.Record.TheVariants.{Asked, Broken}
use Rattle.proof_stream.specs.Reading.{◌>>=◌, line_of}
use Rattle.proof_stream.specs.Spelling.{blank}

-- the question is about a fixed input
abbrev pub is_about_input : Kind → Bool
is_about_input (Reach statement) = false
is_about_input (Steady statement) = false
is_about_input (Break statement) = true
is_about_input (Nibble test nibble) = true

abbrev pub is_given : Option (List Bool) → Bool
is_given None = false
is_given (Some bits) = true

abbrev pub is_nil : {A : Type 0} → List A → Bool
is_nil [] = true
is_nil (x ∷ xs) = false

abbrev pub opened : Kind → Question
opened kind = record { kind = kind; at = None; vars = []; clauses = []; derived = [] }

-- the fixed input stands exactly where the question is about one
abbrev pub is_right_at : Kind → Option (List Bool) → Bool
is_right_at (Reach statement) at = not (is_given at)
is_right_at (Steady statement) at = not (is_given at)
is_right_at (Break statement) at = is_given at
is_right_at (Nibble test nibble) at = is_given at

abbrev pub takes_at : Question → Bool
takes_at q = is_about_input q.kind && (not (is_given q.at) && is_nil q.vars)

abbrev pub takes_var : Question → Bool
takes_var q = is_right_at q.kind q.at && (is_nil q.clauses && is_nil q.derived)

abbrev pub takes_clause : Question → Bool
takes_clause q = not (is_nil q.vars) && is_nil q.derived

-- a line of the derivation, or the end
abbrev pub takes_more : Question → Bool
takes_more q = not (is_nil q.vars)

abbrev pub is_end_of : List Var → End → Bool
is_end_of vars (Sat bits) = length bits == length vars
is_end_of vars Unsat = true
is_end_of vars Spent = true

abbrev pub ended_record : Question → End → Record
ended_record q end = Asked q.kind q.at q.vars q.clauses q.derived end

abbrev pub next_of : Question → Line → Option Draft
next_of q (line.At bits) = if takes_at q then Some (draft.Asked (record q { at = Some bits })) else None
next_of q (line.Var var) = if takes_var q then Some (draft.Asked (record q { vars = q.vars ++ var ∷ [] })) else None
next_of q (line.Clause lits) = if takes_clause q then Some (draft.Asked (record q { clauses = q.clauses ++ lits ∷ [] })) else None
next_of q (line.Derived d) = if takes_more q then Some (draft.Asked (record q { derived = q.derived ++ d ∷ [] })) else None
next_of q (line.End end) = if takes_more q && is_end_of q.vars end then Some (draft.Whole (ended_record q end)) else None
next_of q other = None

-- the draft with one more line, where it may stand there
unfoldable pub next : Draft → Line → Option Draft
next draft.Empty (line.Head kind) = Some (draft.Asked (opened kind))
next draft.Empty (line.Broken target) = Some (draft.Target target)
next (draft.Asked q) l = next_of q l
next (draft.Target target) (line.At bits) = Some (draft.TargetAt target bits)
next (draft.TargetAt target bits) (line.Runs values) = Some (draft.TargetRuns target bits values)
next (draft.TargetRuns target bits runs) (line.Breaks values) = Some (draft.Whole (Broken target bits runs values))
next other l = None

-- the draft with one more line of text
unfoldable pub next_at : Draft → List ℕ → Option Draft
next_at d text = line_of (slice_split (λ byte. byte == blank) text) >>= next d

abbrev pub finish : ℕ → Draft → Result Record ℕ
finish number (draft.Whole r) = Ok r
finish number other = Err number

abbrev pub with_draft : ℕ → (Draft → Result Record ℕ) → Option Draft → Result Record ℕ
with_draft number rest None = Err number
with_draft number rest (Some d) = rest d

-- The record whose text goes on with the pieces, of which the last was not ended; or the number of the first line that
-- does not fit.
unfoldable pub read_from : ℕ → Draft → List (List ℕ) → Result Record ℕ
read_from number d [] = Err number
read_from number d (rest ∷ []) = if length rest == 0 then finish number d else Err number
read_from number d (text ∷ more ∷ pieces) = with_draft number (λ e. read_from (number + 1) e (more ∷ pieces)) (next_at d text)
