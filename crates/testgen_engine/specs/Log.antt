-- The log of the questions that a job asked. A program whose inputs have one run each needs no question, so
-- a log has no record yet, and no unit of the budget is spent.
use Rattle.std.specs.Prelude.{◌≡◌, ◌↔◌, ℕ, ◌≤◌, List, [], Some, Contains, slice_get, take}
use Rattle.p4_program.specs.declared.bounds.Bounds.{Bounds}
use Rattle.p4_program.specs.declared.program.Program.{Program}
use Rattle.p4_program.specs.Numbered.{numbered}
use Rattle.p4_meaning.specs.declared.test.Expected.{Expected}
use Rattle.p4_meaning.specs.declared.test.Expected.TheVariants.{Drop, Packet}
use Rattle.p4_meaning.specs.declared.test.Nibble.TheVariants as nibble
use Rattle.p4_meaning.specs.declared.test.Test.{Test}
use Rattle.p4_meaning.specs.declared.verdict.Verdict.{Verdict}
use Rattle.p4_meaning.specs.declared.verdict.Verdict.TheVariants as verdict

-- a record of the log
pub data LogRecord : Type 0 where

-- the text of a log
abbrev pub log_text : List LogRecord → List ℕ
log_text records = []

-- how many units of its budget the search for a statement spent
abbrev pub statement_units : List LogRecord → ℕ → ℕ
statement_units records statement = 0

-- how many units of its budget a test's masks spent
abbrev pub test_units : List LogRecord → ℕ → ℕ
test_units records test = 0

-- some nibble of what is expected is undecided
abbrev pub HasUndecided : Expected → Type 0
HasUndecided Drop = ⊥
HasUndecided (Packet port nibbles) = Contains nibbles nibble.Undecided

-- A record about this program and these tests is right behind the records before it: by cases on what it asks.
abbrev pub IsRightBehind : Program → Bounds → List Test → List LogRecord → LogRecord → Type 0
IsRightBehind p b tests before entry = elim entry [ ]

-- What a log says so far, whatever follows: each record is right behind those before it, no search for a statement spends
-- more than its budget, and a nibble is undecided only where its test's budget was spent.
pub record LawfulSoFar (p : Program) (b : Bounds) (tests : List Test) (log : List LogRecord) : Type 0 where
  pub records : (place : ℕ) (entry : LogRecord) → slice_get log place ≡ Some entry
      → IsRightBehind p b tests (take place log) entry
  pub within : (statement : ℕ) → statement_units log statement ≤ b.budget
  pub nibbles : (number : ℕ) (test : Test) → numbered tests number ≡ Some test
      → HasUndecided test.expected → test_units log number ≡ b.budget

-- And the whole log says why what is undecided stayed so: a statement is undecided exactly where its budget was spent.
pub record Lawful (p : Program) (b : Bounds) (verdicts : List Verdict) (tests : List Test) (log : List LogRecord) : Type 0 where
  pub so_far : LawfulSoFar p b tests log
  pub statements : (statement : ℕ) (v : Verdict) → numbered verdicts statement ≡ Some v
      → (v ≡ verdict.Undecided) ↔ (statement_units log statement ≡ b.budget)
