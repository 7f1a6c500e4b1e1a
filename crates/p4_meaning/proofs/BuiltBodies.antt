-- What the bodies of a built program do: ingress begins its statements in order, and the other blocks nothing.
use Rattle.std.proofs.Common.{◌≡◌, ℕ, zero, suc, ◌≤◌, false, List, [], ◌∷◌, map, Some, refl, ap, ◌∙◌, arith}
use Rattle.std.specs.Prelude.{⊤}
use Rattle.p4_program.specs.declared.typed.callables.Parameter.{Parameter}
use Rattle.p4_program.specs.declared.typed.callables.Target.TheVariants.{Accept}
use Rattle.p4_program.specs.declared.typed.input.Input.{Input}
use Rattle.p4_program.specs.declared.typed.paths.Path.{Path}
use Rattle.p4_program.specs.declared.typed.paths.Root.TheVariants.{OfBlock}
use Rattle.p4_program.specs.declared.typed.paths.Step.TheVariants.{Field}
use Rattle.p4_program.specs.declared.typed.types.Scalar.{Scalar}
use Rattle.p4_program.specs.declared.typed.types.Scalar.TheVariants.{Sized}
use Rattle.p4_program.specs.declared.v1model.TheConstants.{DROP_PORT}
use Rattle.p4_program.specs.Built.{IsEgressSpec, IsStandard, SetsPort, BuiltWork, BuiltStatements}
use Rattle.p4_program.specs.Syntax.Callables.{CoreParser, To}
use Rattle.p4_program.specs.Syntax.Expressions.{CoreExpression, Constant}
use Rattle.p4_program.specs.Syntax.Numbering.{numbered_in_all}
use Rattle.p4_program.specs.Syntax.Statements.{CoreWork, CoreStatements, Assign, MarkToDrop, Numbered, NoStatements, Then}
use Rattle.p4_meaning.specs.Runs.Acts.{After, Store, gives, no_error}
use Rattle.p4_meaning.specs.Runs.Acts as act
use Rattle.p4_meaning.specs.Runs.BuiltRuns.{egress_by, egress_after}
use Rattle.p4_meaning.specs.Runs.Contents.{Content, Cell}
use Rattle.p4_meaning.specs.Runs.Courses.{Read, Course, Ends, Begins, Makes}
use Rattle.p4_meaning.specs.Runs.Courses as course
use Rattle.p4_meaning.specs.Runs.Expressions.{Reach}
use Rattle.p4_meaning.specs.Runs.Metadata.{egress_spec, starting_metadata, with_field}
use Rattle.p4_meaning.specs.Runs.Parser.{Ended, parses}
use Rattle.p4_meaning.specs.Runs.Statements.{runs, runs_all}

-- ---- courses that begin statements and read nothing

abbrev pub marking : {A : Type 0} → List ℕ → Course A → Course A
marking [] c = c
marking (n ∷ ns) c = Begins n (marking ns c)

pub marking_then : {A B : Type 0} → (ns : List ℕ) (c : Course A) (next : A → Course B)
    → course.◌>>=◌ (marking ns c) next ≡ marking ns (course.◌>>=◌ c next)
marking_then [] c next = refl
marking_then (n ∷ ns) c next = ap (Begins n) (marking_then ns c next)

-- what such a course makes
pub record Marked {A : Type 0} (ns : List ℕ) (a : A) (reads : List Read) (marks : List ℕ) (end : A) : Type 0 where
  pub no_read : reads ≡ []
  pub marked : marks ≡ ns
  pub ends : end ≡ a

pub marking_makes : {A : Type 0} → (ns : List ℕ) (a : A) (reads : List Read) (marks : List ℕ) (end : A)
    → Makes (marking ns (Ends a)) reads marks end → Marked ns a reads marks end
marking_makes [] a reads marks end m = record { no_read = m.no_read; marked = m.no_mark; ends = m.ends }
marking_makes (n ∷ ns) a reads marks end m =
    let later = marking_makes ns a reads m.later_marks end m.later in
    record { no_read = later.no_read; marked = m.all_marks ∙ ap (λ ms. n ∷ ms) later.marked; ends = later.ends }

pub makes_marking : {A : Type 0} → (ns : List ℕ) (a : A) → Makes (marking ns (Ends a)) [] ns a
makes_marking [] a = record { no_read = refl; no_mark = refl; ends = refl }
makes_marking (n ∷ ns) a = record { later_marks = ns; later = makes_marking ns a; all_marks = refl }

-- ---- the statements of ingress

-- the standard metadata with this in `egress_spec`, and all else as a run starts
abbrev pub standard_with : ℕ → Input → Scalar → ℕ → Content
standard_with errors x scalar value = with_field egress_spec (Cell scalar (Some value)) (starting_metadata errors x)

-- a store of ingress
abbrev pub store_with : (h m s : Content) → Store
store_with h m s = record { block = h ∷ m ∷ s ∷ []; action = []; cursor = 0; emitted = []; wrong_sum = false }

abbrev pub numbers_in : CoreStatements → List ℕ
numbers_in statements = map (λ s. s.number) (numbered_in_all statements)

module _ (Γ : Reach) (h m : Content) (errors : ℕ) (x : Input) where
  abbrev store_at : Scalar → ℕ → Store
  store_at scalar value = store_with h m (standard_with errors x scalar value)

  -- the statement is begun, and leaves this in `egress_spec`
  record Leaves (number : ℕ) (c : Course (After ⊤)) (value : ℕ) : Type 0 where
    scalar : Scalar
    is : c ≡ Begins number (gives tt (store_at scalar value))

  at_field : (path : Path) → IsEgressSpec path → path ≡ record { root = OfBlock 2; steps = Field 1 ∷ []; value_type = path.value_type }
  at_field path t = λ i. record { root = t.root i; steps = t.field i; value_type = path.value_type }

  at_whole : (path : Path) → IsStandard path → path ≡ record { root = OfBlock 2; steps = []; value_type = path.value_type }
  at_whole path t = λ i. record { root = t.root i; steps = t.whole i; value_type = path.value_type }

  assigns : (number : ℕ) (place : _) (path : Path) (e : CoreExpression) → SetsPort path e → (scalar : Scalar) (old : ℕ)
      → Leaves number (runs Γ (Numbered number place (Assign path e)) (store_at scalar old)) (egress_by old (Assign path e))
  assigns number place path (Constant scalar' value) t scalar old = record {
    scalar = scalar';
    is = ap (λ q. runs Γ (Numbered number place (Assign q (Constant scalar' value))) (store_at scalar old)) (at_field path t.target);
  }
  assigns number place path e t scalar old = absurd t.constant

  marks : (number : ℕ) (place : _) (path : Path) → IsStandard path → (scalar : Scalar) (old : ℕ)
      → Leaves number (runs Γ (Numbered number place (MarkToDrop path)) (store_at scalar old)) DROP_PORT
  marks number place path t scalar old = record {
    scalar = Sized 9;
    is = ap (λ q. runs Γ (Numbered number place (MarkToDrop q)) (store_at scalar old)) (at_whole path t);
  }

  works : (number : ℕ) (place : _) (work : CoreWork) → BuiltWork work → (scalar : Scalar) (old : ℕ)
      → Leaves number (runs Γ (Numbered number place work) (store_at scalar old)) (egress_by old work)
  works number place (Assign path e) t scalar old = assigns number place path e t scalar old
  works number place (MarkToDrop path) t scalar old = marks number place path t scalar old
  works number place work t scalar old = absurd t

  -- statements leave this in `egress_spec`, and each of them is begun
  pub record LeavesAll (statements : CoreStatements) (c : Course (After ⊤)) (value : ℕ) : Type 0 where
    pub scalar : Scalar
    pub is : c ≡ marking (numbers_in statements) (gives tt (store_at scalar value))

  pub body_runs : (statements : CoreStatements) → BuiltStatements statements → (scalar : Scalar) (old : ℕ)
      → LeavesAll statements (runs_all Γ statements (store_at scalar old)) (egress_after old statements)
  body_runs NoStatements t scalar old = record { scalar = scalar; is = refl }
  body_runs (Then (Numbered number place work) rest) t scalar old =
      let one = works number place work t.0 scalar old in
      let others = body_runs rest t.1 one.scalar (egress_by old work) in
      record {
        scalar = others.scalar;
        is = ap (λ c. course.◌>>=◌ c (λ after. act.going_on (λ (value : ⊤). runs_all Γ rest) after.store after.result)) one.is
            ∙ ap (Begins number) others.is;
      }
  body_runs (Then statement rest) t scalar old = absurd t.0

-- ---- the parser

abbrev pub accepting : List Parameter → ℕ → CoreParser
accepting parameters start = record {
  parameters = parameters;
  variables = [];
  beginning = NoStatements;
  states = record { statements = NoStatements; transition = To Accept } ∷ [];
  start = start;
}

pub parses_at_once : (steps : ℕ) → 1 ≤ steps → (Γ : Reach) (parameters : List Parameter) (start : ℕ) (store : Store)
    → parses steps Γ (accepting parameters start) store ≡ gives (Ended no_error) store
parses_at_once zero some Γ parameters start store = absurd (omega arith)
parses_at_once (suc steps) some Γ parameters zero store = refl
parses_at_once (suc steps) some Γ parameters (suc start) store = refl
