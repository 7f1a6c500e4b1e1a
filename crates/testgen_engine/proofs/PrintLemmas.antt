-- Lemmas on what a job adds to each output: the tests, and then the report.
use Rattle.std.proofs.Common.{◌≡◌, ℕ, ◌+◌, ◌<◌, false, List, [], ◌∷◌, ◌++◌, inl, inr, length, get_or, drop, refl, ap, sym, ◌∙◌, subst, append-nil, add-one, arith}
use Rattle.std.proofs.Math.Seq.{drop-cons}
use Prim.Native.Nat.{zero, suc}
use Rattle.std.proofs.Math.Dec.{eqb}
use Rattle.std.proofs.lemmas.Bool.{eq-eqb}
use Rattle.std.proofs.lemmas.Bool.Decides.{eqb_tells}
use Rattle.std.specs.List.{slice_get}
use Rattle.tg_base.specs.declared.desk.Out.{Out}
use Rattle.tg_base.specs.declared.desk.Out.TheVariants as out
use Rattle.tg_base.specs.Moment.{Moment}
use Rattle.p4_program.specs.declared.bounds.Bounds.{Bounds}
use Rattle.p4_program.specs.declared.program.Program.{Program}
use Rattle.p4_meaning.specs.declared.test.Test.{Test}
use Rattle.p4_meaning.specs.declared.verdict.Verdict.{Verdict}
use Rattle.p4_meaning.specs.Verdicts.{credits}
use Rattle.testgen_engine.specs.Findings.{Findings, text_of}
use Rattle.testgen_engine.specs.Outputs.{is_same, only, Adds, AddsPrefixes}
use Rattle.testgen_engine.specs.Printing.{tests_text}
use Rattle.testgen_engine.specs.Report.{report_text}
use Rattle.testgen_engine.specs.TestText.{test_text, text_of_test}

-- numbers that differ do not pass the test
unequal : (a b : ℕ) → (a ≡ b → ⊥) → eqb a b ≡ false
unequal a b h = elim (eqb_tells a b) [ inl same ↦ absurd (h same.1) | inr other ↦ other.0 ]

-- tests are written to no output but their own
tests_elsewhere : (p : Program) (verdicts : List Verdict) (number : ℕ) (tests : List Test) (o : Out) → ((n : ℕ) → is_same (out.Test n) o ≡ false) → tests_text p verdicts number tests o ≡ []
tests_elsewhere p verdicts number [] o h = refl
tests_elsewhere p verdicts number (t ∷ tests) o h = rw (h number) (tests_elsewhere p verdicts (suc number) tests o h)

-- nor to that of a test before them
tests_before : (p : Program) (verdicts : List Verdict) (number : ℕ) (tests : List Test) (n : ℕ) → n < number → tests_text p verdicts number tests (out.Test n) ≡ []
tests_before p verdicts number [] n h = refl
tests_before p verdicts number (t ∷ tests) n h = rw (unequal number n (λ e. omega arith)) (tests_before p verdicts (suc number) tests n (omega arith))

-- each is written to its own
tests_at : (p : Program) (verdicts : List Verdict) (number : ℕ) (tests : List Test) (place n : ℕ) → number + place ≡ n → tests_text p verdicts number tests (out.Test n) ≡ text_of_test p verdicts n (slice_get tests place)
tests_at p verdicts number [] place n e = refl
tests_at p verdicts number (t ∷ tests) zero n e =
    let same : number ≡ n = omega arith in
    rw (eq-eqb number n same) (ap (λ xs. test_text p number (credits verdicts number) t ++ xs) (tests_before p verdicts (suc number) tests n (omega arith)) ∙ append-nil _ ∙ ap (λ k. test_text p k (credits verdicts k) t) same)
tests_at p verdicts number (t ∷ tests) (suc place) n e = rw (unequal number n (λ f. omega arith)) (tests_at p verdicts (suc number) tests place n (omega arith))

-- the tests, and then the report, are what was found
pub text_is : (f : Findings) (o : Out) → tests_text f.program f.verdicts 1 f.tests o ++ only out.Report (report_text f.bounds f.program f.verdicts f.tests) o ≡ text_of f o
text_is f out.Report = ap (λ xs. xs ++ report_text f.bounds f.program f.verdicts f.tests) (tests_elsewhere f.program f.verdicts 1 f.tests out.Report (λ n. refl))
text_is f out.Proofs = append-nil _ ∙ tests_elsewhere f.program f.verdicts 1 f.tests out.Proofs (λ n. refl)
text_is f (out.Test zero) = append-nil _ ∙ tests_before f.program f.verdicts 1 f.tests 0 (omega arith)
text_is f (out.Test (suc n)) = append-nil _ ∙ tests_at f.program f.verdicts 1 f.tests n (suc n) (omega arith)
text_is f out.Notes = append-nil _ ∙ tests_elsewhere f.program f.verdicts 1 f.tests out.Notes (λ n. refl)

-- from one test on: its text, and then the others
pub tests_go_on : (p : Program) (verdicts : List Verdict) (tests : List Test) (place : ℕ) (t : Test) → place < length tests → t ≡ get_or tests place t → (o : Out)
    → tests_text p verdicts (suc place) (drop place tests) o
    ≡ only (out.Test (place + 1)) (test_text p (place + 1) (credits verdicts (place + 1)) t) o ++ tests_text p verdicts (suc (place + 1)) (drop (place + 1) tests) o
tests_go_on p verdicts tests place t within is o =
    let front : drop place tests ≡ t ∷ drop (suc place) tests = drop-cons tests place t within ∙ ap (λ u. u ∷ drop (suc place) tests) (sym is) in
    ap (λ ts. tests_text p verdicts (suc place) ts o) front
    ∙ ap (λ n. only (out.Test n) (test_text p n (credits verdicts n) t) o ++ tests_text p verdicts (suc n) (drop n tests) o) (sym (add-one place))

-- what was added, with the verdicts and tests by equations
pub tests_adds : (p : Program) (before after : Moment) (vs ws : List Verdict) (ts us : List Test) → vs ≡ ws → ts ≡ us → Adds before after (tests_text p vs 1 ts) → Adds before after (tests_text p ws 1 us)
tests_adds p before after vs ws ts us e f h = subst (λ xs. Adds before after (tests_text p xs 1 us)) e (subst (λ xs. Adds before after (tests_text p vs 1 xs)) f h)

pub tests_prefixes : (p : Program) (before after : Moment) (vs ws : List Verdict) (ts us : List Test) → vs ≡ ws → ts ≡ us → AddsPrefixes before after (tests_text p vs 1 ts) → AddsPrefixes before after (tests_text p ws 1 us)
tests_prefixes p before after vs ws ts us e f h = subst (λ xs. AddsPrefixes before after (tests_text p xs 1 us)) e (subst (λ xs. AddsPrefixes before after (tests_text p vs 1 xs)) f h)

pub report_is : (b : Bounds) (p : Program) (bytes text : List ℕ) (vs ws : List Verdict) (ts us : List Test) → bytes ≡ text → text ≡ report_text b p vs ts → vs ≡ ws → ts ≡ us → bytes ≡ report_text b p ws us
report_is b p bytes text vs ws ts us e f g h = e ∙ f ∙ ap (λ xs. report_text b p xs ts) g ∙ ap (λ xs. report_text b p ws xs) h
