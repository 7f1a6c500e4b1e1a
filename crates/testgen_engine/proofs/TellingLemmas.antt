-- What was found is told from its texts.
use Rattle.std.proofs.Common.{◌≡◌, ℕ, ◌+◌, ◌^◌, ◌<◌, List, [], ◌∷◌, ◌++◌, length, map, refl, ap, sym, ◌∙◌, subst, arith}
use Prim.Native.Nat.{suc}
use Rattle.std.proofs.lemmas.List.Elements.{recursion_from_All}
use Rattle.std.specs.List.{AllByRecursion, flat_map, slice_get}
use Rattle.std.proofs.lemmas.List.{length-map}
use Rattle.p4_program.specs.Placed.{PlaceFits}
use Rattle.p4_program.specs.Blocks.{place_of, places_of}
use Rattle.p4_program.specs.declared.program.Program.{Program}
use Rattle.p4_meaning.specs.Verdicts.{credits}
use Rattle.p4_meaning.specs.declared.test.Test.{Test}
use Rattle.p4_meaning.specs.declared.verdict.Verdict.{Verdict}
use Rattle.tg_base.specs.declared.desk.Out.{Out}
use Rattle.tg_base.specs.declared.desk.Out.TheVariants as out
use Rattle.testgen_engine.specs.Findings.{Findings, AreRight, text_of}
use Rattle.testgen_engine.specs.Log.{LogRecord}
use Rattle.testgen_engine.specs.Report.{statement_lines, undecided_lines, counts_line, counts_of}
use Rattle.testgen_engine.specs.Telling.{VerdictFits, TestFits, FindingsFit, undecided_places, SameReport, SameFindings}
use Rattle.testgen_engine.specs.TestText.{text_of_test}
use Rattle.testgen_engine.proofs.FitLemmas.{right_findings_fit}
use Rattle.testgen_engine.proofs.ReportLemmas.{same_bounds_line, same_statement_lines, same_counts_line}
use Rattle.testgen_engine.proofs.TestTextLemmas.{same_behind_title, same_shown_test}
use Rattle.testgen_engine.proofs.UndecidedLemmas.{line_of, undecided_pairs, undecided_lines-places, undecided_fit, no_digit-lines, same_nibble_lines, same_undecided}

-- a report behind its line of bounds, the undecided nibbles given by their places
abbrev lines_of : Findings → List ℕ
lines_of f = statement_lines 1 (places_of f.program) f.verdicts
    ++ (flat_map line_of (undecided_pairs 1 f.tests) ++ counts_line (counts_of f.verdicts f.tests))

lines_of-report : (f : Findings) → statement_lines 1 (places_of f.program) f.verdicts ++ (undecided_lines 1 f.tests ++ counts_line (counts_of f.verdicts f.tests)) ≡ lines_of f
lines_of-report f =
    ap (λ xs. statement_lines 1 (places_of f.program) f.verdicts ++ (xs ++ counts_line (counts_of f.verdicts f.tests))) (undecided_lines-places 1 f.tests)

-- a program has few places
places_few : (p : Program) → 1 + length (places_of p) < 2 ^ 64
places_few p = let within = p.within in omega (arith, length-map p.statements place_of)

pub same_report : (f g : Findings) → FindingsFit f → FindingsFit g → text_of f out.Report ≡ text_of g out.Report → SameReport f g
same_report f g p q e =
    let bounds = same_bounds_line f.bounds g.bounds _ _ e in
    let few = places_few f.program in
    let fewer = places_few g.program in
    let count = p.count in
    let other_count = q.count in
    let statements = same_statement_lines 1 (places_of f.program) (places_of g.program) f.verdicts g.verdicts _ _ few fewer p.one_each q.one_each
    (recursion_from_All PlaceFits (places_of f.program) p.places) (recursion_from_All PlaceFits (places_of g.program) q.places)
    (recursion_from_All VerdictFits f.verdicts p.verdicts) (recursion_from_All VerdictFits g.verdicts q.verdicts)
    (no_digit-lines (undecided_pairs 1 f.tests) _) (no_digit-lines (undecided_pairs 1 g.tests) _)
    (sym (lines_of-report f) ∙ bounds.1 ∙ lines_of-report g) in
    let nibbles = same_nibble_lines (undecided_pairs 1 f.tests) (undecided_pairs 1 g.tests) _ _
    (undecided_fit 1 f.tests (omega arith) (recursion_from_All TestFits f.tests p.tests)) (undecided_fit 1 g.tests (omega arith) (recursion_from_All TestFits g.tests q.tests))
    statements.2 in
    let tests = same_counts_line g.verdicts f.tests g.tests p.count q.count
    (ap (λ vs. counts_line (counts_of vs f.tests)) (sym statements.1) ∙ ap (λ xs. 115 ∷ xs) nibbles.1) in
    record {
      bounds = bounds.0;
      places = statements.0;
      verdicts = statements.1;
      count = tests;
      undecided = same_undecided 1 f.tests g.tests tests nibbles.0;
    }

-- the texts of all tests, the first having this number, and the places of their undecided nibbles tell the tests
same_tests : (p q : Program) (vs : List Verdict) (number : ℕ) (ts us : List Test) → AllByRecursion TestFits ts → AllByRecursion TestFits us → map undecided_places ts ≡ map undecided_places us
    → ((k : ℕ) → text_of_test p vs (number + k) (slice_get ts k) ≡ text_of_test q vs (number + k) (slice_get us k)) → ts ≡ us
same_tests p q vs number [] [] l m e h = refl
same_tests p q vs number [] (u ∷ us) l m e h = cc
same_tests p q vs number (t ∷ ts) [] l m e h = cc
same_tests p q vs number (t ∷ ts) (u ∷ us) l m e h =
    let told = same_behind_title p q (number + 0) (credits vs (number + 0)) t u l.0 m.0 (h 0) in
    let first = same_shown_test t u told.0 told.1 cc in
    cc (
      first,
      same_tests p q vs (suc number) ts us l.1 m.1 (cc) (λ k.
          let next : number + suc k ≡ suc number + k = omega arith in
          subst (λ n. text_of_test p vs n (slice_get ts k) ≡ text_of_test q vs n (slice_get us k)) next (h (suc k))),
    )

-- a log has no record yet
same_log : (a b : List LogRecord) → a ≡ b
same_log [] [] = refl
same_log [] (record_b ∷ b) = elim record_b [ ]
same_log (record_a ∷ a) b = elim record_a [ ]

pub same_findings : (f g : Findings) → FindingsFit f → FindingsFit g → ((out : Out) → text_of f out ≡ text_of g out) → SameFindings f g
same_findings f g p q e =
    let report = same_report f g p q (e out.Report) in
    let tests = same_tests f.program g.program f.verdicts 1 f.tests g.tests (recursion_from_All TestFits f.tests p.tests) (recursion_from_All TestFits g.tests q.tests) report.undecided (λ k.
    let number : 1 + k ≡ suc k = omega arith in
    subst (λ vs. text_of_test f.program f.verdicts (1 + k) (slice_get f.tests k) ≡ text_of_test g.program vs (1 + k) (slice_get g.tests k)) (sym report.verdicts) (rw number (e (out.Test (suc k))))) in
    record { bounds = report.bounds; places = report.places; verdicts = report.verdicts; tests = tests; log = same_log f.log g.log }

-- right findings fit
pub same_right_findings : (f g : Findings) → AreRight f → AreRight g → ((out : Out) → text_of f out ≡ text_of g out) → SameFindings f g
same_right_findings f g right also = same_findings f g (right_findings_fit f right) (right_findings_fit g also)
