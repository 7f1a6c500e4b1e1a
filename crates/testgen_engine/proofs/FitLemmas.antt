-- Right findings fit: their places, their tests and the numbers of these.
use Rattle.std.proofs.Common.{◌≡◌, ℕ, ◌+◌, ◌*◌, ◌<◌, ◌≤◌, true, false, List, [], ◌∷◌, Option, None, Some, IsSome, length, map, get_or, refl, ap, subst, arith, if◌then◌else◌}
use Prim.Native.Nat.{zero, suc}
use Rattle.std.proofs.lemmas.List.Elements.{All-from_recursion, recursion_from_All}
use Rattle.std.proofs.lemmas.List.{length-map}
use Rattle.std.proofs.lemmas.Option.{slice_get_within, slice_get-get_or}
use Rattle.std.specs.List.{All, AllByRecursion, slice_get}
use Rattle.p4_program.specs.declared.bounds.Bounds.{Bounds}
use Rattle.p4_program.specs.declared.input.Input.{Input}
use Rattle.p4_program.specs.Blocks.{place_of}
use Rattle.p4_program.specs.Placed.{PlaceFits, IsPlaced}
use Rattle.p4_program.specs.declared.program.Program.{Program}
use Rattle.p4_program.specs.declared.program.Statement.{Statement}
use Rattle.p4_program.specs.declared.outcome.Outcome.{Outcome}
use Rattle.p4_meaning.specs.declared.test.Expected.{Expected}
use Rattle.p4_meaning.specs.declared.test.Expected.TheVariants.{Drop, Packet}
use Rattle.p4_meaning.specs.declared.test.Nibble.{Nibble}
use Rattle.p4_meaning.specs.declared.test.Test.{Test}
use Rattle.p4_meaning.specs.declared.verdict.Verdict.{Verdict}
use Rattle.p4_meaning.specs.declared.verdict.Verdict.TheVariants.{Covered, Unreachable, Unsteady, Undecided}
use Rattle.p4_meaning.specs.Chosen.{least_credit, Chosen}
use Rattle.p4_meaning.specs.Expected.{digits_of, AllowsAll}
use Rattle.p4_meaning.specs.Run.{Run}
use Rattle.p4_meaning.specs.Test.{Agrees, Holds}
use Rattle.p4_meaning.specs.Verdicts.{is_covered_by, credits_from, RightVerdict}
use Rattle.p4_meaning.proofs.RunLemmas.{some_run}
use Rattle.testgen_engine.specs.Findings.{Findings, AreRight}
use Rattle.testgen_engine.specs.Report.{nibbles_of}
use Rattle.testgen_engine.specs.Telling.{VerdictFits, TestFits, FindingsFit}
use Rattle.testgen_engine.proofs.DigitLemmas.{length-digits_of}
use Rattle.testgen_engine.proofs.RunLemmas.{sent_is}

-- a credit is the number of a statement
credit_within : (first : ℕ) (vs : List Verdict) (test credit : ℕ) → slice_get (credits_from first vs test) 0 ≡ Some credit → (first ≤ credit) × (credit < first + length vs)
credit_within first [] test credit e = cc
credit_within first (v ∷ vs) test credit e =
    elim (is_covered_by test v) as (λ b. slice_get (if b then first ∷ credits_from (suc first) vs test else credits_from (suc first) vs test) 0 ≡ Some credit → (first ≤ credit) × (credit < first + suc (length vs))) [
      | true ↦ λ h. let same : first ≡ credit = cc in (omega arith, omega arith)
      | false ↦ λ h. let later = credit_within (suc first) vs test credit h in (omega arith, omega arith)
    ] e

-- what there is has a value
value_of_some : {X : Type 0} (o : Option X) → IsSome o → (x : X) × (o ≡ Some x)
value_of_some None h = cc
value_of_some (Some x) h = (x, refl)

some_within : {X : Type 0} (xs : List X) (k : ℕ) → k < length xs → IsSome (slice_get xs k)
some_within [] k h = absurd (omega arith)
some_within (x ∷ xs) zero h = refl
some_within (x ∷ xs) (suc k) h = some_within xs k (omega arith)

-- the least credit of a test is no less than its number, since least credits rise
least_credit_late : (p : Program) (b : Bounds) (vs : List Verdict) (ts : List Test) → Chosen p b vs ts → (k : ℕ) → k < length ts → (least : ℕ) × (least_credit vs (suc k) ≡ Some least) × (suc k ≤ least)
least_credit_late p b vs ts c zero h =
    let least = value_of_some (least_credit vs 1) (c.credited 1 (some_within ts 0 h)) in
    let low = credit_within 1 vs 1 least.0 least.1 in
    (least.0, least.1, omega arith)
least_credit_late p b vs ts c (suc k) h =
    let before = least_credit_late p b vs ts c k (omega arith) in
    let least = value_of_some (least_credit vs (suc (suc k))) (c.credited (suc (suc k)) (some_within ts (suc k) h)) in
    let rises : before.0 < least.0 = c.rising (suc k) (suc (suc k)) before.0 least.0 (omega arith) before.1 least.1 in
    let low = before.2 in
    (least.0, least.1, omega arith)

-- so there are no more tests than statements
few_tests : (p : Program) (b : Bounds) (vs : List Verdict) (ts : List Test) → Chosen p b vs ts → length ts ≤ length vs
few_tests p b vs [] c = omega arith
few_tests p b vs (t ∷ ts) c =
    let last = least_credit_late p b vs (t ∷ ts) c (length ts) (omega arith) in
    let low = last.2 in
    let high = credit_within 1 vs (suc (length ts)) last.0 last.1 in
    omega arith

-- a right verdict names a test
right_verdict_fits : (p : Program) (b : Bounds) (ts : List Test) (statement : ℕ) (v : Verdict) → length ts ≤ 2000 → RightVerdict p b ts statement v → VerdictFits v
right_verdict_fits p b ts statement (Covered zero) few right = omega arith
right_verdict_fits p b ts statement (Covered (suc n)) few right = let within = slice_get_within ts n right.0 right.1 in omega arith
right_verdict_fits p b ts statement Unreachable few right = tt
right_verdict_fits p b ts statement Unsteady few right = tt
right_verdict_fits p b ts statement Undecided few right = tt

place_by_place : (ss : List Statement) → AllByRecursion IsPlaced ss → AllByRecursion PlaceFits (map place_of ss)
place_by_place [] placed = tt
place_by_place (s ∷ ss) placed = (placed.0, place_by_place ss placed.1)

-- the places of a program's statements fit
statement_places_fit : (ss : List Statement) → All IsPlaced ss → All PlaceFits (map place_of ss)
statement_places_fit ss placed = All-from_recursion PlaceFits (map place_of ss) (place_by_place ss (recursion_from_All IsPlaced ss placed))

-- there are as many nibbles as digits that they allow
length-AllowsAll : (nibbles : List Nibble) (digits : List ℕ) → AllowsAll nibbles digits → length nibbles ≡ length digits
length-AllowsAll [] [] h = refl
length-AllowsAll [] (digit ∷ digits) h = absurd h
length-AllowsAll (nibble ∷ nibbles) [] h = absurd h
length-AllowsAll (nibble ∷ nibbles) (digit ∷ digits) h = ap suc (length-AllowsAll nibbles digits h.1)

-- so where a run agrees with what is expected, there are at most two nibbles a byte of the packet
nibbles_few : (p : Program) (b : Bounds) (x : Input) (expected : Expected) (o : Outcome) (marks : List ℕ) → Run p b x o marks → Agrees expected o → length (nibbles_of expected) ≤ 2 * length x.packet
nibbles_few p b x Drop o marks run agrees = omega arith
nibbles_few p b x (Packet port nibbles) o marks run agrees =
    let same : agrees.0 ≡ x.packet = sent_is p b x port agrees.0 marks (subst (λ out. Run p b x out marks) agrees.1 run) in
    let digits : length nibbles ≡ length (digits_of agrees.0) = length-AllowsAll nibbles (digits_of agrees.0) agrees.2 in
    omega (arith, digits, length-digits_of agrees.0, ap length same)

-- a test that holds fits, since some run agrees with it
test_fits : (p : Program) (b : Bounds) (t : Test) → Holds p b t → TestFits t
test_fits p b t holds =
    let bounded = holds.bounded in
    let low = bounded.port in
    let short = bounded.most_bytes in
    let most = b.most_bytes in
    let run = some_run p b t.input bounded in
    let few = nibbles_few p b t.input t.expected run.0 run.1 run.2 (holds.each run.0 run.1 run.2) in
    record { port = omega arith; packet = bounded.bytes; nibbles = omega arith }

pub right_findings_fit : (f : Findings) → AreRight f → FindingsFit f
right_findings_fit f right =
    let found = right.so_far in
    let within = f.program.within in
    let places = length-map f.program.statements place_of in
    let one_each = found.verdicts.one_each in
    let few = few_tests f.program f.bounds f.verdicts f.tests found.chosen in
    record {
      one_each = one_each;
      places = statement_places_fit f.program.statements f.program.placed;
      verdicts = λ k d h.
          right_verdict_fits f.program f.bounds f.tests (suc k) (get_or f.verdicts k d) (omega arith) (found.verdicts.right (suc k) (get_or f.verdicts k d) (slice_get-get_or f.verdicts k d h));
      tests = λ k d h.
          test_fits f.program f.bounds (get_or f.tests k d) (found.hold (suc k) (get_or f.tests k d) (slice_get-get_or f.tests k d h));
      count = omega arith;
    }
