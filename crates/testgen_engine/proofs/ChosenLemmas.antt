-- Lemmas on verdicts and tests: one test of the opening input, which is credited with every statement, is right
-- and chosen as it should be.
use Rattle.std.proofs.Common.{◌≡◌, ℕ, ◌<◌, ◌≤◌, true, false, List, [], ◌∷◌, None, Some, IsSome, length, map, replicate, min, inl, inr, refl, ap, sym, ◌∙◌, subst, arith, lit<, if◌then◌else◌}
use Prim.Native.Nat.{zero, suc}
use Rattle.std.proofs.Math.Dec.{eqb}
use Rattle.std.proofs.lemmas.Bool.{eqb-true}
use Rattle.std.proofs.lemmas.List.{length-map, length-replicate, get_or-replicate}
use Rattle.std.proofs.lemmas.List.Elements.{All-replicate}
use Rattle.std.specs.List.{Contains, slice_get}
use Rattle.p4_program.specs.declared.bounds.Bounds.{Bounds}
use Rattle.p4_program.specs.declared.input.Input.{Input}
use Rattle.p4_program.specs.declared.program.Program.{Program}
use Rattle.p4_program.specs.Input.{Bounded, opening_input}
use Rattle.p4_program.specs.declared.input.TheConstants.{OPENING_BYTES}
use Rattle.p4_program.specs.Numbered.{numbered, numbers_from}
use Rattle.p4_program.specs.Blocks.{place_of}
use Rattle.p4_program.specs.declared.v1model.TheConstants.{DROP_PORT}
use Rattle.p4_program.specs.declared.outcome.Outcome.TheVariants as outcome
use Rattle.p4_meaning.specs.declared.test.Expected.TheVariants as expected
use Rattle.p4_meaning.specs.declared.test.Nibble.TheVariants.{Fixed}
use Rattle.p4_meaning.specs.declared.test.Test.{Test}
use Rattle.p4_meaning.specs.declared.verdict.Verdict.{Verdict}
use Rattle.p4_meaning.specs.declared.verdict.Verdict.TheVariants as verdict
use Rattle.p4_meaning.specs.Chosen.{least_credit, Chosen}
use Rattle.p4_meaning.specs.Expected.{digits_of}
use Rattle.p4_meaning.specs.Good.{Good}
use Rattle.p4_meaning.specs.Run.{Run}
use Rattle.p4_meaning.specs.Test.{Agrees, Holds, Tight, TightFor}
use Rattle.p4_meaning.specs.Verdicts.{RightVerdict, RightVerdicts, credits_from}
use Rattle.testgen_engine.specs.Decide.{expected_at, IsOpening}
use Rattle.testgen_engine.specs.Findings.{Findings, CreditsAll, TakenInOrder, AreRight, IsUndecided}
use Rattle.testgen_engine.specs.Log.{HasUndecided, LawfulSoFar, Lawful}
use Rattle.testgen_engine.proofs.DigitLemmas.{AllowsAll-fixed, fixed_not_masked, fixed_not_undecided}
use Rattle.testgen_engine.proofs.RunLemmas.{outcome_at, egress, run_is, good_for_all}

-- every statement is listed as covered by test 1
abbrev pub all_covered : ℕ → List Verdict
all_covered count = replicate count (verdict.Covered 1)

-- what a number names in a list of one thing
pub numbered-replicate : {X : Type 0} (count n : ℕ) (x y : X) → numbered (replicate count x) n ≡ Some y → (1 ≤ n) × (n ≤ count) × (y ≡ x)
numbered-replicate count zero x y e = cc
numbered-replicate zero (suc n) x y e = cc
numbered-replicate (suc count) (suc zero) x y e = (omega arith, omega arith, let s : Some x ≡ Some y = e in cc)
numbered-replicate (suc count) (suc (suc n)) x y e = let others = numbered-replicate count (suc n) x y e in (omega arith, omega arith, others.2)

-- what is named among one test, or none
pub numbered_one : {X : Type 0} (x y : X) (n : ℕ) → numbered (x ∷ []) n ≡ Some y → (n ≡ 1) × (x ≡ y)
numbered_one x y zero e = cc
numbered_one x y (suc zero) e = (refl, let s : Some x ≡ Some y = e in cc)
numbered_one x y (suc (suc n)) e = cc

-- the credits of test 1 are all statements, and no other test has any
pub credits_of_one : (first count : ℕ) → credits_from first (all_covered count) 1 ≡ numbers_from first count
credits_of_one first zero = refl
credits_of_one first (suc count) = ap (λ xs. first ∷ xs) (credits_of_one (suc first) count)

credits_of_other : (first count test : ℕ) → eqb 1 test ≡ false → credits_from first (all_covered count) test ≡ []
credits_of_other first zero test e = refl
credits_of_other first (suc count) test e = rw e (credits_of_other (suc first) count test e)

-- only test 1 has a least credit
least_of : (count test least : ℕ) → least_credit (all_covered count) test ≡ Some least → test ≡ 1
least_of count test least e =
    elim (eqb 1 test) as (λ b. eqb 1 test ≡ b → test ≡ 1) [
      | true ↦ λ same. sym (eqb-true 1 test same)
      | false ↦ λ other. let none : Some least ≡ None = sym e ∙ ap (λ xs. slice_get xs 0) (credits_of_other 1 count test other) in cc
    ] refl

some_least : (count : ℕ) → 1 ≤ count → IsSome (least_credit (all_covered count) 1)
some_least zero low = absurd (omega arith)
some_least (suc count) low = subst (λ xs. IsSome (slice_get xs 0)) (sym (credits_of_one 1 (suc count))) refl

-- the one test has a credit
credited_one : (count test : ℕ) (t : Test) → 1 ≤ count → IsSome (numbered (t ∷ []) test) → IsSome (least_credit (all_covered count) test)
credited_one count zero t some h = cc
credited_one count (suc zero) t some h = some_least count some
credited_one count (suc (suc n)) t some h = cc

-- the opening input is bounded
pub opening_bounded : (p : Program) (b : Bounds) → Bounded p b (opening_input b)
opening_bounded p b =
    let low = b.some_bytes in
    record {
      port = omega arith;
      bytes = All-replicate (λ byte. byte < 256) (min b.bytes OPENING_BYTES) 0 (lit< tt);
      some_byte = omega (arith, length-replicate {A = ℕ} (min b.bytes OPENING_BYTES) 0);
      most_bytes = omega (arith, length-replicate {A = ℕ} (min b.bytes OPENING_BYTES) 0);
    }

-- what was found of a program: every statement is covered by the tests
abbrev pub found : Program → Bounds → List Test → Findings
found p b tests = record { bounds = b; program = p; verdicts = all_covered (length p.statements); tests = tests; log = [] }

-- the run of an input agrees with what is expected of it
agrees : (value : ℕ) (packet : List ℕ) → Agrees (expected_at value packet) (outcome_at value packet)
agrees value packet =
    elim (eqb value DROP_PORT) as (λ b. Agrees (if b then expected.Drop else expected.Packet value (map Fixed (digits_of packet))) (if b then outcome.Dropped else outcome.Sent value packet)) [
      | true ↦ refl
      | false ↦ (packet, refl, AllowsAll-fixed (digits_of packet))
    ]

holds : (p : Program) (b : Bounds) (t : Test) → IsOpening p b t → Holds p b t
holds p b t o = record {
  bounded = subst (Bounded p b) (sym o.input) (opening_bounded p b);
  each = λ out marks run.
      let x = opening_input b in
      let run_at = subst (λ i. Run p b i out marks) o.input run in
      subst (λ e. Agrees e out) (sym o.expects) (subst (Agrees (expected_at (egress p) x.packet)) (sym (run_is p b x out marks run_at).0) (agrees (egress p) x.packet));
}

tight_at : (p : Program) (b : Bounds) (x : Input) (value : ℕ) (packet : List ℕ) → TightFor p b x (expected_at value packet)
tight_at p b x value packet =
    elim (eqb value DROP_PORT) as (λ t. TightFor p b x (if t then expected.Drop else expected.Packet value (map Fixed (digits_of packet)))) [
      | true ↦ tt
      | false ↦ λ place masked. absurd (fixed_not_masked (digits_of packet) place masked)
    ]

tight : (p : Program) (b : Bounds) (t : Test) → IsOpening p b t → Tight p b t
tight p b t o = subst (TightFor p b t.input) (sym o.expects) (tight_at p b t.input (egress p) (opening_input b).packet)

decided_at : (value : ℕ) (packet : List ℕ) → HasUndecided (expected_at value packet) → ⊥
decided_at value packet =
    elim (eqb value DROP_PORT) as (λ t. HasUndecided (if t then expected.Drop else expected.Packet value (map Fixed (digits_of packet))) → ⊥) [
      | true ↦ λ h. h
      | false ↦ λ h. fixed_not_undecided (digits_of packet) h.0 h.1 h.2
    ]

decided : (p : Program) (b : Bounds) (t : Test) → IsOpening p b t → HasUndecided t.expected → ⊥
decided p b t o h = decided_at (egress p) (opening_input b).packet (subst HasUndecided o.expects h)

-- no statement is undecided
covered_not_undecided : (count : ℕ) → Contains (all_covered count) verdict.Undecided → ⊥
covered_not_undecided count h =
    let same : verdict.Covered 1 ≡ verdict.Undecided = sym (get_or-replicate count h.0 (verdict.Covered 1) verdict.Undecided (omega (arith, h.1, length-replicate count (verdict.Covered 1)))) ∙ h.2 in
    cc

-- the test of the opening input is good for every statement
test_good : (p : Program) (b : Bounds) (t : Test) → IsOpening p b t → (statement : ℕ) → 1 ≤ statement → statement ≤ length p.statements → Good p b t.input statement
test_good p b t o statement low high = subst (λ x. Good p b x statement) (sym o.input) (good_for_all p b (opening_input b) (opening_bounded p b) statement low high)

right_verdicts : (p : Program) (b : Bounds) (t : Test) → IsOpening p b t → RightVerdicts p b (all_covered (length p.statements)) (t ∷ [])
right_verdicts p b t o = record {
  one_each = length-replicate (length p.statements) (verdict.Covered 1) ∙ sym (length-map p.statements place_of);
  right = λ statement v e.
      let named = numbered-replicate (length p.statements) statement (verdict.Covered 1) v e in
      subst (RightVerdict p b (t ∷ []) statement) (sym named.2) (t, refl, test_good p b t o statement named.0 named.1);
}

chosen : (p : Program) (b : Bounds) (t : Test) → IsOpening p b t → 1 ≤ length p.statements → Chosen p b (all_covered (length p.statements)) (t ∷ [])
chosen p b t o some =
    let count = length p.statements in
    record {
      credited = λ test h. credited_one count test t some h;
      rising = λ first second s u less e f.
          let one = least_of count first s e in let two = least_of count second u f in absurd (omega arith);
      earlier = λ number test least statement v e f low good g.
          let named = numbered-replicate count statement (verdict.Covered 1) v g in
          let one = (numbered_one t test number e).0 in
          inr (1, named.2, omega arith);
      opening = λ statement v e other good.
          let named = numbered-replicate count statement (verdict.Covered 1) v e in
          record {
            number = 1;
            test = t;
            covered = e ∙ ap Some named.2;
            stands = refl;
            early = inl o.input;
          };
    }

log_so_far : (p : Program) (b : Bounds) (t : Test) → IsOpening p b t → LawfulSoFar p b (t ∷ []) []
log_so_far p b t o = record {
  records = λ place entry e. cc;
  within = λ statement. omega arith;
  nibbles = λ number test e undecided.
      let named = (numbered_one t test number e).1 in
      absurd (decided p b t o (subst (λ u. HasUndecided u.expected) (sym named) undecided));
}

lawful : (p : Program) (b : Bounds) (t : Test) → IsOpening p b t → Lawful p b (all_covered (length p.statements)) (t ∷ []) []
lawful p b t o =
    let budget = b.some_budget in
    record {
      so_far = log_so_far p b t o;
      statements = λ statement v e.
          let named = numbered-replicate (length p.statements) statement (verdict.Covered 1) v e in
          (λ undecided. let same : verdict.Covered 1 ≡ verdict.Undecided = sym named.2 ∙ undecided in cc, λ spent. absurd (omega arith));
    }

credits_all : (p : Program) (b : Bounds) (t : Test) → CreditsAll (found p b (t ∷ []))
credits_all p b t number test least statement v e f low good g =
    let named = numbered-replicate (length p.statements) statement (verdict.Covered 1) v g in
    let one = (numbered_one t test number e).0 in
    inr (1, named.2, omega arith)

in_order : (p : Program) (b : Bounds) (t : Test) → TakenInOrder (found p b (t ∷ []))
in_order p b t number least statement credit before e =
    let same = (numbered-replicate (length p.statements) statement (verdict.Covered 1) verdict.Undecided e).2 in
    cc

-- what is found of a program with statements is right
pub found_right : (p : Program) (b : Bounds) (t : Test) → IsOpening p b t → 1 ≤ length p.statements → AreRight (found p b (t ∷ []))
found_right p b t o some = record {
  so_far = record {
    verdicts = right_verdicts p b t o;
    chosen = chosen p b t o some;
    in_order = in_order p b t;
    credited = credits_all p b t;
    hold = λ number u e. subst (Holds p b) (numbered_one t u number e).1 (holds p b t o);
    tight = λ number u e. subst (Tight p b) (numbered_one t u number e).1 (tight p b t o);
    log = log_so_far p b t o;
  };
  lawful = lawful p b t o;
}

pub found_decided : (p : Program) (b : Bounds) (t : Test) → IsOpening p b t → IsUndecided (found p b (t ∷ [])) → ⊥
found_decided p b t o (inl statement) = covered_not_undecided (length p.statements) statement
found_decided p b t o (inr nibble) = decided p b t o (subst (λ u. HasUndecided u.expected) (sym (numbered_one t nibble.1 nibble.0 nibble.2).1) nibble.3)

-- the same, with the verdicts and tests by equations
pub decided_right : (p : Program) (b : Bounds) (t : Test) (count : ℕ) (verdicts : List Verdict) (tests : List Test) → count ≡ length p.statements → verdicts ≡ all_covered count → tests ≡ t ∷ []
    → IsOpening p b t → 1 ≤ length p.statements → AreRight (record { bounds = b; program = p; verdicts = verdicts; tests = tests; log = [] })
decided_right p b t count verdicts tests as_many all one o some =
    subst (λ vs. AreRight (record { bounds = b; program = p; verdicts = vs; tests = tests; log = [] })) (sym (all ∙ ap all_covered as_many))
    (subst (λ ts. AreRight (record { bounds = b; program = p; verdicts = all_covered (length p.statements); tests = ts; log = [] })) (sym one) (found_right p b t o some))

pub decided_decided : (p : Program) (b : Bounds) (t : Test) (count : ℕ) (verdicts : List Verdict) (tests : List Test) → count ≡ length p.statements → verdicts ≡ all_covered count → tests ≡ t ∷ []
    → IsOpening p b t → IsUndecided (record { bounds = b; program = p; verdicts = verdicts; tests = tests; log = [] }) → ⊥
decided_decided p b t count verdicts tests as_many all one o u =
    found_decided p b t o (subst (λ ts. IsUndecided (record { bounds = b; program = p; verdicts = all_covered (length p.statements); tests = ts; log = [] })) one
    (subst (λ vs. IsUndecided (record { bounds = b; program = p; verdicts = vs; tests = tests; log = [] })) (all ∙ ap all_covered as_many) u))
