-- Inputs and tests of built programs: all runs of an input end alike, and begin every statement.
use Rattle.std.proofs.Common.{◌≡◌, ◌≢◌, ℕ, zero, suc, ◌<◌, ◌⊎◌, true, false, List, [], ◌∷◌, map, min, Some, inl, inr, refl, sym, ap, ◌∙◌, subst, ap₂, lit<, arith, if◌then◌else◌}
use Rattle.std.specs.Prelude.{◌==◌, All, Contains, slice_get}
use Rattle.std.proofs.lemmas.List.{length-replicate}
use Rattle.std.proofs.lemmas.List.Elements.{All-replicate}
use Rattle.std.proofs.lemmas.Option.{same_Some}
use Rattle.p4_program.specs.declared.bounds.Bounds.{Bounds}
use Rattle.p4_program.specs.declared.input.TheConstants.{OPENING_BYTES}
use Rattle.p4_program.specs.declared.outcome.Outcome.{Outcome}
use Rattle.p4_program.specs.declared.outcome.Outcome.TheVariants as outcome
use Rattle.p4_program.specs.declared.outcome.Shape.TheVariants as shape
use Rattle.p4_program.specs.declared.typed.input.Input.{Input}
use Rattle.p4_program.specs.declared.v1model.TheConstants.{DROP_PORT}
use Rattle.p4_program.specs.BoundedInput.{BoundedInput, opening}
use Rattle.p4_program.specs.Built.{Built}
use Rattle.p4_program.specs.Outcome.{shape_of}
use Rattle.p4_program.specs.Syntax.Programs.{CoreProgram}
use Rattle.p4_program.specs.WellFormed.Programs.{WellFormed}
use Rattle.p4_meaning.specs.declared.test.Expected.{Expected}
use Rattle.p4_meaning.specs.declared.test.Expected.TheVariants as expected
use Rattle.p4_meaning.specs.declared.test.Nibble.{Nibble}
use Rattle.p4_meaning.specs.declared.test.Nibble.TheVariants.{Fixed, Masked, Undecided}
use Rattle.p4_meaning.specs.declared.typed_test.Test.{Test}
use Rattle.p4_meaning.specs.declared.verdict.Verdict.{Verdict}
use Rattle.p4_meaning.specs.declared.verdict.Verdict.TheVariants as verdict
use Rattle.p4_meaning.specs.Expected.{AllowsAll, digits_of}
use Rattle.p4_meaning.specs.Test.{Agrees}
use Rattle.p4_meaning.specs.Runs.BuiltRuns.{port_of, outcome_at, numbers_of, expected_at, IsFixed, FixesAll, MasksNothing}
use Rattle.p4_meaning.specs.Runs.Good.{Steady, Good}
use Rattle.p4_meaning.specs.Runs.Run.{Run}
use Rattle.p4_meaning.specs.Runs.Tests.{Holds, Differs, TightFor}
use Rattle.p4_meaning.specs.Runs.Verdicts.{Reachable, RightVerdict}
use Rattle.p4_meaning.proofs.BuiltLaws.{run_comes_to, the_run}

-- ---- outcomes

no_overrun : (port : ℕ) (packet : List ℕ) → shape_of (outcome_at port packet) ≢ shape.Overrun
no_overrun port packet =
    elim (port == DROP_PORT) as (λ b. shape_of (if b then outcome.Dropped else outcome.Sent port packet) ≢ shape.Overrun) [
      | true ↦ λ e. cc
      | false ↦ λ e. cc
    ]

-- what is sent is the packet that came in
pub sent_is : (port q : ℕ) (packet bytes : List ℕ) → outcome.Sent q bytes ≡ outcome_at port packet → bytes ≡ packet
sent_is port q packet bytes =
    elim (port == DROP_PORT) as (λ b. outcome.Sent q bytes ≡ (if b then outcome.Dropped else outcome.Sent port packet) → bytes ≡ packet) [
      | true ↦ λ e. cc
      | false ↦ λ e. cc
    ]

-- ---- nibbles

allows_fixed : (digits : List ℕ) → AllowsAll (map Fixed digits) digits
allows_fixed [] = tt
allows_fixed (digit ∷ digits) = (refl, allows_fixed digits)

fixed_allow : (nibbles : List Nibble) (digits : List ℕ) → All IsFixed nibbles → AllowsAll nibbles digits → nibbles ≡ map Fixed digits
fixed_allow [] [] fixed allow = refl
fixed_allow [] (digit ∷ digits) fixed allow = absurd allow
fixed_allow (nibble ∷ nibbles) [] fixed allow = absurd allow
fixed_allow (Fixed d ∷ nibbles) (digit ∷ digits) fixed allow =
    ap₂ (λ n ns. n ∷ ns) (ap Fixed (sym allow.0)) (fixed_allow nibbles digits (λ k d l. fixed (suc k) d (omega (arith, l))) allow.1)
fixed_allow (Masked ∷ nibbles) (digit ∷ digits) fixed allow = absurd (fixed 0 Masked (omega arith))
fixed_allow (Undecided ∷ nibbles) (digit ∷ digits) fixed allow = absurd (fixed 0 Undecided (omega arith))

fixed_all : (digits : List ℕ) → All IsFixed (map Fixed digits)
fixed_all [] = λ k d l. absurd (omega (arith, l))
fixed_all (digit ∷ digits) = at_place digit digits (fixed_all digits)
  where
    at_place : (digit : ℕ) (digits : List ℕ) → All IsFixed (map Fixed digits) → All IsFixed (map Fixed (digit ∷ digits))
    at_place digit digits others zero d l = tt
    at_place digit digits others (suc k) d l = others k d (omega (arith, l))

fixed_not_masked : (digits : List ℕ) (nibble : ℕ) → slice_get (map Fixed digits) nibble ≡ Some Masked → ⊥
fixed_not_masked [] nibble e = cc
fixed_not_masked (digit ∷ digits) zero e = cc
fixed_not_masked (digit ∷ digits) (suc nibble) e = fixed_not_masked digits nibble e

-- ---- what is expected

pub agrees : (port : ℕ) (packet : List ℕ) → Agrees (expected_at port packet) (outcome_at port packet)
agrees port packet =
    elim (port == DROP_PORT) as (λ b. Agrees (if b then expected.Drop else expected.Packet port (map Fixed (digits_of packet)))
    (if b then outcome.Dropped else outcome.Sent port packet)) [
      | true ↦ refl
      | false ↦ (packet, refl, allows_fixed (digits_of packet))
    ]

masks_nothing : (port : ℕ) (packet : List ℕ) → MasksNothing (expected_at port packet)
masks_nothing port packet =
    elim (port == DROP_PORT) as (λ b. MasksNothing (if b then expected.Drop else expected.Packet port (map Fixed (digits_of packet)))) [
      | true ↦ tt
      | false ↦ λ nibble e. fixed_not_masked (digits_of packet) nibble e
    ]

fixes_all : (port : ℕ) (packet : List ℕ) → FixesAll (expected_at port packet)
fixes_all port packet =
    elim (port == DROP_PORT) as (λ b. FixesAll (if b then expected.Drop else expected.Packet port (map Fixed (digits_of packet)))) [
      | true ↦ tt
      | false ↦ fixed_all (digits_of packet)
    ]

pub expected_fixes : (p : CoreProgram) (t : Test) → t.expected ≡ expected_at (port_of p) t.input.packet → FixesAll t.expected
expected_fixes p t is = subst FixesAll (sym is) (fixes_all (port_of p) t.input.packet)

agree_sent : (e : Expected) (port : ℕ) (packet : List ℕ) → FixesAll e → Agrees e (outcome.Sent port packet)
    → e ≡ expected.Packet port (map Fixed (digits_of packet))
agree_sent expected.Drop port packet fixed agree = cc
agree_sent (expected.Packet q nibbles) port packet fixed agree =
    let ports : port ≡ q = let e = agree.1 in cc in
    let packets : agree.0 ≡ packet = let e = agree.1 in cc in
    ap₂ expected.Packet (sym ports) (fixed_allow nibbles (digits_of agree.0) fixed agree.2 ∙ ap (λ bytes. map Fixed (digits_of bytes)) packets)

agree_dropped : (e : Expected) → Agrees e outcome.Dropped → e ≡ expected.Drop
agree_dropped expected.Drop agree = refl
agree_dropped (expected.Packet q nibbles) agree = let e = agree.1 in cc

agree_one : (e : Expected) (port : ℕ) (packet : List ℕ) → FixesAll e → Agrees e (outcome_at port packet) → e ≡ expected_at port packet
agree_one e port packet fixed =
    elim (port == DROP_PORT) as (λ b. Agrees e (if b then outcome.Dropped else outcome.Sent port packet)
    → e ≡ (if b then expected.Drop else expected.Packet port (map Fixed (digits_of packet)))) [
      | true ↦ λ agree. agree_dropped e agree
      | false ↦ λ agree. agree_sent e port packet fixed agree
    ]

-- ---- the opening input

pub opening_bounded : (p : CoreProgram) (b : Bounds) → BoundedInput p b (opening b)
opening_bounded p b =
    let low = b.some_bytes in
    record {
      packet = record {
        port = omega arith;
        bytes = All-replicate (λ byte. byte < 256) (min b.bytes OPENING_BYTES) 0 (lit< tt);
        some_byte = omega (arith, length-replicate {A = ℕ} (min b.bytes OPENING_BYTES) 0);
        most_bytes = omega (arith, length-replicate {A = ℕ} (min b.bytes OPENING_BYTES) 0);
      };
      entries = record {
        each_fits = λ k d l. absurd (omega (arith, l));
        few = λ k d l. absurd (omega (arith, l));
        apart = λ i j d l m. absurd (omega (arith, l, m));
      };
    }

module _ (p : CoreProgram) (well : ∥ WellFormed p ∥₁) (built : Built p) (b : Bounds) where
  run_ends : (x : Input) (o : Outcome) (marks : List ℕ) → Run p b x o marks → o ≡ outcome_at (port_of p) x.packet
  run_ends x o marks run = (run_comes_to p b x o marks well built run).ends

  pub steady : (x : Input) → Steady p b x
  steady x = record {
    shape = shape_of (outcome_at (port_of p) x.packet);
    no_overrun = no_overrun (port_of p) x.packet;
    each = λ o marks run. ap shape_of (run_ends x o marks run);
  }

  -- ---- good inputs

  pub good_when : (x : Input) (statement : ℕ) → BoundedInput p b x → Contains (numbers_of p) statement → Good p b x statement
  good_when x statement bounded has = record {
    bounded = bounded;
    steady = steady x;
    runs = λ o marks run. subst (λ ms. Contains ms statement) (sym (run_comes_to p b x o marks well built run).all_begun) has;
  }

  pub good_only : (x : Input) (statement : ℕ) → Good p b x statement → BoundedInput p b x × Contains (numbers_of p) statement
  good_only x statement good = (good.bounded, good.runs (outcome_at (port_of p) x.packet) (numbers_of p) (the_run p b x well built))

  -- ---- tests

  pub holds_when : (t : Test) → BoundedInput p b t.input → Agrees t.expected (outcome_at (port_of p) t.input.packet) → Holds p b t
  holds_when t bounded agree = record {
    bounded = bounded;
    each = λ o marks run. subst (Agrees t.expected) (sym (run_ends t.input o marks run)) agree;
  }

  pub holds_only : (t : Test) → Holds p b t → BoundedInput p b t.input × Agrees t.expected (outcome_at (port_of p) t.input.packet)
  holds_only t h =
      (h.bounded, h.each (outcome_at (port_of p) t.input.packet) (numbers_of p) (the_run p b t.input well built))

  never_differs : (x : Input) (nibble : ℕ) → Differs p b x nibble → ⊥
  never_differs x nibble d =
      let first = d.first_sent in
      let second = d.second_sent in
      let f : first.bytes ≡ x.packet = sent_is (port_of p) first.port x.packet first.bytes (run_ends x (outcome.Sent first.port first.bytes) first.marks first.run) in
      let s : second.bytes ≡ x.packet = sent_is (port_of p) second.port x.packet second.bytes (run_ends x (outcome.Sent second.port second.bytes) second.marks second.run) in
      d.differ (same_Some d.first d.second (sym first.has ∙ ap (λ bytes. slice_get (digits_of bytes) nibble) (f ∙ sym s) ∙ second.has))

  pub tight_when : (x : Input) (e : Expected) → MasksNothing e → TightFor p b x e
  tight_when x expected.Drop h = tt
  tight_when x (expected.Packet port nibbles) h = λ nibble masked. absurd (h nibble masked)

  pub tight_only : (x : Input) (e : Expected) → TightFor p b x e → MasksNothing e
  tight_only x expected.Drop h = tt
  tight_only x (expected.Packet port nibbles) h = λ nibble masked. never_differs x nibble (h nibble masked)

  pub expected_holds : (t : Test) → BoundedInput p b t.input → t.expected ≡ expected_at (port_of p) t.input.packet → Holds p b t
  expected_holds t bounded is = holds_when t bounded
      (subst (λ e. Agrees e (outcome_at (port_of p) t.input.packet)) (sym is) (agrees (port_of p) t.input.packet))

  pub expected_tight : (t : Test) → t.expected ≡ expected_at (port_of p) t.input.packet → TightFor p b t.input t.expected
  expected_tight t is = tight_when t.input t.expected (subst MasksNothing (sym is) (masks_nothing (port_of p) t.input.packet))

  pub is_expected : (t : Test) → Holds p b t → FixesAll t.expected → t.expected ≡ expected_at (port_of p) t.input.packet
  is_expected t h fixed = agree_one t.expected (port_of p) t.input.packet fixed (holds_only t h).1

  -- ---- verdicts

  pub reachable_when : (statement : ℕ) → Contains (numbers_of p) statement → Reachable p b statement
  reachable_when statement has = record {
    input = opening b;
    bounded = opening_bounded p b;
    outcome = outcome_at (port_of p) (opening b).packet;
    marks = numbers_of p;
    run = the_run p b (opening b) well built;
    runs = has;
  }

  pub reachable_only : (statement : ℕ) → Reachable p b statement → Contains (numbers_of p) statement
  reachable_only statement r =
      subst (λ ms. Contains ms statement) (run_comes_to p b r.input r.outcome r.marks well built r.run).all_begun r.runs

  pub verdict_is : (tests : List Test) (statement : ℕ) (v : Verdict) → Contains (numbers_of p) statement
      → RightVerdict p b tests statement v → ((test : ℕ) × (v ≡ verdict.Covered test)) ⊎ (v ≡ verdict.Undecided)
  verdict_is tests statement (verdict.Covered test) has right = inl (test, refl)
  verdict_is tests statement verdict.Unreachable has right = absurd (right (reachable_when statement has))
  verdict_is tests statement verdict.Unsteady has right =
      absurd (right.1 (opening b) (good_when (opening b) statement (opening_bounded p b) has))
  verdict_is tests statement verdict.Undecided has right = inr refl
