-- The status is the generator's, for these words and over this desk.
use Rattle.std.proofs.Common.{◌≡◌, ◌⊎◌, ◌≤◌, ℕ, List, [], map, false, None, is_some, arith, refl, ap, ⊎_elim, string_bytes}
use Rattle.tg_base.specs.Moment.{Moment}
use Rattle.testgen_engine.specs.declared.status.TheConstants.{OUT_OF_MEMORY}
use Rattle.testgen_program.specs.Answer.{Answers}
use Rattle.testgen_program.specs.History.{moment_at, untold}
use Rattle.testgen_program.proofs.main.Goals as goal

abbrev nothing_passed : Moment
nothing_passed = record {
  files = None;
  asked = [];
  opened = [];
  readable = false;
  outputs = λ out. untold [];
  read_faults = 0;
  write_faults = 0;
}

-- memory may run out before the generator is called
before_the_call : Answers OUT_OF_MEMORY
before_the_call = record {
  words = [];
  before = nothing_passed;
  after = nothing_passed;
  opened = refl;
  taken = λ out. refl;
  known = omega arith;
  finished = ⊎_elim (λ e. absurd (omega (arith, e))) (λ e. absurd (omega (arith, e)));
  misspelled = λ e. absurd (omega (arith, e));
  refused = λ e. absurd (omega (arith, e));
  unread = λ e. absurd (omega (arith, e));
  unwritten = λ e. absurd (omega (arith, e));
}

pub invariant_of-result : goal.invariant_of-result
invariant_of-result c = record { answered = ∣ before_the_call ∣₁ }

pub invariant_of-result-2 : goal.invariant_of-result-2
invariant_of-result-2 c =
    let made = c.new-desk.result in
    let left = c.testgen-status.new.desk in
    let ends = c.testgen-status.ensures in
    record {
      answered = ∣ record {
        words = map string_bytes c.as_slice.result.now;
        before = moment_at made.history (is_some made.source);
        after = moment_at left.history (is_some left.source);
        opened = c.new-desk.ensures.opened;
        taken = λ out. ap (λ output. output.taken) (c.new-desk.ensures.outputs out);
        known = ends.statuses;
        finished = ends.headline;
        misspelled = ends.wrong_words;
        refused = ends.refused;
        unread = ends.read_fault;
        unwritten = ends.write_fault;
      } ∣₁;
    }
