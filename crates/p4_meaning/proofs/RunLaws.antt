-- Runs: one for each list of reads, and one under each fill.
use Rattle.std.proofs.Common.{◌≡◌, ℕ, List, [], Option, Some, None, refl, sym, ap, ◌∙◌, subst, ap₂}
use Rattle.std.specs.Prelude.{option_map}
use Rattle.std.proofs.lemmas.Option.{none-some, same_Some}
use Rattle.p4_program.specs.declared.bounds.Bounds.{Bounds}
use Rattle.p4_program.specs.declared.typed.input.Input.{Input}
use Rattle.p4_program.specs.Syntax.Programs.{CoreProgram}
use Rattle.p4_program.specs.declared.outcome.Outcome.{Outcome}
use Rattle.p4_program.specs.declared.outcome.Outcome.TheVariants.{Overrun}
use Rattle.p4_meaning.specs.Runs.Courses.{Read, Made, made}
use Rattle.p4_meaning.specs.Runs.Run.{RunOf, Run, RunUnder, environment, marks_of, seen_in, seen}
use Rattle.p4_meaning.specs.Runs.Switch.{Finished, runs_switch, unspecified_metadata}
use Rattle.p4_meaning.proofs.CourseLaws.{one_end, fill, one_fill, made_makes, makes_made}

-- ---- by evaluation

mapped : {A B : Type 0} → (f : A → B) (o : Option A) (b : B) → option_map f o ≡ Some b → (a : A) × (o ≡ Some a) × (f a ≡ b)
mapped f None b e = absurd (none-some b e)
mapped f (Some a) b e = (a, refl, same_Some (f a) b e)

pub run_seen : (p : CoreProgram) (b : Bounds) (x : Input) (reads : List Read) (outcome : Outcome) (marks : List ℕ)
    → seen p b x reads ≡ Some (outcome, marks) → RunOf p b x reads outcome marks
run_seen p b x reads outcome marks e =
    let found = mapped seen_in (made (runs_switch (environment p b x) (unspecified_metadata (environment p b x))) reads) (outcome, marks) e in
    let m : Made Finished = found.0 in
    subst (λ (r : Outcome × List ℕ). RunOf p b x reads r.0 r.1) found.2 (record {
      end = m.end.metadata;
      run = record { begun = m.marks; makes = made_makes _ reads m found.1; marked = refl };
    })

pub seen_run : (p : CoreProgram) (b : Bounds) (x : Input) (reads : List Read) (outcome : Outcome) (marks : List ℕ)
    → RunOf p b x reads outcome marks → seen p b x reads ≡ Some (outcome, marks)
seen_run p b x reads outcome marks f =
    ap (option_map seen_in) (makes_made (runs_switch (environment p b x) (unspecified_metadata (environment p b x))) reads f.run.begun _ f.run.makes)
    ∙ ap (λ m. Some (outcome, m)) (sym f.run.marked)

-- ---- one run for each list of reads

outcome_of : Finished → Outcome
outcome_of finished = finished.outcome

pub one_run : (p : CoreProgram) (b : Bounds) (x : Input) (reads : List Read) (o q : Outcome) (m n : List ℕ)
    → RunOf p b x reads o m → RunOf p b x reads q n → (o ≡ q) × (m ≡ n)
unfolding outcome_of
one_run p b x reads o q m n f g =
    let same = one_end _ reads f.run.begun g.run.begun _ _ f.run.makes g.run.makes in
    let outcomes : o ≡ q = ap outcome_of same.1 in
    (outcomes, f.run.marked ∙ ap₂ marks_of outcomes same.0 ∙ sym g.run.marked)

-- ---- under a fill

pub some_run_under : (p : CoreProgram) (b : Bounds) (x : Input) (words : ℕ → ℕ)
    → (outcome : Outcome) × (marks : List ℕ) × RunUnder p b x words outcome marks
some_run_under p b x words =
    let filled = fill (runs_switch (environment p b x) (unspecified_metadata (environment p b x))) words 0 in
    let end : Finished = filled.end in (
      end.outcome,
      marks_of end.outcome filled.marks,
      record {
        reads = filled.reads;
        filled = filled.is_filled;
        run = record { end = end.metadata; run = record { begun = filled.marks; makes = filled.makes; marked = refl } };
      },
    )

pub one_run_under : (p : CoreProgram) (b : Bounds) (x : Input) (words : ℕ → ℕ) (o q : Outcome) (m n : List ℕ)
    → RunUnder p b x words o m → RunUnder p b x words q n → (o ≡ q) × (m ≡ n)
one_run_under p b x words o q m n f g =
    let same = one_fill _ words 0 f.reads g.reads _ _ _ _ f.filled g.filled f.run.run.makes g.run.run.makes in
    one_run p b x g.reads o q m n (subst (λ reads. RunOf p b x reads o m) same f.run) g.run

-- a run under a fill is a run
pub run_under : (p : CoreProgram) (b : Bounds) (x : Input) (words : ℕ → ℕ) (o : Outcome) (m : List ℕ)
    → RunUnder p b x words o m → Run p b x o m
run_under p b x words o m f = record { reads = f.reads; run = f.run }

-- ---- an overrun has no marks

pub overrun_unmarked : (p : CoreProgram) (b : Bounds) (x : Input) (m : List ℕ) → Run p b x Overrun m → m ≡ []
overrun_unmarked p b x m f = f.run.run.marked
