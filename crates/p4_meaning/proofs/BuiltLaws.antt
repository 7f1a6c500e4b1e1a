-- The runs of built programs.
use Rattle.std.proofs.Common.{◌≡◌, ◌⊎◌, ℕ, Bool, true, false, List, [], length, map, inl, inr, refl, sym, ap, ◌∙◌, subst}
use Rattle.std.proofs.Math.Logic.{∥∥₁_elim}
use Rattle.std.specs.Coded.{Coded, Coded-set, code_by, coded_ℕ, coded_bool, coded_list, coded×, coded⊎}
use Rattle.std.specs.Prelude.{◌==◌, if◌then◌else◌}
use Rattle.p4_program.specs.declared.bounds.Bounds.{Bounds}
use Rattle.p4_program.specs.declared.outcome.Outcome.{Outcome}
use Rattle.p4_program.specs.declared.outcome.Outcome.TheVariants.{Sent, Dropped, Overrun}
use Rattle.p4_program.specs.declared.typed.input.Input.{Input}
use Rattle.p4_program.specs.declared.v1model.TheConstants.{DROP_PORT}
use Rattle.p4_program.specs.Built.{Built}
use Rattle.p4_program.specs.Syntax.Numbering.{numbered_in_all}
use Rattle.p4_program.specs.Syntax.Programs.{CoreProgram}
use Rattle.p4_program.specs.WellFormed.Programs.{WellFormed}
use Rattle.p4_meaning.specs.Runs.BuiltRuns.{egress_after, port_of, outcome_at, numbers_of, ComesTo}
use Rattle.p4_meaning.specs.Runs.Contents.{Content}
use Rattle.p4_meaning.specs.Runs.Courses.{Read, Makes, Ends}
use Rattle.p4_meaning.specs.Runs.Run.{RunOf, Run, environment, marks_of}
use Rattle.p4_meaning.specs.Runs.Switch.{Finished, runs_switch, unspecified_metadata}
use Rattle.p4_meaning.proofs.BuiltBodies.{marking, marking_makes}
use Rattle.p4_meaning.proofs.BuiltBlocks.{ingress_of, blocks_are, statements_are, numbered_are}
use Rattle.p4_meaning.proofs.BuiltSwitch.{switch_is}
use Rattle.p4_meaning.proofs.ListLaws.{none_long}
use Rattle.p4_meaning.proofs.RunLaws.{some_run_under, run_under}

-- the run of a built program
abbrev pub finished : CoreProgram → Input → Content → Finished
finished p x end = record { outcome = outcome_at (port_of p) x.packet; metadata = end }

course_is : (p : CoreProgram) (b : Bounds) (x : Input) → WellFormed p → Built p → (start : Content)
    → runs_switch (environment p b x) start ≡ marking (numbers_of p) (Ends (finished p x start))
course_is p b x well built start =
    let body = (ingress_of p built).control.body in
    switch_is (environment p b x) body (blocks_are p b x well built) (ingress_of p built).holds.statements start
    ∙ ap (λ statements. marking (map (λ s. s.number) (numbered_in_all body)) (Ends (record { outcome = outcome_at (egress_after 0 statements) x.packet; metadata = start })))
    (sym (statements_are p built))
    ∙ ap (λ numbered. marking (map (λ s. s.number) numbered) (Ends (finished p x start))) (sym (numbered_are p built))

all_kept : (port : ℕ) (packet begun : List ℕ) → marks_of (outcome_at port packet) begun ≡ begun
all_kept port packet begun =
    elim (port == DROP_PORT) as (λ b. marks_of (if b then Dropped else Sent port packet) begun ≡ begun) [ true ↦ refl | false ↦ refl ]

outcome_in : Finished → Outcome
outcome_in f = f.outcome

-- what a run comes to
record RunIs (p : CoreProgram) (x : Input) (reads : List Read) (outcome : Outcome) (marks : List ℕ) : Type 0 where
  no_read : reads ≡ []
  comes_to : ComesTo p x outcome marks

run_is : (p : CoreProgram) (b : Bounds) (x : Input) (reads : List Read) (outcome : Outcome) (marks : List ℕ) → WellFormed p → Built p
    → RunOf p b x reads outcome marks → RunIs p x reads outcome marks
unfolding outcome_in
run_is p b x reads outcome marks well built f =
    let start = unspecified_metadata (environment p b x) in
    let made = marking_makes (numbers_of p) (finished p x start) reads f.run.begun (record { outcome = outcome; metadata = f.end })
    (subst (λ c. Makes c reads f.run.begun (record { outcome = outcome; metadata = f.end })) (course_is p b x well built start) f.run.makes) in
    let ends : outcome ≡ outcome_at (port_of p) x.packet = ap outcome_in made.ends in
    record {
      no_read = made.no_read;
      comes_to = record {
        ends = ends;
        all_begun = f.run.marked ∙ ap (λ o. marks_of o f.run.begun) ends ∙ all_kept (port_of p) x.packet f.run.begun ∙ made.marked;
      };
    }

-- ---- of a program that is known to be well-formed, whatever the proof

abbrev as_sum : Outcome → (ℕ × List ℕ) ⊎ Bool
as_sum (Sent port bytes) = inl (port, bytes)
as_sum Dropped = inr true
as_sum Overrun = inr false

abbrev of_sum : (ℕ × List ℕ) ⊎ Bool → Outcome
of_sum (inl sent) = Sent sent.0 sent.1
of_sum (inr true) = Dropped
of_sum (inr false) = Overrun

back_again : (o : Outcome) → of_sum (as_sum o) ≡ o
back_again (Sent port bytes) = refl
back_again Dropped = refl
back_again Overrun = refl

coded_outcome : Coded Outcome
coded_outcome = code_by ((ℕ × List ℕ) ⊎ Bool) (coded⊎ (coded× coded_ℕ (coded_list coded_ℕ)) coded_bool) as_sum of_sum back_again

pub run_comes_to : (p : CoreProgram) (b : Bounds) (x : Input) (outcome : Outcome) (marks : List ℕ) → ∥ WellFormed p ∥₁ → Built p
    → Run p b x outcome marks → ComesTo p x outcome marks
run_comes_to p b x outcome marks well built run = record {
  ends = ∥∥₁_elim well (Coded-set coded_outcome _ _) (λ w. (run_is p b x run.reads outcome marks w built run.run).comes_to.ends);
  all_begun = ∥∥₁_elim well (Coded-set (coded_list coded_ℕ) _ _)
      (λ w. (run_is p b x run.reads outcome marks w built run.run).comes_to.all_begun);
}

pub no_reads : (p : CoreProgram) (b : Bounds) (x : Input) (reads : List Read) (outcome : Outcome) (marks : List ℕ) → ∥ WellFormed p ∥₁ → Built p
    → RunOf p b x reads outcome marks → reads ≡ []
no_reads p b x reads outcome marks well built run =
    none_long reads (∥∥₁_elim well (Coded-set coded_ℕ _ _) (λ w. ap length (run_is p b x reads outcome marks w built run).no_read))

-- each input has it
pub the_run : (p : CoreProgram) (b : Bounds) (x : Input) → ∥ WellFormed p ∥₁ → Built p → Run p b x (outcome_at (port_of p) x.packet) (numbers_of p)
the_run p b x well built =
    let found = some_run_under p b x (λ n. 0) in
    let run = run_under p b x (λ n. 0) found.0 found.1 found.2 in
    let comes = run_comes_to p b x found.0 found.1 well built run in
    subst (λ o. Run p b x o (numbers_of p)) comes.ends (subst (λ ms. Run p b x found.0 ms) comes.all_begun run)

pub comes_to_run : (p : CoreProgram) (b : Bounds) (x : Input) (outcome : Outcome) (marks : List ℕ) → ∥ WellFormed p ∥₁ → Built p
    → ComesTo p x outcome marks → Run p b x outcome marks
comes_to_run p b x outcome marks well built h =
    subst (λ o. Run p b x o marks) (sym h.ends) (subst (λ ms. Run p b x (outcome_at (port_of p) x.packet) ms) (sym h.all_begun) (the_run p b x well built))
