use Rattle.std.proofs.Common.{inl, map, string_bytes, ap, sym, ◌∙◌, subst}
use Rattle.testgen_engine.specs.Ended.{Ends}
use Rattle.testgen_engine.specs.Status.{status_of}
use Rattle.testgen_engine.proofs.EndLemmas.{finishes_from, misspells_from, refusal_from, fails_from, wrong_words_from, completes_from, refuses_from}
use Rattle.testgen_engine.proofs.testgen.Goals as goal
use Rattle.testgen_engine.proofs.testgen.Given.{Over}

-- how the call ended that was not cut short
ended : (g : Over) (c : goal.After-number g) → Ends (g.D.Desk.moment c.args.desk.now) (g.D.Desk.moment c.run.new.desk) (map string_bytes c.args.words.now) c.number.result
ended g c = subst (Ends (g.D.Desk.moment c.args.desk.now) (g.D.Desk.moment c.run.new.desk) (map string_bytes c.args.words.now)) (sym c.number.ensures) c.in-Ok.ensures.ends

pub returns-in-Ok-clause-headline : goal.returns-in-Ok-clause-headline
returns-in-Ok-clause-headline g c = finishes_from _ _ _ c.number.result (ended g c)

pub returns-in-Ok-clause-wrong_words : goal.returns-in-Ok-clause-wrong_words
returns-in-Ok-clause-wrong_words g c = misspells_from _ _ _ c.number.result (ended g c)

pub returns-in-Ok-clause-only_wrong_words : goal.returns-in-Ok-clause-only_wrong_words
returns-in-Ok-clause-only_wrong_words g c none = inl (wrong_words_from _ _ _ c.number.result (ended g c) none)

pub returns-in-Ok-clause-refused : goal.returns-in-Ok-clause-refused
returns-in-Ok-clause-refused g c = refusal_from _ _ _ c.number.result (ended g c)

pub returns-in-Ok-clause-read_fault : goal.returns-in-Ok-clause-read_fault
returns-in-Ok-clause-read_fault g c = fails_from _ _ _ c.number.result (ended g c)

pub returns-in-Ok-clause-read_faults_stay : goal.returns-in-Ok-clause-read_faults_stay
returns-in-Ok-clause-read_faults_stay g c read write memory = c.in-Ok.ensures.read_faults_stay (λ same. read (c.number.ensures ∙ ap status_of same))

pub returns-in-Ok-clause-completes : goal.returns-in-Ok-clause-completes
returns-in-Ok-clause-completes g c = completes_from _ _ _ c.number.result c.run.ensures.told c.run.ensures.files_stay (ended g c)

pub returns-in-Ok-clause-refuses : goal.returns-in-Ok-clause-refuses
returns-in-Ok-clause-refuses g c = refuses_from _ _ _ c.number.result c.run.ensures.told c.run.ensures.files_stay (ended g c)
