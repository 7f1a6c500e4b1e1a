-- Lemmas on how a call may end.
use Rattle.std.proofs.Common.{◌≡◌, ◌≢◌, ◌⊎◌, ℕ, Bool, true, false, IsTrue, List, [], ◌∷◌, ◌++◌, Option, None, Some, IfSome, IsSomeAnd, All, Result, Ok, Err, IsErr, IfOk, inl, inr, refl, ap, sym, ◌∙◌, subst, arith, append-nil}
use Rattle.std.proofs.lemmas.Result.{MatchResult-from_err}
use Rattle.std.proofs.lemmas.List.Elements.{recursion_from_All}
use Rattle.std.specs.List.{AllByRecursion}
use Rattle.std.specs.Prelude.{codes}
use Rattle.std.specs.Result.{MatchResult}
use Rattle.tg_base.specs.declared.desk.DeskFault.{DeskFault}
use Rattle.tg_base.specs.declared.desk.Out.{Out}
use Rattle.tg_base.specs.declared.desk.Out.TheVariants as out
use Rattle.tg_base.specs.declared.place.Refusal.{Refusal}
use Rattle.tg_base.specs.Faults.{Rose}
use Rattle.tg_base.specs.Moment.{Moment, Opened, IsOfFile, TellsTruly, KeepsReading, KeepsWriting, output_after}
use Rattle.p4_program.specs.declared.bounds.Bounds.{Bounds}
use Rattle.p4_program.specs.declared.program.Program.{Program}
use Rattle.testgen_engine.specs.Decide.{findings}
use Rattle.testgen_engine.specs.declared.decide.Decided.{Decided}
use Rattle.testgen_engine.specs.declared.status.TheConstants.{DONE, WRONG_WORDS, REFUSED, UNDECIDED, READ_FAULT}
use Rattle.testgen_engine.specs.declared.status.Status.{Status}
use Rattle.testgen_engine.specs.declared.status.Status.TheVariants.{Done, WrongWords, Refused, ReadFault}
use Rattle.testgen_engine.specs.Ended.{Finds, IsCutFinding, Ends, Ended}
use Rattle.testgen_engine.specs.Endings.{ReadsProgram, ReadsRefused, MeetsFault, Finishes, Misspells, Refuses, FailsToRead, MayTake, IsCutShort, HasSource, Completes, RefusesWhole}
use Rattle.testgen_engine.specs.Findings.{AreRight, IsUndecided, text_of}
use Rattle.testgen_engine.specs.Notes.{usage_note, read_fault_note, refusal_note}
use Rattle.testgen_engine.specs.Outputs.{Adds, ArePrefixes, AddsPrefixes, Writes, only}
use Rattle.testgen_engine.specs.Skeleton.{StandsFor, IsRefused}
use Rattle.testgen_engine.specs.Source.{HasRead, FailsReading, ReadsOnly, ReadsSource}
use Rattle.testgen_engine.specs.Status.{status_of}
use Rattle.testgen_engine.specs.Words.{AsksGen, AsksNothing}
use Rattle.testgen_engine.proofs.FindingsLemmas.{right_prefix, nothing_taken}
use Rattle.testgen_engine.proofs.Lists.{append_left_injective}
use Rattle.testgen_engine.proofs.OutputLemmas.{adds_nothing}
use Rattle.testgen_engine.proofs.SkeletonLemmas.{built_short, refused_or_built, refused_whole}
use Rattle.testgen_engine.proofs.SourceLemmas.{read_stays}

-- a text that was added behind reads that left the outputs as they were
adds_from : (first second third : Moment) (text : Out → List ℕ) → KeepsWriting first second → Adds second third text → Adds first third text
adds_from first second third text stays h = record { each = λ o. h.each o ∙ ap (λ taken. output_after taken (text o)) (stays.outputs o) }

-- the source of a program that was read
read_program : (first second third : Moment) (words : List (List ℕ)) (name bytes : List ℕ) (b : Bounds) (p : Program) → AsksGen words name b → ReadsSource first second name bytes
    → KeepsReading second third → StandsFor bytes p → ReadsProgram first third words b p
read_program first second third words name bytes b p asks source stays stands = record {
  name = name;
  asks = asks;
  bytes = bytes;
  read = elim source.whole [
    | inl met ↦ subst (HasRead first third name bytes) met (read_stays first second third name bytes source.ended source.read stays)
    | inr long ↦ absurd (omega (arith, built_short bytes p stands, long))
  ];
  program = stands;
}

-- a source that was read and is refused
read_refused : (first second third : Moment) (words : List (List ℕ)) (name bytes : List ℕ) (b : Bounds) (refusal : Refusal) → AsksGen words name b → ReadsSource first second name bytes
    → KeepsReading second third → IsRefused bytes refusal → ReadsRefused first third words refusal
read_refused first second third words name bytes b refusal asks source stays refused = record {
  name = name;
  bounds = b;
  asks = asks;
  bytes = bytes;
  ended = source.ended;
  read = read_stays first second third name bytes source.ended source.read stays;
  refused = λ rest none. elim source.whole [
    | inl met ↦ subst (λ xs. IsRefused xs refusal) (sym (ap (λ xs. bytes ++ xs) (none met) ∙ append-nil bytes)) refused
    | inr long ↦ refused_whole bytes rest refusal long refused
  ];
}

-- a source whose opening or reading failed
pub met_fault : (first second third : Moment) (words : List (List ℕ)) (name : List ℕ) (b : Bounds) → AsksGen words name b → FailsReading first second name
    → Rose first.read_faults second.read_faults → KeepsReading second third → MeetsFault first third words
met_fault first second third words name b asks fails rose stays = record {
  name = name;
  bounds = b;
  asks = asks;
  read = elim fails [
    | inl nothing ↦ inl (record { asked = stays.asked ∙ nothing.asked; opened = stays.opened ∙ nothing.opened })
    | inr read ↦ inr (read.0, read_stays first second third name read.0 false read.1 stays)
  ];
  rose = subst (Rose first.read_faults) (sym stays.read_faults) rose;
}

-- a call that is cut short before it writes
pub cut_at_once : (first second : Moment) (words : List (List ℕ)) → KeepsWriting first second → IsCutShort first second words
cut_at_once first second words stays = record {
  taken = λ o. [];
  adds = adds_nothing first second stays.outputs;
  allowed = MayTake.nothing (λ o. refl);
}

pub ended_at_once : (first second : Moment) (words : List (List ℕ)) (r : Result Status DeskFault) → KeepsWriting first second → IsErr r → Ended first second words r
ended_at_once first second words r stays failed = MatchResult-from_err r _ _ failed (λ e. cut_at_once first second words stays)

-- a call that writes a note, and how it ends where it does not
note_ends : (first second third : Moment) (words : List (List ℕ)) (note : List ℕ) (status : Status) → KeepsWriting first second
    → (Adds first third (only out.Notes note) → Ends first third words (status_of status))
    → ((taken : Out → List ℕ) → ArePrefixes taken (only out.Notes note) → MayTake first third words taken)
    → (r : Result Status DeskFault) → IfOk r (λ s. s ≡ status) → Writes second third (only out.Notes note) r → Ended first third words r
note_ends first second third words note status stays ends cut (Ok s) told writes =
    subst (λ t. Ends first third words (status_of t)) (sym told) (ends (adds_from first second third (only out.Notes note) stays writes))
note_ends first second third words note status stays ends cut (Err e) told writes = record {
  taken = writes.taken;
  adds = adds_from first second third writes.taken stays writes.adds;
  allowed = cut writes.taken writes.prefixes;
}

-- the notes of a refusal, of wrong words and of a read fault
pub refused_ends : (first second third : Moment) (words : List (List ℕ)) (name bytes : List ℕ) (b : Bounds) (refusal : Refusal) → AsksGen words name b → ReadsSource first second name bytes
    → KeepsWriting first second → KeepsReading second third → IsRefused bytes refusal
    → (r : Result Status DeskFault) → IfOk r (λ s. s ≡ Refused) → Writes second third (only out.Notes (refusal_note refusal)) r → Ended first third words r
refused_ends first second third words name bytes b refusal asks source outputs_stay stays refused =
    let read = read_refused first second third words name bytes b refusal asks source stays refused in
    note_ends first second third words (refusal_note refusal) Refused outputs_stay
    (λ adds. inr (inr (inl (record { ended = refl; refusal = refusal; source = read; texts = adds }))))
    (λ taken prefixes. MayTake.note refusal read prefixes)

pub fault_ends : (first second third : Moment) (words : List (List ℕ)) → KeepsWriting first second → MeetsFault first third words
    → (r : Result Status DeskFault) → IfOk r (λ s. s ≡ ReadFault) → Writes second third (only out.Notes read_fault_note) r → Ended first third words r
fault_ends first second third words outputs_stay fault =
    note_ends first second third words read_fault_note ReadFault outputs_stay
    (λ adds. inr (inr (inr (record { ended = refl; source = fault; texts = adds }))))
    (λ taken prefixes. MayTake.fault fault prefixes)

nothing_moves : (m : Moment) → KeepsWriting m m
nothing_moves m = record { files = refl; outputs = λ o. refl; write_faults = refl }

pub usage_ends : (first second : Moment) (words : List (List ℕ)) → AsksNothing words → KeepsReading first second
    → (r : Result Status DeskFault) → IfOk r (λ s. s ≡ WrongWords) → Writes first second (only out.Notes usage_note) r → Ended first second words r
usage_ends first second words asks stays =
    note_ends first first second words usage_note WrongWords (nothing_moves first)
    (λ adds. inr (inl (record { ended = refl; asks = asks; stays = stays; texts = adds })))
    (λ taken prefixes. MayTake.usage asks prefixes)

-- what was decided and written of a program
pub found : (before after : Moment) (b : Bounds) (p : Program) (d : Decided) → AreRight (findings b p d) → (IsUndecided (findings b p d) → ⊥) → Adds before after (text_of (findings b p d)) → Finds before after b p
found before after b p d right decided adds = record { findings = findings b p d; bounds = refl; program = refl; right = right; decided = decided; texts = adds }

pub cut_finding : (before after : Moment) (b : Bounds) (p : Program) (d : Decided) → AreRight (findings b p d) → AddsPrefixes before after (text_of (findings b p d)) → IsCutFinding before after b p
cut_finding before after b p d right h = record { taken = h.taken; adds = h.adds; right = right_prefix (findings b p d) h.taken right h.prefixes }

pub nothing_found_yet : (m : Moment) (b : Bounds) (p : Program) → IsCutFinding m m b p
nothing_found_yet m b p = record { taken = λ o. []; adds = adds_nothing m m (λ o. refl); right = nothing_taken p b }

-- the job of a program
finishes : (first second third : Moment) (words : List (List ℕ)) (b : Bounds) (p : Program) → KeepsWriting first second → ReadsProgram first third words b p → Finds second third b p
    → Finishes first third words (status_of Done)
finishes first second third words b p outputs_stay source f = record {
  ended = inl refl;
  findings = f.findings;
  source = subst (λ c. ReadsProgram first third words c f.findings.program) (sym f.bounds) (subst (ReadsProgram first third words b) (sym f.program) source);
  right = f.right;
  undecided = (λ e. absurd (omega arith), λ u. absurd (f.decided u));
  texts = adds_from first second third (text_of f.findings) outputs_stay f.texts;
}

pub program_ends : (first second third : Moment) (words : List (List ℕ)) (name bytes : List ℕ) (b : Bounds) (p : Program) → AsksGen words name b → ReadsSource first second name bytes
    → KeepsWriting first second → KeepsReading second third → StandsFor bytes p
    → (r : Result Status DeskFault) → IfOk r (λ s. s ≡ Done) → MatchResult r (λ _. Finds second third b p) (λ _. IsCutFinding second third b p) → Ended first third words r
program_ends first second third words name bytes b p asks source outputs_stay stays stands (Ok s) told f =
    let read = read_program first second third words name bytes b p asks source stays stands in
    subst (λ t. Ends first third words (status_of t)) (sym told) (inl (finishes first second third words b p outputs_stay read f))
program_ends first second third words name bytes b p asks source outputs_stay stays stands (Err e) told f =
    let read = read_program first second third words name bytes b p asks source stays stands in
    record {
      taken = f.taken;
      adds = adds_from first second third f.taken outputs_stay f.adds;
      allowed = MayTake.findings b p read f.right;
    }

-- the words ask for one source
same_name : (words : List (List ℕ)) (a b : List ℕ) (d e : Bounds) → AsksGen words a d → AsksGen words b e → a ≡ b
same_name words a b d e h k = let same : codes "gen" ∷ a ∷ [] ≡ codes "gen" ∷ b ∷ [] = sym h.said ∙ k.said in cc

-- so a call that reads the source that the words ask for reads no other
pub reads_asked : (before after : Moment) (words : List (List ℕ)) (a b : List ℕ) (d e : Bounds) → AsksGen words a d → AsksGen words b e → ReadsOnly before after a → ReadsOnly before after b
reads_asked before after words a b d e h k = subst (ReadsOnly before after) (same_name words a b d e h k)

-- what holds of each of a list's items holds of the last
last_of : (P : Opened → Type 0) (files : List Opened) (file : Opened) → AllByRecursion P (files ++ file ∷ []) → P file
last_of P [] file h = h.0
last_of P (first ∷ files) file h = last_of P files file h.1

-- a desk that tells its files tells what follows the bytes that were moved
told_rest : (files : Option (List ℕ → Option (List ℕ))) (opened : List Opened) (file : Opened) (name bytes : List ℕ) → file.name ≡ name
    → IfSome files (λ fs. All (IsOfFile fs) (opened ++ file ∷ [])) → IsSomeAnd files (λ fs. fs name ≡ Some bytes)
    → (rest : List ℕ) × (bytes ≡ file.moved ++ rest) × (IsTrue file.ended → rest ≡ [])
told_rest None opened file name bytes named told has = absurd has
told_rest (Some files) opened file name bytes named told has =
    let is_of = last_of (IsOfFile files) opened file (recursion_from_All (IsOfFile files) (opened ++ file ∷ []) told) in
    let same : Some bytes ≡ Some (file.moved ++ is_of.rest) = sym has ∙ ap files (sym named) ∙ is_of.bytes in
    (is_of.rest, cc, is_of.end)

-- the bytes that were moved out of the first of some files
abbrev first_moved : List Opened → List ℕ
first_moved [] = []
first_moved (file ∷ files) = file.moved

-- the bytes of the source are those that were moved and then others, none where its end was met
source_rest : (before after : Moment) (name bytes moved : List ℕ) (ended : Bool) → TellsTruly after → after.files ≡ before.files → HasSource before after name bytes → HasRead before after name moved ended
    → (rest : List ℕ) × (bytes ≡ moved ++ rest) × (IsTrue ended → rest ≡ [])
source_rest before after name bytes moved ended told files (inl has) read =
    told_rest after.files before.opened (record { name = name; moved = moved; ended = ended }) name bytes refl
    (subst (λ opened. IfSome after.files (λ fs. All (IsOfFile fs) opened)) read.opened told)
    (subst (λ known. IsSomeAnd known (λ fs. fs name ≡ Some bytes)) (sym files) has)
source_rest before after name bytes moved ended told files (inr whole) read =
    let file : Opened = record { name = name; moved = moved; ended = ended } in
    let other : Opened = record { name = name; moved = bytes; ended = true } in
    let same : file ∷ [] ≡ other ∷ [] = append_left_injective before.opened (file ∷ []) (other ∷ []) (sym read.opened ∙ whole.opened) in
    let moved_same : moved ≡ bytes = ap first_moved same in
    ([], sym moved_same ∙ sym (append-nil moved), λ e. refl)

-- a call that was not cut short finishes a source that stands for a program
pub completes_from : (before after : Moment) (words : List (List ℕ)) (status : ℕ) → TellsTruly after → after.files ≡ before.files → Ends before after words status → Completes before after words status
completes_from before after words status told files h = λ name bytes b p asks has stands calm. elim h [
  | inl finishes ↦ elim finishes.ended [ inl done ↦ inl done | inr undecided ↦ inr (inl undecided) ]
  | inr (inl misspells) ↦ absurd (misspells.asks name b asks)
  | inr (inr (inl refuses)) ↦
      let source = refuses.source in
      let same = same_name words name source.name b source.bounds asks source.asks in
      let rest = source_rest before after source.name bytes source.bytes source.ended told files (subst (λ n. HasSource before after n bytes) same has) source.read in
      absurd (refused_or_built bytes p refuses.refusal stands (subst (λ xs. IsRefused xs refuses.refusal) (sym rest.1) (source.refused rest.0 rest.2)))
  | inr (inr (inr fails)) ↦ absurd (calm.reads fails.source.rose)
]

-- and tells a refusal
pub refuses_from : (before after : Moment) (words : List (List ℕ)) (status : ℕ) → TellsTruly after → after.files ≡ before.files → Ends before after words status → RefusesWhole before after words status
refuses_from before after words status told files h = λ name bytes b refusal asks has refused calm. elim h [
  | inl finishes ↦
      let source = finishes.source in
      let same = same_name words name source.name b finishes.findings.bounds asks source.asks in
      let rest = source_rest before after source.name bytes source.bytes true told files (subst (λ n. HasSource before after n bytes) same has) source.read in
      let whole : bytes ≡ source.bytes = rest.1 ∙ ap (λ xs. source.bytes ++ xs) (rest.2 refl) ∙ append-nil source.bytes in
      absurd (refused_or_built bytes finishes.findings.program refusal (subst (λ xs. StandsFor xs finishes.findings.program) (sym whole) source.program) refused)
  | inr (inl misspells) ↦ absurd (misspells.asks name b asks)
  | inr (inr (inl refuses)) ↦ inl refuses.ended
  | inr (inr (inr fails)) ↦ absurd (calm.reads fails.source.rose)
]

-- each status tells how a call ended that was not cut short
pub finishes_from : (before after : Moment) (words : List (List ℕ)) (status : ℕ) → Ends before after words status → (status ≡ DONE) ⊎ (status ≡ UNDECIDED) → Finishes before after words status
finishes_from before after words status (inl finishes) e = finishes
finishes_from before after words status (inr (inl misspells)) e = absurd (elim e [ inl done ↦ omega (arith, misspells.ended) | inr undecided ↦ omega (arith, misspells.ended) ])
finishes_from before after words status (inr (inr (inl refuses))) e = absurd (elim e [ inl done ↦ omega (arith, refuses.ended) | inr undecided ↦ omega (arith, refuses.ended) ])
finishes_from before after words status (inr (inr (inr fails))) e = absurd (elim e [ inl done ↦ omega (arith, fails.ended) | inr undecided ↦ omega (arith, fails.ended) ])

-- the status of a job that finished is one of two
two_ends : (before after : Moment) (words : List (List ℕ)) (status other : ℕ) → Finishes before after words status → status ≡ other → other ≢ DONE → other ≢ UNDECIDED → ⊥
two_ends before after words status other finishes e done undecided = elim finishes.ended [ inl f ↦ done (sym e ∙ f) | inr f ↦ undecided (sym e ∙ f) ]

pub misspells_from : (before after : Moment) (words : List (List ℕ)) (status : ℕ) → Ends before after words status → status ≡ WRONG_WORDS → Misspells before after words status
misspells_from before after words status (inl finishes) e = absurd (two_ends before after words status WRONG_WORDS finishes e (λ f. omega arith) (λ f. omega arith))
misspells_from before after words status (inr (inl misspells)) e = misspells
misspells_from before after words status (inr (inr (inl refuses))) e = absurd (omega (arith, refuses.ended))
misspells_from before after words status (inr (inr (inr fails))) e = absurd (omega (arith, fails.ended))

pub refusal_from : (before after : Moment) (words : List (List ℕ)) (status : ℕ) → Ends before after words status → status ≡ REFUSED → Refuses before after words status
refusal_from before after words status (inl finishes) e = absurd (two_ends before after words status REFUSED finishes e (λ f. omega arith) (λ f. omega arith))
refusal_from before after words status (inr (inl misspells)) e = absurd (omega (arith, misspells.ended))
refusal_from before after words status (inr (inr (inl refuses))) e = refuses
refusal_from before after words status (inr (inr (inr fails))) e = absurd (omega (arith, fails.ended))

pub fails_from : (before after : Moment) (words : List (List ℕ)) (status : ℕ) → Ends before after words status → status ≡ READ_FAULT → FailsToRead before after words status
fails_from before after words status (inl finishes) e = absurd (two_ends before after words status READ_FAULT finishes e (λ f. omega arith) (λ f. omega arith))
fails_from before after words status (inr (inl misspells)) e = absurd (omega (arith, misspells.ended))
fails_from before after words status (inr (inr (inl refuses))) e = absurd (omega (arith, refuses.ended))
fails_from before after words status (inr (inr (inr fails))) e = fails

-- words that ask for nothing are wrong words
pub wrong_words_from : (before after : Moment) (words : List (List ℕ)) (status : ℕ) → Ends before after words status → AsksNothing words → status ≡ WRONG_WORDS
wrong_words_from before after words status (inl finishes) none = absurd (none finishes.source.name finishes.findings.bounds finishes.source.asks)
wrong_words_from before after words status (inr (inl misspells)) none = misspells.ended
wrong_words_from before after words status (inr (inr (inl refuses))) none = absurd (none refuses.source.name refuses.source.bounds refuses.source.asks)
wrong_words_from before after words status (inr (inr (inr fails))) none = absurd (none fails.source.name fails.source.bounds fails.source.asks)
