-- What reading answers is the record of the text, or the first line up to which no record's text agrees with it.
use Rattle.std.proofs.Common.{◌≡◌, ℕ, suc, ◌+◌, ◌<◌, ◌≤◌, true, false, List, [], ◌∷◌, ◌++◌, length, map, take, refl, sym, ap, ◌∙◌, subst, append_assoc, arith, inl, inr}
use Rattle.std.specs.Prelude.{None, Some, Result, MatchResult, ◌==◌}
use Rattle.std.specs.List.{AllByRecursion, slice_split, onto_first}
use Rattle.std.proofs.lemmas.Bool.{cases_Bool, eqb-true}
use Rattle.std.proofs.lemmas.List.{append-nil, append_cancel_right, map-append, length-map, nil_from_length, take-append-le, same_from_push}
use Rattle.proof_stream.specs.declared.draft.Draft.{Draft}
use Rattle.proof_stream.specs.declared.draft.Draft.TheVariants as draft
use Rattle.proof_stream.specs.declared.line.Line.{Line}
use Rattle.proof_stream.specs.declared.record.Record.{Record}
use Rattle.proof_stream.specs.Drafts.{next, next_at, finish, with_draft, read_from}
use Rattle.proof_stream.specs.Faults.{lines_of_pieces, lines, MayGoOn, IsLineFault}
use Rattle.proof_stream.specs.Reading.{line_of}
use Rattle.proof_stream.specs.Spelling.{lines_of, blank, line_feed, line_text, ended, text_of_lines, text_of}
use Rattle.proof_stream.specs.Valid.{IsLine, Fits, IsOrderly, IsReading}
use Rattle.proof_stream.proofs.NumberLemmas.{some_is, bind_some}
use Rattle.proof_stream.proofs.LineLemmas.{line_is, line_again}
use Rattle.proof_stream.proofs.DraftLemmas.{run, run-append, run_record, IsGood, so_far, next_is, ends}
use Rattle.proof_stream.proofs.SplitLemmas.{words_of_line, line_of_words, pieces_of_lines, lines_of_pieces_are}

-- lines that are spelled, with numbers of 32 bits
pub record AreSpelled (ls : List Line) : Type 0 where
  pub lines : AllByRecursion IsLine ls
  pub fits : AllByRecursion Fits ls

both : {A : Type 0} (P : A → Type 0) (xs ys : List A) → AllByRecursion P xs → AllByRecursion P ys → AllByRecursion P (xs ++ ys)
both P [] ys p q = q
both P (x ∷ xs) ys p q = (p.0, both P xs ys p.1 q)

spelled_both : (ls ms : List Line) → AreSpelled ls → AreSpelled ms → AreSpelled (ls ++ ms)
spelled_both ls ms p q = record { lines = both IsLine ls ms p.lines q.lines; fits = both Fits ls ms p.fits q.fits }

-- a line is read from its text
read_line : (l : Line) → IsLine l → Fits l → line_of (slice_split (λ b. b == blank) (line_text l)) ≡ Some l
read_line l is fits = rw (words_of_line l fits) (line_again l is fits)

same_line : (l m : Line) → IsLine l → Fits l → IsLine m → Fits m → line_text l ≡ line_text m → l ≡ m
same_line l m p q r s e =
    some_is l m (sym (read_line l p q) ∙ ap (λ (t : List ℕ). line_of (slice_split (λ b. b == blank) t)) e ∙ read_line m r s)

same_ended : (a b : List ℕ) → ended a ≡ ended b → a ≡ b
same_ended a b e = (same_from_push a b 10 10 e).0

abbrev ended_line : Line → List ℕ
ended_line l = ended (line_text l)

same_texts : (ls ms : List Line) → AreSpelled ls → AreSpelled ms → map line_text ls ≡ map line_text ms → ls ≡ ms
same_texts [] [] p q e = refl
same_texts [] (m ∷ ms) p q e = absurd cc
same_texts (l ∷ ls) [] p q e = absurd cc
same_texts (l ∷ ls) (m ∷ ms) p q e =
    let head : line_text l ≡ line_text m = cc in
    let tail : map line_text ls ≡ map line_text ms = cc in
    let first = same_line l m p.lines.0 p.fits.0 q.lines.0 q.fits.0 head in
    let rest = same_texts ls ms (record { lines = p.lines.1; fits = p.fits.1 }) (record { lines = q.lines.1; fits = q.fits.1 }) tail in
    cc

whole_same : (r s : Record) → Some (draft.Whole r) ≡ Some (draft.Whole s) → r ≡ s
whole_same r s e = cc

spelled_of : (text : List ℕ) (r : Record) → IsReading text r → AreSpelled (lines_of r)
spelled_of text r h = record { lines = h.has_text.lines; fits = h.fits }

-- no text is that of two records
pub one_record : (text : List ℕ) (r s : Record) → IsReading text r → IsReading text s → r ≡ s
one_record text r s p q =
    let texts : text_of r ≡ text_of s = sym p.spelled ∙ q.spelled in
    let pieces : map line_text (lines_of r) ++ [] ∷ [] ≡ map line_text (lines_of s) ++ [] ∷ [] =
    sym (pieces_of_lines (lines_of r) p.fits) ∙ ap (λ (t : List ℕ). slice_split (λ b. b == line_feed) t) texts ∙ pieces_of_lines (lines_of s) q.fits in
    let same = same_texts (lines_of r) (lines_of s) (spelled_of text r p) (spelled_of text s q)
    (append_cancel_right (map line_text (lines_of r)) (map line_text (lines_of s)) ([] ∷ []) pieces) in
    whole_same r s (sym (run_record r p.has_text.orderly) ∙ ap (run draft.Empty) same ∙ run_record s q.has_text.orderly)

-- ---- lines that were taken from the front of a text

run_is : (d : Draft) (ls : List Line) (e : Draft) → IsGood d → run d ls ≡ Some e → IsGood e × (so_far e ≡ so_far d ++ ls)
run_is d [] e good h = subst (λ (x : Draft). IsGood x × (so_far x ≡ so_far d ++ [])) (some_is d e h) (good, sym (append-nil (so_far d)))
run_is d (l ∷ ls) e good h =
    let step = bind_some (next d l) (λ x. run x ls) e h in
    let one = next_is d l step.0 good step.1 in
    let rest = run_is step.0 ls e one.0 step.2 in
    (rest.0, rest.1 ∙ ap (λ xs. xs ++ ls) one.1 ∙ append_assoc (so_far d) (l ∷ []) ls)

pub record HasTaken (text : List ℕ) (ls : List Line) (d : Draft) (pieces : List (List ℕ)) : Type 0 where
  pub whole : slice_split (λ b. b == line_feed) text ≡ map line_text ls ++ pieces
  pub leads : run draft.Empty ls ≡ Some d
  pub spelled : AreSpelled ls

taken_good : (ls : List Line) (d : Draft) → run draft.Empty ls ≡ Some d → IsGood d × (so_far d ≡ ls)
taken_good ls d h = run_is draft.Empty ls d tt h

record IsStep (d : Draft) (t : List ℕ) (e : Draft) : Type 0 where
  line : Line
  text : t ≡ line_text line
  is : IsLine line
  fits : Fits line
  next : next d line ≡ Some e

step_is : (d : Draft) (t : List ℕ) (e : Draft) → next_at d t ≡ Some e → IsStep d t e
unfolding next_at
step_is d t e h =
    let found = bind_some (line_of (slice_split (λ b. b == blank) t)) (next d) e h in
    let words = line_is (slice_split (λ b. b == blank) t) found.0 found.1 in
    record { line = found.0; text = line_of_words t found.0 (sym words.0); is = words.1; fits = words.2; next = found.2 }

step_again : (d : Draft) (l : Line) → IsLine l → Fits l → next_at d (line_text l) ≡ next d l
unfolding next_at
step_again d l is fits = rw (read_line l is fits) refl

taken_more : (text : List ℕ) (ls : List Line) (d : Draft) (t : List ℕ) (pieces : List (List ℕ)) (e : Draft) → HasTaken text ls d (t ∷ pieces) → (s : IsStep d t e) → HasTaken text (ls ++ s.line ∷ []) e pieces
taken_more text ls d t pieces e h s = record {
  whole = h.whole ∙ ap (λ x. map line_text ls ++ x ∷ pieces) s.text ∙ sym (append_assoc (map line_text ls) (line_text s.line ∷ []) pieces)
      ∙ ap (λ x. x ++ pieces) (sym (map-append line_text ls (s.line ∷ [])));
  leads = run-append draft.Empty ls (s.line ∷ []) ∙ rw (h.leads, s.next) refl;
  spelled = spelled_both ls (s.line ∷ []) h.spelled (record { lines = (s.is, tt); fits = (s.fits, tt) });
}

-- ---- the lines of a text

lines_front : (ls : List Line) (p : List ℕ) (ps : List (List ℕ)) → lines_of_pieces (map line_text ls ++ p ∷ ps) ≡ map ended_line ls ++ lines_of_pieces (p ∷ ps)
lines_front [] p ps = refl
lines_front (l ∷ []) p ps = refl
lines_front (l ∷ m ∷ ls) p ps = ap (λ x. ended_line l ∷ x) (lines_front (m ∷ ls) p ps)

lines_of_record : (text : List ℕ) (r : Record) → IsReading text r → lines text ≡ map ended_line (lines_of r)
lines_of_record text r h =
    ap (λ (t : List ℕ). lines_of_pieces (slice_split (λ b. b == line_feed) t)) h.spelled
    ∙ ap lines_of_pieces (pieces_of_lines (lines_of r) h.fits) ∙ lines_front (lines_of r) [] [] ∙ append-nil (map ended_line (lines_of r))

lines_taken : (text : List ℕ) (ls : List Line) (d : Draft) (p : List ℕ) (ps : List (List ℕ)) → HasTaken text ls d (p ∷ ps) → lines text ≡ map ended_line ls ++ lines_of_pieces (p ∷ ps)
lines_taken text ls d p ps h = ap lines_of_pieces h.whole ∙ lines_front ls p ps

-- some record goes on behind lines that were taken
may_go_on : (text : List ℕ) (ls : List Line) (d : Draft) (p : List ℕ) (ps : List (List ℕ)) (k : ℕ) → HasTaken text ls d (p ∷ ps) → k < suc (length ls) → MayGoOn text k
may_go_on text ls d p ps k h small =
    let good = taken_good ls d h.leads in
    let e = ends d good.0 in
    let leads : run draft.Empty (ls ++ e.more) ≡ Some (draft.Whole e.of_record) = run-append draft.Empty ls e.more ∙ rw h.leads e.leads in
    let is = taken_good (ls ++ e.more) (draft.Whole e.of_record) leads in
    let all = spelled_both ls e.more h.spelled (record { lines = e.lines; fits = e.fits }) in
    let own : AreSpelled (lines_of e.of_record) = subst AreSpelled (sym is.1) all in
    let reading : IsReading (text_of e.of_record) e.of_record = record { has_text = record { orderly = is.0; lines = own.lines }; fits = own.fits; spelled = refl } in
    let few : k ≤ length (map ended_line ls) = omega (arith, length-map ls ended_line) in
    let ours : take k (lines text) ≡ take k (map ended_line ls) =
    ap (take k) (lines_taken text ls d p ps h) ∙ take-append-le k (map ended_line ls) (lines_of_pieces (p ∷ ps)) few in
    let theirs : take k (lines (text_of e.of_record)) ≡ take k (map ended_line ls) =
    ap (take k) (lines_of_record (text_of e.of_record) e.of_record reading ∙ ap (map ended_line) is.1 ∙ map-append ended_line ls e.more)
    ∙ take-append-le k (map ended_line ls) (map ended_line e.more) few in
    record { other = text_of e.of_record; of_record = e.of_record; reading = reading; agrees = ours ∙ sym theirs }

-- ---- no record goes on

record GoesOn (ls : List Line) (x : List ℕ) (ms : List Line) : Type 0 where
  line : Line
  rest : List Line
  whole : ms ≡ ls ++ line ∷ rest
  text : x ≡ ended_line line
  is : IsLine line
  fits : Fits line

tail_of : (l : Line) (ls : List Line) → AreSpelled (l ∷ ls) → AreSpelled ls
tail_of l ls h = record { lines = h.lines.1; fits = h.fits.1 }

goes_on : (ls : List Line) (x : List ℕ) (xs : List (List ℕ)) (ms : List Line) → AreSpelled ls → AreSpelled ms
    → take (suc (length ls)) (map ended_line ls ++ x ∷ xs) ≡ take (suc (length ls)) (map ended_line ms) → GoesOn ls x ms
goes_on [] x xs [] p q e = absurd cc
goes_on [] x xs (m ∷ ms) p q e = let head : x ≡ ended_line m = cc in record { line = m; rest = ms; whole = refl; text = head; is = q.lines.0; fits = q.fits.0 }
goes_on (l ∷ ls) x xs [] p q e = absurd cc
goes_on (l ∷ ls) x xs (m ∷ ms) p q e =
    let head : ended_line l ≡ ended_line m = cc in
    let tail : take (suc (length ls)) (map ended_line ls ++ x ∷ xs) ≡ take (suc (length ls)) (map ended_line ms) = cc in
    let same = same_line l m p.lines.0 p.fits.0 q.lines.0 q.fits.0 (same_ended (line_text l) (line_text m) head) in
    let more = goes_on ls x xs ms (tail_of l ls p) (tail_of m ms q) tail in
    record { line = more.line; rest = more.rest; whole = ap (λ y. y ∷ ms) (sym same) ∙ ap (λ ys. l ∷ ys) more.whole; text = more.text; is = more.is; fits = more.fits }

all_same : (ls ms : List Line) → AreSpelled ls → AreSpelled ms → take (suc (length ls)) (map ended_line ls ++ []) ≡ take (suc (length ls)) (map ended_line ms) → ls ≡ ms
all_same [] [] p q e = refl
all_same [] (m ∷ ms) p q e = absurd cc
all_same (l ∷ ls) [] p q e = absurd cc
all_same (l ∷ ls) (m ∷ ms) p q e =
    let head : ended_line l ≡ ended_line m = cc in
    let tail : take (suc (length ls)) (map ended_line ls ++ []) ≡ take (suc (length ls)) (map ended_line ms) = cc in
    let same = same_line l m p.lines.0 p.fits.0 q.lines.0 q.fits.0 (same_ended (line_text l) (line_text m) head) in
    let more = all_same ls ms (tail_of l ls p) (tail_of m ms q) tail in
    cc

-- what another text shares with the lines that were taken and one more
shared : (text : List ℕ) (ls : List Line) (d : Draft) (p : List ℕ) (ps : List (List ℕ)) → HasTaken text ls d (p ∷ ps) → (m : MayGoOn text (suc (length ls)))
    → take (suc (length ls)) (map ended_line ls ++ lines_of_pieces (p ∷ ps)) ≡ take (suc (length ls)) (map ended_line (lines_of m.of_record))
shared text ls d p ps h m =
    sym (ap (take (suc (length ls))) (lines_taken text ls d p ps h)) ∙ m.agrees ∙ ap (take (suc (length ls))) (lines_of_record m.other m.of_record m.reading)

leads_on : (ls : List Line) (d : Draft) (l : Line) (rest : List Line) (r : Record) → run draft.Empty ls ≡ Some d → IsOrderly r → lines_of r ≡ ls ++ l ∷ rest → next d l ≡ None → ⊥
leads_on ls d l rest r leads orderly is none =
    let way : run draft.Empty (ls ++ l ∷ rest) ≡ None = run-append draft.Empty ls (l ∷ rest) ∙ rw (leads, none) refl in
    let whole : run draft.Empty (ls ++ l ∷ rest) ≡ Some (draft.Whole r) = ap (run draft.Empty) (sym is) ∙ run_record r orderly in
    let bad : None ≡ Some (draft.Whole r) = sym way ∙ whole in
    absurd cc

no_line : (text : List ℕ) (ls : List Line) (d : Draft) (t p : List ℕ) (ps : List (List ℕ)) → HasTaken text ls d (t ∷ p ∷ ps) → next_at d t ≡ None → ¬ MayGoOn text (suc (length ls))
no_line text ls d t p ps h none = λ m.
    let g = goes_on ls (ended t) (lines_of_pieces (p ∷ ps)) (lines_of m.of_record) h.spelled (spelled_of m.other m.of_record m.reading) (shared text ls d t (p ∷ ps) h m) in
    let same : t ≡ line_text g.line = same_ended t (line_text g.line) g.text in
    leads_on ls d g.line g.rest m.of_record h.leads m.reading.has_text.orderly g.whole (sym (step_again d g.line g.is g.fits) ∙ ap (next_at d) (sym same) ∙ none)

abbrev Lacks : List ℕ → Type 0
Lacks bytes = AllByRecursion (λ byte. (byte == line_feed) ≡ false) bytes

onto_lacks : (c : ℕ) (parts : List (List ℕ)) → (c == line_feed) ≡ false → AllByRecursion Lacks parts → AllByRecursion Lacks (onto_first c parts)
onto_lacks c [] other h = ((other, tt), tt)
onto_lacks c (part ∷ parts) other h = ((other, h.0), h.1)

pieces_lack : (bytes : List ℕ) → AllByRecursion Lacks (slice_split (λ b. b == line_feed) bytes)
pieces_lack [] = (tt, tt)
pieces_lack (c ∷ bytes) =
    elim (cases_Bool (c == line_feed)) [
      | inl here ↦ rw here (tt, pieces_lack bytes)
      | inr other ↦ rw other (onto_lacks c (slice_split (λ b. b == line_feed) bytes) other (pieces_lack bytes))
    ]

last_lacks : (front : List (List ℕ)) (rest : List ℕ) → AllByRecursion Lacks (front ++ rest ∷ []) → Lacks rest
last_lacks [] rest h = h.0
last_lacks (x ∷ front) rest h = last_lacks front rest h.1

not_ended : (bytes : List ℕ) → Lacks (ended bytes) → ⊥
not_ended [] h = let bad : (10 == 10) ≡ false = h.0 in cc
not_ended (c ∷ bytes) h = not_ended bytes h.1

-- a last line without its line feed
no_end : (text : List ℕ) (ls : List Line) (d : Draft) (rest : List ℕ) → HasTaken text ls d (rest ∷ []) → (length rest == 0) ≡ false → ¬ MayGoOn text (suc (length ls))
no_end text ls d rest h some = λ m.
    let last : lines_of_pieces (rest ∷ []) ≡ rest ∷ [] = rw some refl in
    let g = goes_on ls rest [] (lines_of m.of_record) h.spelled (spelled_of m.other m.of_record m.reading)
    (ap (λ x. take (suc (length ls)) (map ended_line ls ++ x)) (sym last) ∙ shared text ls d rest [] h m) in
    let lacks : Lacks rest = last_lacks (map line_text ls) rest (subst (AllByRecursion Lacks) h.whole (pieces_lack text)) in
    not_ended (line_text g.line) (subst Lacks g.text lacks)

-- a text that breaks off
no_more : (text : List ℕ) (ls : List Line) (d : Draft) (rest : List ℕ) → HasTaken text ls d (rest ∷ []) → (length rest == 0) ≡ true → ((r : Record) → d ≡ draft.Whole r → ⊥) → ¬ MayGoOn text (suc (length ls))
no_more text ls d rest h none unfinished = λ m.
    let last : lines_of_pieces (rest ∷ []) ≡ [] = rw none refl in
    let same = all_same ls (lines_of m.of_record) h.spelled (spelled_of m.other m.of_record m.reading)
    (ap (λ x. take (suc (length ls)) (map ended_line ls ++ x)) (sym last) ∙ shared text ls d rest [] h m) in
    unfinished m.of_record (some_is d (draft.Whole m.of_record) (sym h.leads ∙ ap (run draft.Empty) same ∙ run_record m.of_record m.reading.has_text.orderly))

-- ---- what reading answers

abbrev IsAnswer : List ℕ → Result Record ℕ → Type 0
IsAnswer text o = MatchResult o (λ r. IsReading text r) (λ n. IsLineFault text n)

fault_at : (text : List ℕ) (ls : List Line) (d : Draft) (p : List ℕ) (ps : List (List ℕ)) (number : ℕ) → HasTaken text ls d (p ∷ ps) → number ≡ suc (length ls) → ¬ MayGoOn text (suc (length ls)) → IsLineFault text number
fault_at text ls d p ps number h is never =
    rw is (record { before = λ k small. may_go_on text ls d p ps k h small; fault = never })

whole_is : (text : List ℕ) (ls : List Line) (r : Record) (rest : List ℕ) → HasTaken text ls (draft.Whole r) (rest ∷ []) → (length rest == 0) ≡ true → IsReading text r
whole_is text ls r rest h none =
    let good = taken_good ls (draft.Whole r) h.leads in
    let nil : rest ≡ [] = nil_from_length rest (eqb-true (length rest) 0 none) in
    let own : AreSpelled (lines_of r) = subst AreSpelled (sym good.1) h.spelled in
    record {
      has_text = record { orderly = good.0; lines = own.lines };
      fits = own.fits;
      spelled = lines_of_pieces_are text ls (h.whole ∙ ap (λ x. map line_text ls ++ x ∷ []) nil) ∙ ap text_of_lines (sym good.1);
    }

finish_is : (text : List ℕ) (ls : List Line) (number : ℕ) (d : Draft) (rest : List ℕ) → HasTaken text ls d (rest ∷ []) → number ≡ suc (length ls) → (length rest == 0) ≡ true → IsAnswer text (finish number d)
finish_is text ls number (draft.Whole r) rest h is none = whole_is text ls r rest h none
finish_is text ls number draft.Empty rest h is none = fault_at text ls _ rest [] number h is (no_more text ls _ rest h none (λ r e. absurd cc))
finish_is text ls number (draft.Asked q) rest h is none = fault_at text ls _ rest [] number h is (no_more text ls _ rest h none (λ r e. absurd cc))
finish_is text ls number (draft.Target target) rest h is none = fault_at text ls _ rest [] number h is (no_more text ls _ rest h none (λ r e. absurd cc))
finish_is text ls number (draft.TargetAt target at) rest h is none = fault_at text ls _ rest [] number h is (no_more text ls _ rest h none (λ r e. absurd cc))
finish_is text ls number (draft.TargetRuns target at runs) rest h is none = fault_at text ls _ rest [] number h is (no_more text ls _ rest h none (λ r e. absurd cc))

length_one : (ls : List Line) (l : Line) → length (ls ++ l ∷ []) ≡ suc (length ls)
length_one [] l = refl
length_one (m ∷ ls) l = ap suc (length_one ls l)

read_is : (text : List ℕ) (ls : List Line) (number : ℕ) (d : Draft) (p : List ℕ) (ps : List (List ℕ)) → HasTaken text ls d (p ∷ ps) → number ≡ suc (length ls) → IsAnswer text (read_from number d (p ∷ ps))
unfolding read_from
read_is text ls number d rest [] h is =
    elim (cases_Bool (length rest == 0)) [
      | inl none ↦ rw none (finish_is text ls number d rest h is none)
      | inr some ↦ rw some (fault_at text ls d rest [] number h is (no_end text ls d rest h some))
    ]
read_is text ls number d t (p ∷ ps) h is =
    elim (next_at d t) as (λ o. next_at d t ≡ o → IsAnswer text (with_draft number (λ e. read_from (number + 1) e (p ∷ ps)) o)) [
      | None ↦ λ none. fault_at text ls d t (p ∷ ps) number h is (no_line text ls d t p ps h none)
      | Some e ↦ λ found.
          let s = step_is d t e found in
          let many : number + 1 ≡ suc (length (ls ++ s.line ∷ [])) = omega (arith, length_one ls s.line) in
          read_is text (ls ++ s.line ∷ []) (number + 1) e p ps (taken_more text ls d t (p ∷ ps) e h s) many
    ] refl

-- there is a first piece
record HasFirst (pieces : List (List ℕ)) : Type 0 where
  first : List ℕ
  rest : List (List ℕ)
  is : pieces ≡ first ∷ rest

first_of : (bytes : List ℕ) → HasFirst (slice_split (λ b. b == line_feed) bytes)
first_of [] = record { first = []; rest = []; is = refl }
first_of (c ∷ bytes) =
    let more = first_of bytes in
    elim (cases_Bool (c == line_feed)) [
      | inl here ↦ record { first = []; rest = slice_split (λ b. b == line_feed) bytes; is = rw here refl }
      | inr other ↦ record { first = c ∷ more.first; rest = more.rest; is = rw (other, more.is) refl }
    ]

pub reading_is : (text : List ℕ) → IsAnswer text (read_from 1 draft.Empty (slice_split (λ b. b == line_feed) text))
reading_is text =
    let f = first_of text in
    rw (f.is) (read_is text [] 1 draft.Empty f.first f.rest (record { whole = f.is; leads = refl; spelled = record { lines = tt; fits = tt } }) refl)
