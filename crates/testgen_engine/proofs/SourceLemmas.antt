-- Lemmas on reading a source in pieces.
use Rattle.std.proofs.Common.{◌≡◌, ℕ, ◌+◌, ◌≤◌, Bool, true, false, nat_lt, IsTrue, List, [], ◌∷◌, ◌++◌, length, take, drop, inl, inr, refl, ap, sym, ◌∙◌, subst, arith, append-nil, Result, Ok, Err, IsErrAnd, MatchResult, length-drop, length-append}
use Prim.Native.Nat.{zero, suc}
use Rattle.std.proofs.Math.Seq.{take-append-add}
use Rattle.std.proofs.lemmas.Bool.{false≢true, lt-ltb}
use Rattle.std.proofs.lemmas.List.{take_all, take-append-le, length-take-le}
use Rattle.std.proofs.lemmas.Result.{err_from_is_err_and}
use Rattle.std.proofs.lemmas.Slice.{take-put_mid}
use borrow.Rule.Slice.PartMut.{put_mid, same_len_mid}
use Rattle.tg_base.specs.declared.desk.DeskFault.{DeskFault}
use Rattle.tg_base.specs.declared.desk.DeskFault.TheVariants.{Failed, Memory}
use Rattle.tg_base.specs.Faults.{HasCause}
use Rattle.tg_base.specs.Moment.{Moment, KeepsReading, is_end, just_opened, after_read}
use Rattle.tg_base.proofs.MomentLaws.{after_read_last}
use Rattle.testgen_engine.specs.declared.source.TheConstants.{MOST_BYTES}
use Rattle.testgen_engine.specs.Source.{HasRead, FailsReading, ReadsOnly, ReadsSource, StopsReading}

-- the end of a buffer has as many bytes as fit
pub room_is : (start room : ℕ) (buffer : List ℕ) → start + room ≡ length buffer → length (take room (drop start buffer)) ≡ room
room_is start room buffer fits = length-take-le room (drop start buffer) (omega (arith, length-drop start buffer))

-- a part at the end of a buffer was written, and its first bytes count
pub part_written : (start count room : ℕ) (buffer part : List ℕ) → start + room ≡ length buffer → length part ≡ room → count ≤ room
    → (take (start + count) (put_mid start room buffer part) ≡ take start buffer ++ take count part) × (length (put_mid start room buffer part) ≡ length buffer)
part_written start count room buffer part fits long few =
    let same : length (put_mid start room buffer part) ≡ length buffer = same_len_mid start room buffer part (long ∙ sym (room_is start room buffer fits)) in
    let first : length (take start buffer) ≡ start = length-take-le start buffer (omega arith) in
    let whole : put_mid start room buffer part ≡ take start buffer ++ part =
    sym (take_all (start + room) (put_mid start room buffer part) (omega arith)) ∙ take-put_mid start room buffer part (start + room) (omega arith) (omega arith) in
    (ap (take (start + count)) whole ∙ ap (λ n. take (n + count) (take start buffer ++ part)) (sym first) ∙ take-append-add (take start buffer) part count, same)

-- a buffer that is cut where its bytes end
pub truncated : (count whole : ℕ) (buffer items : List ℕ) → length buffer ≡ whole → take count (take whole (buffer ++ drop (length buffer) items)) ≡ take count buffer
truncated count whole buffer items fits =
    ap (take count) (take-append-le whole buffer (drop (length buffer) items) (omega arith) ∙ take_all whole buffer (omega arith))

-- a file that was just opened
pub opened_read : (first second : Moment) (name : List ℕ) → second.asked ≡ first.asked ++ name ∷ [] → second.opened ≡ first.opened ++ just_opened name ∷ [] → HasRead first second name [] false
opened_read first second name asked opened = record { asked = asked; opened = opened; few = omega arith; met = λ e. absurd (false≢true e) }

-- a read from the file that was opened last
read_piece : (first second third : Moment) (name moved piece : List ℕ) → HasRead first second name moved false → third.asked ≡ second.asked → third.opened ≡ after_read second.opened piece
    → length (moved ++ piece) ≤ MOST_BYTES → (IsTrue (is_end piece) → third.readable ≡ false) → HasRead first third name (moved ++ piece) (is_end piece)
read_piece first second third name moved piece h asked opened few met = record {
  asked = asked ∙ h.asked;
  opened = opened ∙ ap (λ files. after_read files piece) h.opened ∙ after_read_last first.opened (record { name = name; moved = moved; ended = false }) piece;
  few = few;
  met = met;
}

-- one that moved nothing met the end
pub read_nothing : (first second third : Moment) (name moved part : List ℕ) (count : ℕ) → HasRead first second name moved false → third.asked ≡ second.asked
    → third.opened ≡ after_read second.opened (take count part) → count ≡ 0 → third.readable ≡ nat_lt 0 count → HasRead first third name moved true
read_nothing first second third name moved part count h asked opened none readable =
    let none_moved = opened ∙ ap (λ n. after_read second.opened (take n part)) none in
    let closed = readable ∙ ap (nat_lt 0) none in
    let read = read_piece first second third name moved [] h asked none_moved (omega (arith, h.few, ap length (append-nil moved))) (λ e. closed) in
    subst (λ xs. HasRead first third name xs true) (append-nil moved) read

-- one that moved bytes did not
moves_on : (count : ℕ) (part : List ℕ) → (count ≡ 0 → ⊥) → count ≤ length part → is_end (take count part) ≡ false
moves_on zero part some within = absurd (some refl)
moves_on (suc count) [] some within = absurd (omega arith)
moves_on (suc count) (byte ∷ part) some within = refl

pub read_more : (first second third : Moment) (name moved part : List ℕ) (count : ℕ) → HasRead first second name moved false → third.asked ≡ second.asked
    → third.opened ≡ after_read second.opened (take count part) → (count ≡ 0 → ⊥) → count ≤ length part → length moved + count ≤ MOST_BYTES → HasRead first third name (moved ++ take count part) false
read_more first second third name moved part count h asked opened some within few =
    let on = moves_on count part some within in
    let long : length (moved ++ take count part) ≤ MOST_BYTES = omega (arith, length-append moved (take count part), length-take-le count part within) in
    subst (HasRead first third name (moved ++ take count part)) on
    (read_piece first second third name moved (take count part) h asked opened long (λ e. absurd (false≢true (sym on ∙ e))))

-- and leaves the desk readable
pub still_readable : (count : ℕ) (readable : Bool) → (count ≡ 0 → ⊥) → readable ≡ nat_lt 0 count → IsTrue readable
still_readable count readable some e = e ∙ lt-ltb 0 count (omega arith)

-- a reading that stops at the file that was opened
pub stops_inside : (first second third : Moment) (name moved : List ℕ) (fault : DeskFault) → HasRead first second name moved false → third.asked ≡ second.asked → third.opened ≡ second.opened
    → StopsReading first third name fault
stops_inside first second third name moved fault h asked opened =
    let read : HasRead first third name moved false = record { asked = asked ∙ h.asked; opened = opened ∙ h.opened; few = h.few; met = λ e. absurd (false≢true e) } in
    elim fault as (StopsReading first third name) [ Failed ↦ inr (moved, read) | Memory ↦ inr (inr (moved, false, read)) ]

pub stops : {T : Type 0} (first third : Moment) (name : List ℕ) (fault : DeskFault) (P : T → Type 0) (r : Result T DeskFault) → IsErrAnd r (λ e. e ≡ fault) → StopsReading first third name fault
    → MatchResult r P (StopsReading first third name)
stops {T} first third name fault P r failed h =
    let p = err_from_is_err_and r failed in
    subst (λ (x : Result T DeskFault). MatchResult x P (StopsReading first third name)) (sym (p.1 ∙ ap Err p.2)) h

-- what was read stays so where the desk is only written to
pub read_stays : (first second third : Moment) (name moved : List ℕ) (ended : Bool) → HasRead first second name moved ended → KeepsReading second third → HasRead first third name moved ended
read_stays first second third name moved ended h stays = record {
  asked = stays.asked ∙ h.asked;
  opened = stays.opened ∙ h.opened;
  few = h.few;
  met = λ e. stays.readable ∙ h.met e;
}

-- a call that fails as one that it made
pub cause_err : {S T : Type 0} (before now : ℕ) (r : Result S DeskFault) (s : Result T DeskFault) (fault : DeskFault) → HasCause before now r → r ≡ Err fault → IsErrAnd s (λ e. e ≡ fault) → HasCause before now s
cause_err {S} {T} before now r s fault h e failed =
    let p = err_from_is_err_and s failed in
    let is_fault : s ≡ Err fault = p.1 ∙ ap Err p.2 in
    let cause = subst (λ (x : Result S DeskFault). HasCause before now x) e h in
    subst (λ (x : Result T DeskFault). HasCause before now x) (sym is_fault) (record {
      later = cause.later;
      failed = λ same. cause.failed (let f : fault ≡ Failed = cc in ap Err f);
      else_stays = λ other. cause.else_stays (λ same. other (let f : fault ≡ Failed = cc in ap Err f));
    })

-- a call that succeeds after one that did
pub cause_ok : {S T : Type 0} (before now : ℕ) (x : S) (y : T) → HasCause before now (Ok x) → HasCause before now (Ok y)
cause_ok before now x y h = record { later = h.later; failed = λ e. cc; else_stays = λ other. h.else_stays (λ same. cc) }

-- so no other file is read
pub reads_only : (first second third : Moment) (name bytes : List ℕ) → ReadsSource first second name bytes → KeepsReading second third → ReadsOnly first third name
reads_only first second third name bytes source stays = inr (inr (bytes, source.ended, read_stays first second third name bytes source.ended source.read stays))

pub fails_only : (first second third : Moment) (name : List ℕ) → FailsReading first second name → KeepsReading second third → ReadsOnly first third name
fails_only first second third name (inl nothing) stays = inr (inl (record { asked = stays.asked ∙ nothing.asked; opened = stays.opened ∙ nothing.opened }))
fails_only first second third name (inr read) stays = inr (inr (read.0, false, read_stays first second third name read.0 false read.1 stays))

pub nothing_written : (m : Moment) → KeepsReading m m
nothing_written m = record { files = refl; asked = refl; opened = refl; readable = refl; read_faults = refl }
