-- What reading answers, as its clauses say it.
use Rattle.std.proofs.Common.{◌≡◌, ℕ, suc, ◌+◌, ◌-◌, ◌<◌, ◌≤◌, List, [], ◌∷◌, ◌++◌, length, map, take, get_or, refl, sym, ap, ◌∙◌, subst, arith, inl, inr}
use Rattle.std.specs.Prelude.{Result, Ok, Err, MatchResult, IfOk, IfErr, ◌==◌}
use Rattle.std.specs.List.{slice_split, onto_first}
use Rattle.std.proofs.lemmas.Bool.{cases_Bool}
use Rattle.std.proofs.lemmas.List.{map_more, take_all, length-map, length-take}
use Rattle.proof_stream.specs.declared.draft.Draft.TheVariants.{Empty}
use Rattle.proof_stream.specs.declared.proof_fault.ProofFault.{ProofFault}
use Rattle.proof_stream.specs.declared.proof_fault.ProofFault.TheVariants.{Line, Memory}
use Rattle.proof_stream.specs.declared.record.Record.{Record}
use Rattle.proof_stream.specs.Answers.{Gives, IsFaultOf, IsMemory, read_pieces}
use Rattle.proof_stream.specs.Drafts.{read_from}
use Rattle.proof_stream.specs.Faults.{IsLineFault}
use Rattle.proof_stream.specs.Spelling.{line_feed}
use Rattle.proof_stream.specs.Valid.{IsReading}
use Rattle.proof_stream.proofs.FaultLemmas.{one_record, reading_is}

abbrev pub pieces : List ℕ → List (List ℕ)
pieces text = slice_split (λ b. b == line_feed) text

abbrev pub answer : List ℕ → Result Record ℕ
answer text = read_from 1 Empty (pieces text)

given_ok : (text : List ℕ) (r : Record) → answer text ≡ Ok r → IsReading text r
given_ok text r e = subst (λ (o : Result Record ℕ). MatchResult o (λ r. IsReading text r) (λ n. IsLineFault text n)) e (reading_is text)

given_err : (text : List ℕ) (n : ℕ) → answer text ≡ Err n → IsLineFault text n
given_err text n e = subst (λ (o : Result Record ℕ). MatchResult o (λ r. IsReading text r) (λ n. IsLineFault text n)) e (reading_is text)

pub found : (text : List ℕ) (o : Result Record ProofFault) → Gives o (answer text) → IfOk o (λ r. IsReading text r)
found text (Ok r) e = given_ok text r e
found text (Err x) e = tt

pub fault : (text : List ℕ) (o : Result Record ProofFault) → Gives o (answer text) → IfErr o (λ x. IsFaultOf text x)
fault text (Ok r) e = tt
fault text (Err (Line n)) e = given_err text n e
fault text (Err (Memory a)) e = tt

pub only : (text : List ℕ) (o : Result Record ProofFault) → Gives o (answer text) → (r : Record) → IsReading text r → MatchResult o (λ x. x ≡ r) IsMemory
only text (Ok x) e r h = one_record text x r (given_ok text x e) h
only text (Err (Line n)) e r h = (given_err text n e).fault (record { other = text; of_record = r; reading = h; agrees = refl })
only text (Err (Memory a)) e r h = tt

onto_few : (c : ℕ) (parts : List (List ℕ)) (n : ℕ) → length parts ≤ n → 0 < n → length (onto_first c parts) ≤ n
onto_few c [] n few some = omega arith
onto_few c (part ∷ parts) n few some = few

-- no more pieces than bytes and one
pub pieces_few : (text : List ℕ) → length (pieces text) ≤ length text + 1
pieces_few [] = omega arith
pieces_few (c ∷ text) =
    let rest = pieces_few text in
    elim (cases_Bool (c == line_feed)) [
      | inl here ↦ rw here (omega arith)
      | inr other ↦ rw other (onto_few c (pieces text) (suc (length text) + 1) (omega arith) (omega arith))
    ]

onto_some : (c : ℕ) (parts : List (List ℕ)) → 0 < length (onto_first c parts)
onto_some c [] = omega arith
onto_some c (part ∷ parts) = omega arith

-- and at least one
pub pieces_some : (text : List ℕ) → 0 < length (pieces text)
pieces_some [] = omega arith
pieces_some (c ∷ text) =
    elim (cases_Bool (c == line_feed)) [
      | inl here ↦ rw here (omega arith)
      | inr other ↦ rw other (onto_some c (pieces text))
    ]

-- a list is its front and its last item
pub map_last : {A B : Type 0} (f : A → B) (xs : List A) (d : A) → 0 < length xs → map f (take (length xs - 1) xs) ++ f (get_or xs (length xs - 1) d) ∷ [] ≡ map f xs
map_last f xs d some =
    let more : length xs - 1 + 1 ≡ length xs = omega arith in
    sym (map_more f xs (length xs - 1) d (omega arith)) ∙ ap (λ n. map f (take n xs)) more ∙ ap (map f) (take_all (length xs) xs (omega arith))

-- the answer for the pieces is that for the text
pub given : {A : Type 0} (f : A → List ℕ) (text : List ℕ) (xs : List A) (d : A) (o : Result Record ProofFault) → map f xs ≡ pieces text → 0 < length xs
    → Gives o (read_pieces (map f (take (length xs - 1) xs)) (f (get_or xs (length xs - 1) d))) → Gives o (answer text)
given f text xs d o same some e = subst (λ ps. Gives o (read_from 1 Empty ps)) (map_last f xs d some ∙ same) e

pub front_few : {A : Type 0} (f : A → List ℕ) (text : List ℕ) (xs : List A) → map f xs ≡ pieces text → length (take (length xs - 1) xs) ≤ length text
front_few f text xs same =
    omega (arith, pieces_few text, length-map xs f, ap length same, length-take (length xs - 1) xs)

pub never_empty : {A : Type 0} (f : A → List ℕ) (text : List ℕ) (xs : List A) → map f xs ≡ pieces text → length xs < 1 → ⊥
never_empty f text xs same none = absurd (omega (arith, pieces_some text, length-map xs f, ap length same))
