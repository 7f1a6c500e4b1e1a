-- What a read from the open file does to it.
use Rattle.std.proofs.Common.{◌≡◌, ℕ, zero, suc, ◌+◌, ◌<◌, ◌≤◌, min, Bool, true, not, ◌||◌, List, [], ◌∷◌, ◌++◌, length, take, drop, map, Option, Some, IsTrue, nat_eq, refl, sym, ap, ◌∙◌, append_assoc, arith, rules}
use Rattle.std.proofs.lemmas.Bool.{and_parts, and_from}
use Rattle.std.proofs.lemmas.List.{take-append-drop, map-append}
use Rattle.std.proofs.lemmas.List.Folds.{list_all-append}
use Rattle.std.proofs.lemmas.Grind.{common_steps}
use Rattle.std.proofs.lemmas.Slice.Eq.{bytes_eq-Decides}
use Rattle.tg_base.proofs.MomentLaws.{after_read_last}
use Rattle.tg_base.specs.Moment.{is_end, file_after, after_read}
use Rattle.tg_base.specs.Reading.{Reading, at_start, has_bytes, is_of_file, are_of_files}

-- nothing is taken of a list only where nothing was asked for
is_end_taken : (n : ℕ) (xs : List ℕ) → n ≤ length xs → is_end (take n xs) ≡ nat_eq n 0
is_end_taken zero xs few = refl
is_end_taken (suc n) [] few = absurd (omega (arith, few))
is_end_taken (suc n) (x ∷ xs) few = search rules

take_further : (n k : ℕ) (xs : List ℕ) → take (n + k) xs ≡ take n xs ++ take k (drop n xs)
take_further zero k xs = search rules
take_further (suc n) k [] = search (rules, common_steps)
take_further (suc n) k (x ∷ xs) = let e : suc n + k ≡ suc (n + k) = omega arith in rw e (ap (λ ys. x ∷ ys) (take_further n k xs))

-- an opened file whose place moved on by k bytes
pub file_after_place : (name : List ℕ) (at k : ℕ) (xs : List ℕ) (ended : Bool) (moved : List ℕ)
    → moved ≡ take k (drop at xs) → k ≤ length (drop at xs)
    → record { name = name; moved = take (at + k) xs; ended = nat_eq k 0 }
    ≡ file_after (record { name = name; moved = take at xs; ended = ended }) moved
file_after_place name at k xs ended moved same few =
    rw (same, is_end_taken k (drop at xs) few, take_further at k xs) refl

-- a read that has room and moves nothing leaves nothing
end_stays : (m : ℕ) (rest : List ℕ) (n : ℕ) → 0 < m → n ≡ min m (length rest)
    → (not (is_end (take n rest)) || is_end (drop n rest)) ≡ true
end_stays m [] n room count = search (rules, common_steps)
end_stays m (x ∷ rest) zero room count = absurd (omega (arith, room, count))
end_stays m (x ∷ rest) (suc n) room count = refl

-- a read from the open file leaves it a file of its name
read_is_of_file : (files : List ℕ → Option (List ℕ)) (old new : Reading) (m n : ℕ) → 0 < m → n ≡ min m (length old.rest)
    → new.file ≡ file_after old.file (take n old.rest) → new.rest ≡ drop n old.rest
    → is_of_file files old ≡ true → is_of_file files new ≡ true
read_is_of_file files old new m n room count file rest told =
    let whole : (old.file.moved ++ take n old.rest) ++ drop n old.rest ≡ old.file.moved ++ old.rest
    = append_assoc old.file.moved (take n old.rest) (drop n old.rest) ∙ ap (λ xs. old.file.moved ++ xs) (take-append-drop n old.rest) in
    let parts = and_parts _ _ told in
    let has : has_bytes (files old.file.name) ((old.file.moved ++ take n old.rest) ++ drop n old.rest) ≡ true = rw whole parts.0 in
    rw (file, rest) (and_from _ _ has (end_stays m old.rest n room count))

pub read_are_of_files : (files : List ℕ → Option (List ℕ)) (past : List Reading) (old new : Reading) (m n : ℕ) → 0 < m
    → n ≡ min m (length old.rest) → new.file ≡ file_after old.file (take n old.rest) → new.rest ≡ drop n old.rest
    → IsTrue (are_of_files files (past ++ old ∷ [])) → IsTrue (are_of_files files (past ++ new ∷ []))
read_are_of_files files past old new m n room count file rest told =
    let parts = and_parts _ _ (sym (list_all-append (is_of_file files) past (old ∷ [])) ∙ told) in
    let before = (and_parts _ _ parts.1).0 in
    list_all-append (is_of_file files) past (new ∷ [])
    ∙ and_from _ _ parts.0 (and_from _ _ (read_is_of_file files old new m n room count file rest before) refl)

-- a read from the open file is a read from the last of those that were opened
pub opened_after_read : (past : List Reading) (old new : Reading) (bytes : List ℕ) → new.file ≡ file_after old.file bytes
    → map (λ r. r.file) (past ++ new ∷ []) ≡ after_read (map (λ r. r.file) (past ++ old ∷ [])) bytes
opened_after_read past old new bytes file =
    map-append (λ r. r.file) past (new ∷ [])
    ∙ ap (λ f. map (λ r. r.file) past ++ f ∷ []) file
    ∙ sym (after_read_last (map (λ r. r.file) past) old.file bytes)
    ∙ ap (λ files. after_read files bytes) (sym (map-append (λ r. r.file) past (old ∷ [])))

-- readings that are of the files stay so with one more
pub start_are_of_files : (files : List ℕ → Option (List ℕ)) (old new : List Reading) (name bytes : List ℕ)
    → new ≡ old ++ at_start name bytes ∷ [] → files name ≡ Some bytes → IsTrue (are_of_files files old) → IsTrue (are_of_files files new)
start_are_of_files files old new name bytes more found told =
    let has : has_bytes (files name) bytes ≡ true = rw found ((bytes_eq-Decides bytes bytes).1 refl) in
    ap (are_of_files files) more
    ∙ list_all-append (is_of_file files) old (at_start name bytes ∷ [])
    ∙ and_from _ _ told (and_from _ _ (and_from _ _ has refl) refl)
