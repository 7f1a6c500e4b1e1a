-- The reasons of a trail as hints.
use Rattle.std.proofs.Common.{◌≡◌, ℕ, ◌+◌, ◌-◌, ◌<◌, Option, Some, None, List, [], ◌∷◌, zero, suc, length, get_or, take, inl, inr, subst, arith}
use Rattle.std.specs.Prelude.{slice_get}
use Rattle.std.proofs.lemmas.List.{take_more}
use Rattle.std.proofs.lemmas.Option.{slice_get-get_or, get_or_from_slice_get}
use Rattle.cnf_core.specs.declared.formula.Lit.{Lit}
use Rattle.unit_propagation.specs.Trail.{decided, Explains}
use Rattle.unit_propagation.specs.Propagated.{IsFalseClause}
use Rattle.refutation_checker.specs.Hints.{IsNumbered, HintsConflict}

none_decided : (trail : List Lit) (reasons : List (Option ℕ)) (n : ℕ) → decided trail reasons ≡ [] → length reasons ≡ length trail → n < length trail → get_or reasons n None ≡ None → ⊥
none_decided [] reasons n none same inside is = absurd (omega arith)
none_decided (x ∷ xs) [] n none same inside is = absurd (omega arith)
none_decided (x ∷ xs) (None ∷ rs) n none same inside is = absurd (cc)
none_decided (x ∷ xs) (Some c ∷ rs) zero none same inside is = absurd (cc)
none_decided (x ∷ xs) (Some c ∷ rs) (suc n) none same inside is = none_decided xs rs n none (omega arith) (omega arith) is

-- where nothing was decided each literal has a reason
pub has_reason : (trail : List Lit) (reasons : List (Option ℕ)) (n : ℕ) → decided trail reasons ≡ [] → length reasons ≡ length trail → n < length trail → slice_get reasons n ≡ Some None → ⊥
has_reason trail reasons n none same inside is = none_decided trail reasons n none same inside (get_or_from_slice_get reasons n None None is)

numbered : (clauses : List (List Lit)) (c : ℕ) (clause : List Lit) → slice_get clauses c ≡ Some clause → IsNumbered clauses (c + 1) clause
numbered clauses c clause at =
    let back : c ≡ c + 1 - 1 = omega arith in
    let more : 0 < c + 1 = omega arith in
    (more, subst (λ (n : ℕ). slice_get clauses n ≡ Some clause) back at)

-- a hint for the literal at a place
pub hint_sets : (clauses : List (List Lit)) (trail : List Lit) (n c : ℕ) (hints : List ℕ) (d : Lit) → n < length trail → Explains clauses trail n c (get_or trail n d) →
    HintsConflict clauses (take (n + 1) trail) hints → HintsConflict clauses (take n trail) ((c + 1) ∷ hints)
hint_sets clauses trail n c hints d inside (clause, at, unit) conflict =
    (clause, numbered clauses c clause at, inr (get_or trail n d, unit, subst (λ (ls : List Lit). HintsConflict clauses ls hints) (take_more trail n d inside) conflict))

-- and one for the false clause
pub hint_conflicts : (clauses : List (List Lit)) (trail : List Lit) (c : ℕ) → IsFalseClause clauses trail c → HintsConflict clauses trail ((c + 1) ∷ [])
hint_conflicts clauses trail c (inside, falsified) =
    (get_or clauses c [], numbered clauses c (get_or clauses c []) (slice_get-get_or clauses c [] inside), inl (falsified []))
