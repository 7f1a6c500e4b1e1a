-- Literals that are cut at the ends of clauses: one clause, how many there are, and with one clause more.
use Rattle.std.proofs.Common.{◌≡◌, ℕ, ◌+◌, ◌-◌, ◌<◌, ◌≤◌, List, [], ◌∷◌, ◌++◌, length, get_or, take, drop, zero, suc, refl, ap, sym, ◌∙◌, subst, arith, length-append, drop-drop}
use Rattle.std.proofs.lemmas.List.{take-append-le, drop-append-le, length-drop, take_all, drop_all}
use Rattle.cnf_core.specs.declared.formula.Lit.{Lit}
use Rattle.unit_propagation.specs.ClauseLists.{cut, AreEnds, start_at}

pub cut_length : (start : ℕ) (ends : List ℕ) (lits : List Lit) → length (cut start ends lits) ≡ length ends
cut_length start [] lits = refl
cut_length start (e ∷ es) lits = ap (λ (n : ℕ). suc n) (cut_length e es (drop (e - start) lits))

-- a clause lies between the places
pub cut_bounds : (start : ℕ) (ends : List ℕ) (lits : List Lit) (n : ℕ) → AreEnds start ends lits → n < length ends →
    (start ≤ start_at start ends n) × (start_at start ends n ≤ get_or ends n 0) × (get_or ends n 0 ≤ start + length lits)
cut_bounds start [] lits n h inside = absurd (omega arith)
cut_bounds start (e ∷ es) lits zero h inside = (omega arith, h.0, let a = h.0 in let b = h.1 in omega arith)
cut_bounds start (e ∷ es) lits (suc n) h inside =
    let rest = cut_bounds e es (drop (e - start) lits) n h.2 (omega arith) in
    let size = length-drop (e - start) lits in
    let a = h.0 in
    let b = h.1 in
    next n rest.0 rest.1 rest.2 size a b where
      next : (n : ℕ) → e ≤ start_at e es n → start_at e es n ≤ get_or es n 0 → get_or es n 0 ≤ e + length (drop (e - start) lits) →
          length (drop (e - start) lits) ≡ length lits - (e - start) → start ≤ e → e - start ≤ length lits →
          (start ≤ get_or (e ∷ es) n 0) × (get_or (e ∷ es) n 0 ≤ get_or es n 0) × (get_or es n 0 ≤ start + length lits)
      next zero x y z size a b = (a, y, omega arith)
      next (suc k) x y z size a b = (omega arith, y, omega arith)

pub cut_get : (start : ℕ) (ends : List ℕ) (lits : List Lit) (n : ℕ) → AreEnds start ends lits → n < length ends →
    get_or (cut start ends lits) n [] ≡ take (get_or ends n 0 - start_at start ends n) (drop (start_at start ends n - start) lits)
cut_get start [] lits n h inside = absurd (omega arith)
cut_get start (e ∷ es) lits zero h inside = ap (λ (k : ℕ). take (e - start) (drop k lits)) (none start) where
  none : (s : ℕ) → 0 ≡ s - s
  none s = omega arith
cut_get start (e ∷ es) lits (suc n) h inside =
    let bounds = cut_bounds e es (drop (e - start) lits) n h.2 (omega arith) in
    let there = cut_get e es (drop (e - start) lits) n h.2 (omega arith) in
    let a = h.0 in
    let from : e - start + (start_at e es n - e) ≡ start_at e es n - start = let b = bounds.0 in omega arith in
    there ∙ ap (take (get_or es n 0 - start_at e es n)) (drop-drop (start_at e es n - e) (e - start) lits ∙ ap (λ (k : ℕ). drop k lits) from)
    ∙ ap (λ (s : ℕ). take (get_or es n 0 - s) (drop (s - start) lits)) (later n) where
      later : (n : ℕ) → start_at e es n ≡ get_or (e ∷ es) n 0
      later zero = refl
      later (suc k) = refl

pub cut_push : (start : ℕ) (ends : List ℕ) (lits clause : List Lit) (end : ℕ) → AreEnds start ends lits → end ≡ start + length lits + length clause →
    cut start (ends ++ end ∷ []) (lits ++ clause) ≡ cut start ends lits ++ clause ∷ []
cut_push start [] lits clause end h is =
    let size = ap length h in
    ap (λ (ls : List Lit). take (end - start) (ls ++ clause) ∷ []) h
    ∙ ap (λ (k : List Lit). k ∷ []) (take_all (end - start) clause (omega arith))
cut_push start (e ∷ es) lits clause end h is =
    let a = h.0 in
    let b = h.1 in
    let size = length-drop (e - start) lits in
    ap (λ (k : List Lit). k ∷ cut e (es ++ end ∷ []) (drop (e - start) (lits ++ clause))) (take-append-le (e - start) lits clause b)
    ∙ ap (λ (ls : List Lit). take (e - start) lits ∷ cut e (es ++ end ∷ []) ls) (drop-append-le (e - start) lits clause b)
    ∙ ap (λ (cs : List (List Lit)). take (e - start) lits ∷ cs) (cut_push e es (drop (e - start) lits) clause end h.2 (omega arith))

pub ends_push : (start : ℕ) (ends : List ℕ) (lits clause : List Lit) (end : ℕ) → AreEnds start ends lits → end ≡ start + length lits + length clause →
    AreEnds start (ends ++ end ∷ []) (lits ++ clause)
ends_push start [] lits clause end h is =
    let size = ap length h in
    subst (λ (ls : List Lit). AreEnds start (end ∷ []) (ls ++ clause)) (sym h) (omega arith, omega arith, drop_all (end - start) clause (omega arith))
ends_push start (e ∷ es) lits clause end h is =
    let a = h.0 in
    let b = h.1 in
    let size = length-drop (e - start) lits in (
      a,
      omega (arith, length-append lits clause),
      subst (AreEnds e (es ++ end ∷ [])) (sym (drop-append-le (e - start) lits clause b)) (ends_push e es (drop (e - start) lits) clause end h.2 (omega arith)),
    )
