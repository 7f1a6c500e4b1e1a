-- What is found out for one token more, and what a marked row for each symbol says.
use Rattle.std.proofs.Common.{◌≡◌, ℕ, ◌+◌, Bool, List, [], ◌∷◌, ◌++◌, get_or, Option, None, Some, sym, ap, ◌∙◌, subst, inl, inr, arith}
use Rattle.std.proofs.lemmas.Bool.{cases_lt}
use Rattle.std.proofs.lemmas.List.{get_or_append_left, get_or_push, length_push}
use Rattle.ll1_engine.specs.declared.grammar.Row.{Row}
use Rattle.ll1_engine.specs.Table.{IsRow}
use Rattle.ll1_engine.specs.Prediction.{PredictsNullable, PredictsFirst}
use Rattle.ll1_engine.specs.Marks.{marked, all_in, begins_in}
use Rattle.ll1_engine.specs.Analysis.{MarksNullable, MarksFirst, MarksNullableRows, MarksFirstRows, PredictsMarked, AreTokenSets, AreSetsBelow}
use Rattle.ll1_engine.proofs.LeastSetLemmas.{all_nullable, begins_exact}

-- the same lists under other names
pub AreTokenSets_same : (size : ℕ) (g : List Row) (t : ℕ) (b b' f f' : List Bool) (c c' : List (Option ℕ)) → b' ≡ b → f' ≡ f → c' ≡ c → AreTokenSets size g t b f c → AreTokenSets size g t b' f' c'
AreTokenSets_same size g t b b' f f' c c' p q u h =
    subst (λ (z : List Bool). AreTokenSets size g t z f' c') (sym p) (subst (λ (z : List Bool). AreTokenSets size g t b z c') (sym q) (subst (λ (z : List (Option ℕ)). AreTokenSets size g t b f z) (sym u) h))

pub AreSetsBelow_push : (n size : ℕ) (g : List Row) (first_rows follows : List (List Bool)) (first_predictions : List (List (Option ℕ))) (b f : List Bool) (c : List (Option ℕ))
    → AreSetsBelow n size g first_rows follows first_predictions → AreTokenSets size g n b f c → AreSetsBelow (n + 1) size g (first_rows ++ b ∷ []) (follows ++ f ∷ []) (first_predictions ++ c ∷ [])
AreSetsBelow_push n size g first_rows follows first_predictions b f c a s =
    record {
      first_row_count = length_push first_rows b ∙ ap (λ (z : ℕ). z + 1) a.first_row_count;
      follow_count = length_push follows f ∙ ap (λ (z : ℕ). z + 1) a.follow_count;
      prediction_count = length_push first_predictions c ∙ ap (λ (z : ℕ). z + 1) a.prediction_count;
      each = λ t lt. elim (cases_lt t n) [
        | inl less ↦ (
            let p : get_or (first_rows ++ b ∷ []) t [] ≡ get_or first_rows t [] = get_or_append_left first_rows (b ∷ []) [] t (let e = a.first_row_count in omega arith) in
            let q : get_or (follows ++ f ∷ []) t [] ≡ get_or follows t [] = get_or_append_left follows (f ∷ []) [] t (let e = a.follow_count in omega arith) in
            let u : get_or (first_predictions ++ c ∷ []) t [] ≡ get_or first_predictions t [] = get_or_append_left first_predictions (c ∷ []) [] t (let e = a.prediction_count in omega arith) in
            AreTokenSets_same size g t _ _ _ _ _ _ p q u (a.each t less))
        | inr more ↦ (
            let e : t ≡ n = omega arith in
            subst (λ (z : ℕ). AreTokenSets size g z (get_or (first_rows ++ b ∷ []) z []) (get_or (follows ++ f ∷ []) z []) (get_or (first_predictions ++ c ∷ []) z [])) (sym e)
            (AreTokenSets_same size g n _ _ _ _ _ _ (get_or_push first_rows b [] n a.first_row_count) (get_or_push follows f [] n a.follow_count) (get_or_push first_predictions c [] n a.prediction_count) s))
      ];
    }

-- rows whose marks are computed from the marks of symbols
pub first_rows_told : (g : List Row) (t : ℕ) (first nullable marks : List Bool) → MarksFirst g t first → MarksNullable g nullable
    → ((k : ℕ) (r : Row) → IsRow g k r → marked marks k ≡ begins_in (marked first) (marked nullable) r.right) → MarksFirstRows g t marks
first_rows_told g t first nullable marks f m told = λ k r h.
    let b = begins_exact g t first nullable f m r.right in
    (λ i. b.0 (sym (told k r h) ∙ i), λ i. told k r h ∙ b.1 i)

pub nullable_rows_told : (g : List Row) (nullable marks : List Bool) → MarksNullable g nullable
    → ((k : ℕ) (r : Row) → IsRow g k r → marked marks k ≡ all_in (marked nullable) r.right) → MarksNullableRows g marks
nullable_rows_told g nullable marks m told = λ k r h.
    let b = all_nullable g nullable m r.right in
    (λ i. b.0 (sym (told k r h) ∙ i), λ i. told k r h ∙ b.1 i)

pub first_predicted : (g : List Row) (t : ℕ) (marks : List Bool) (x : ℕ) (c : Option ℕ) → MarksFirstRows g t marks → PredictsMarked g marks x c → PredictsFirst g t x c
first_predicted g t marks x None m p = λ k r h e b. p k r h e ((m k r h).1 b)
first_predicted g t marks x (Some k) m p = (p.0, p.1, p.2, (m k p.0 p.1).0 p.3)

pub nullable_predicted : (g : List Row) (marks : List Bool) (x : ℕ) (c : Option ℕ) → MarksNullableRows g marks → PredictsMarked g marks x c → PredictsNullable g x c
nullable_predicted g marks x None m p = λ k r h e b. p k r h e ((m k r h).1 b)
nullable_predicted g marks x (Some k) m p = (p.0, p.1, p.2, (m k p.0 p.1).0 p.3)

pub AreSetsBelow_pushed : (n size : ℕ) (g : List Row) (first_rows follows : List (List Bool)) (first_predictions : List (List (Option ℕ))) (b f : List Bool) (c : List (Option ℕ)) (first_rows' follows' : List (List Bool)) (first_predictions' : List (List (Option ℕ)))
    → first_rows' ≡ first_rows ++ b ∷ [] → follows' ≡ follows ++ f ∷ [] → first_predictions' ≡ first_predictions ++ c ∷ [] → AreSetsBelow n size g first_rows follows first_predictions → AreTokenSets size g n b f c → AreSetsBelow (n + 1) size g first_rows' follows' first_predictions'
AreSetsBelow_pushed n size g first_rows follows first_predictions b f c first_rows' follows' first_predictions' p q u a s =
    subst (λ (z : List (List Bool)). AreSetsBelow (n + 1) size g z follows' first_predictions') (sym p)
    (subst (λ (z : List (List Bool)). AreSetsBelow (n + 1) size g (first_rows ++ b ∷ []) z first_predictions') (sym q)
    (subst (λ (z : List (List (Option ℕ))). AreSetsBelow (n + 1) size g (first_rows ++ b ∷ []) (follows ++ f ∷ []) z) (sym u) (AreSetsBelow_push n size g first_rows follows first_predictions b f c a s)))
