-- The last place of a number behind one more.
use Rattle.std.specs.Prelude.{◌≡◌, ℕ, zero, suc, ◌==◌, List, [], ◌∷◌, ◌++◌, reverse, Bool, true, false, cond, length, Option, None, Some, slice_get}
use Rattle.std.proofs.Common.{refl, ap, sym, ◌∙◌, arith, subst}
use Rattle.std.proofs.lemmas.Grind.{common_steps}
use Rattle.std.proofs.lemmas.List.{reverse-append}
use Rattle.std.specs.Map.{lookup}
use Rattle.p4_consts.specs.Numbered.{IsLatest}

same : (n k : ℕ) → (n == k) ≡ true → n ≡ k
same n k h = grind (arith, common_steps)

none : {X : Type 0} {x : X} → None ≡ Some x → ⊥
none h = grind (arith, common_steps)

module _ {V : Type 0} where
  get_end : (es : List (ℕ × V)) (e : ℕ × V) → slice_get (es ++ e ∷ []) (length es) ≡ Some e
  get_end [] e = refl
  get_end (d ∷ es) e = get_end es e

  get_before : (es : List (ℕ × V)) (e d : ℕ × V) (i : ℕ) → slice_get es i ≡ Some d → slice_get (es ++ e ∷ []) i ≡ Some d
  get_before (x ∷ es) e d zero h = h
  get_before (x ∷ es) e d (suc i) h = get_before es e d i h
  get_before [] e d i h = absurd (none h)

  -- the look-up behind one more
  looked_up : (es : List (ℕ × V)) (n : ℕ) (v : V) (k : ℕ) →
      lookup (λ m. m == k) (reverse (es ++ (n, v) ∷ [])) ≡ cond (n == k) (Some v) (lookup (λ m. m == k) (reverse es))
  looked_up es n v k = ap (lookup (λ m. m == k)) (reverse-append es ((n, v) ∷ []))

  latest_same : (es : List (ℕ × V)) (n : ℕ) (v : V) (k : ℕ) (b : Bool) → (n == k) ≡ b → (place : Option ℕ) →
      IsLatest es k place → IsLatest (es ++ (n, v) ∷ []) k (cond b (Some (length es)) place)
  latest_same es n v k true e place h =
      (v, get_end es (n, v) ∙ ap (λ m. Some (m, v)) (same n k e), looked_up es n v k ∙ ap (λ b. cond b (Some v) (lookup (λ m. m == k) (reverse es))) e)
  latest_same es n v k false e None h = looked_up es n v k ∙ ap (λ b. cond b (Some v) (lookup (λ m. m == k) (reverse es))) e ∙ h
  latest_same es n v k false e (Some i) h =
      (h.0, get_before es (n, v) (k, h.0) i h.1, looked_up es n v k ∙ ap (λ b. cond b (Some v) (lookup (λ m. m == k) (reverse es))) e ∙ h.2)

  pub latest_added : (es : List (ℕ × V)) (n : ℕ) (v : V) (k : ℕ) (place : Option ℕ) (end : ℕ) → end ≡ length es → IsLatest es k place →
      IsLatest (es ++ (n, v) ∷ []) k (cond (n == k) (Some end) place)
  latest_added es n v k place end e h = subst (λ m. IsLatest (es ++ (n, v) ∷ []) k (cond (n == k) (Some m) place)) (sym e) (latest_same es n v k (n == k) refl place h)
