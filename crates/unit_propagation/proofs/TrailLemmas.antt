-- The trail: literals that are implied at its end, what is decided, and reasons.
use Rattle.std.proofs.Common.{◌≡◌, ℕ, ◌+◌, ◌<◌, ◌≤◌, false, Option, Some, None, List, [], ◌∷◌, ◌++◌, length, get_or, take, inl, inr, refl, ap, sym, ◌∙◌, subst, arith, length-append, append_assoc}
use Rattle.std.specs.Prelude.{slice_get, Contains}
use Rattle.std.proofs.lemmas.Option.{get_or_from_slice_get}
use Rattle.cnf_core.specs.Literal.{negation}
use Rattle.cnf_core.proofs.Literals.{negation_negation}
use Rattle.unit_propagation.specs.Loose.{IsPickBefore}
use Rattle.std.proofs.lemmas.Bool.{cases_lt}
use Rattle.std.proofs.lemmas.List.{get_or_append_left, get_or_push, length-map, length_push, map-append, take-append-le, take_at, append-nil, get_or-take, length-take-le}
use Rattle.std.proofs.lemmas.List.Elements.{All-push, All-append, All-nil}
use Rattle.cnf_core.specs.declared.formula.Lit.{Lit}
use Rattle.unit_propagation.specs.Units.{IsUnit}
use Rattle.unit_propagation.specs.declared.assignment.Cause.{Cause}
use Rattle.unit_propagation.specs.Trail.{decided, Explains, IsJustified, Implies, reasons_of}

abbrev pub implied_by : ℕ → Cause
implied_by c = record { reason = Some c; ended = false }

pub decided_implied : (trail : List Lit) (reasons : List (Option ℕ)) (l : Lit) (c : ℕ) → length reasons ≡ length trail →
    decided (trail ++ l ∷ []) (reasons ++ Some c ∷ []) ≡ decided trail reasons
decided_implied [] [] l c same = refl
decided_implied [] (r ∷ rs) l c same = absurd (omega arith)
decided_implied (x ∷ xs) [] l c same = absurd (omega arith)
decided_implied (x ∷ xs) (None ∷ rs) l c same = ap (λ (ls : List Lit). x ∷ ls) (decided_implied xs rs l c (omega arith))
decided_implied (x ∷ xs) (Some d ∷ rs) l c same = decided_implied xs rs l c (omega arith)

pub decided_push : (trail : List Lit) (reasons : List (Option ℕ)) (l : Lit) → length reasons ≡ length trail →
    decided (trail ++ l ∷ []) (reasons ++ None ∷ []) ≡ decided trail reasons ++ l ∷ []
decided_push [] [] l same = refl
decided_push [] (r ∷ rs) l same = absurd (omega arith)
decided_push (x ∷ xs) [] l same = absurd (omega arith)
decided_push (x ∷ xs) (None ∷ rs) l same = ap (λ (ls : List Lit). x ∷ ls) (decided_push xs rs l (omega arith))
decided_push (x ∷ xs) (Some d ∷ rs) l same = decided_push xs rs l (omega arith)

-- one literal more, which has no reason or follows by it
pub justified_push : (clauses : List (List Lit)) (trail : List Lit) (reasons : List (Option ℕ)) (l : Lit) (r : Option ℕ) → length reasons ≡ length trail →
    IsJustified clauses trail reasons → ((c : ℕ) → r ≡ Some c → (clause : List Lit) × (slice_get clauses c ≡ Some clause) × IsUnit trail clause l) →
    IsJustified clauses (trail ++ l ∷ []) (reasons ++ r ∷ [])
justified_push clauses trail reasons l r same h last place c d inside is = elim (cases_lt place (length trail)) [
  | inl before ↦
      subst (λ (x : Lit). Explains clauses (trail ++ l ∷ []) place c x) (sym (get_or_append_left trail (l ∷ []) d place before))
      (widen (h place c d before (sym (get_or_append_left reasons (r ∷ []) None place (omega arith)) ∙ is)) before)
  | inr past ↦
      let at : place ≡ length trail = omega (arith, length-append trail (l ∷ [])) in
      let r_is : r ≡ Some c = sym (get_or_push reasons r None place (same ∙ sym at)) ∙ is in
      subst (λ (x : Lit). Explains clauses (trail ++ l ∷ []) place c x) (sym (get_or_push trail l d place (sym at)))
      (end (last c r_is) (take_at trail (l ∷ []) place (sym at)))
] where
  widen : Explains clauses trail place c (get_or trail place d) → place < length trail → Explains clauses (trail ++ l ∷ []) place c (get_or trail place d)
  widen (clause, at, unit) before = (clause, at, subst (λ (t : List Lit). IsUnit t clause (get_or trail place d)) (sym (take-append-le place trail (l ∷ []) (omega arith))) unit)

  end : ((clause : List Lit) × (slice_get clauses c ≡ Some clause) × IsUnit trail clause l) → take place (trail ++ l ∷ []) ≡ trail → Explains clauses (trail ++ l ∷ []) place c l
  end (clause, at, unit) whole = (clause, at, subst (λ (t : List Lit). IsUnit t clause l) (sym whole) unit)

pub implies_none : (clauses : List (List Lit)) (trail : List Lit) (causes : List Cause) → Implies clauses trail causes trail causes
implies_none clauses trail causes = record {
  more = [];
  more_causes = [];
  trail = sym (append-nil trail);
  causes = sym (append-nil causes);
  not_ended = All-nil (λ c. c.ended ≡ false);
  sized = λ same. same;
  decides = λ same. refl;
  justified = λ same h. h;
}

some_same : (a b : ℕ) → Some a ≡ Some b → a ≡ b
some_same a b e = cc

pub implies_one : (clauses : List (List Lit)) (trail : List Lit) (causes : List Cause) (c : ℕ) (clause : List Lit) (l : Lit) → slice_get clauses c ≡ Some clause → IsUnit trail clause l →
    Implies clauses trail causes (trail ++ l ∷ []) (causes ++ implied_by c ∷ [])
implies_one clauses trail causes c clause l at unit = record {
  more = l ∷ [];
  more_causes = implied_by c ∷ [];
  trail = refl;
  causes = refl;
  not_ended = All-push (λ k. k.ended ≡ false) [] (implied_by c) (All-nil (λ k. k.ended ≡ false)) refl;
  sized = λ same. length_push causes (implied_by c) ∙ ap (λ (n : ℕ). n + 1) same ∙ sym (length_push trail l);
  decides = λ same. ap (decided (trail ++ l ∷ [])) (map-append (λ (k : Cause). k.reason) causes (implied_by c ∷ []))
      ∙ decided_implied trail (reasons_of causes) l c (length-map causes (λ (k : Cause). k.reason) ∙ same);
  justified = λ same h. subst (IsJustified clauses (trail ++ l ∷ [])) (sym (map-append (λ (k : Cause). k.reason) causes (implied_by c ∷ [])))
      (justified_push clauses trail (reasons_of causes) l (Some c) (length-map causes (λ (k : Cause). k.reason) ∙ same) h
      (λ d is. (clause, ap (slice_get clauses) (sym (some_same c d is)) ∙ at, unit)));
}

pub implies_then : (clauses : List (List Lit)) (a b e : List Lit) (ac bc ec : List Cause) → Implies clauses a ac b bc → Implies clauses b bc e ec → Implies clauses a ac e ec
implies_then clauses a b e ac bc ec first then = record {
  more = first.more ++ then.more;
  more_causes = first.more_causes ++ then.more_causes;
  trail = then.trail ∙ ap (λ (t : List Lit). t ++ then.more) first.trail ∙ append_assoc a first.more then.more;
  causes = then.causes ∙ ap (λ (t : List Cause). t ++ then.more_causes) first.causes ∙ append_assoc ac first.more_causes then.more_causes;
  not_ended = All-append (λ c. c.ended ≡ false) first.more_causes then.more_causes first.not_ended then.not_ended;
  sized = λ same. then.sized (first.sized same);
  decides = λ same. then.decides (first.sized same) ∙ first.decides same;
  justified = λ same h. then.justified (first.sized same) (first.justified same h);
}

-- the literal at a place falsifies its negation, and none before does
pub pick_at : (trail clause : List Lit) (before place : ℕ) (l m : Lit) → place < before → before ≤ length trail → slice_get trail place ≡ Some l → m ≡ negation l →
    (Contains (take place trail) l → ⊥) → Contains clause m → IsPickBefore trail clause before (record { literal = m; place = place })
pick_at trail clause before place l m earlier inside at is fresh stands = record {
  is_pick = (stands, omega arith, λ h. fresh (subst (Contains (take place trail)) back h));
  earlier = earlier;
  falsified = subst (Contains (take before trail)) (sym back)
      (place, let size = length-take-le before trail inside in omega arith, get_or-take before trail place l earlier ∙ get_or_from_slice_get trail place l l at);
} where
  back : negation m ≡ l
  back = ap negation is ∙ negation_negation l
