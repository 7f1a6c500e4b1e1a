-- What propagation sets and when it conflicts, as the decided literals or the clauses become more.
use Rattle.std.proofs.Common.{◌≡◌, ℕ, Option, Some, None, List, [], ◌∷◌, ◌++◌, length, get_or, inl, inr, ◌⊎◌, ap, sym, ◌∙◌, subst}
use Rattle.std.specs.Prelude.{Bool, All, Any, Contains, IsTrue}
use Rattle.std.proofs.lemmas.List.Elements.{All-contains, Contains-append_left, Contains-get_or, Contains-push}
use Rattle.std.proofs.lemmas.Option.{get_or_from_slice_get, slice_get_within}
use Rattle.cnf_core.specs.declared.formula.Lit.{Lit}
use Rattle.cnf_core.specs.Literal.{negation}
use Rattle.cnf_core.specs.Truth.{IsTrueUnder, Satisfies, SatisfiesAll}
use Rattle.unit_propagation.specs.Propagated.{HasTrueLiterals}
use Rattle.cnf_core.specs.Propagation.{Sets, Conflicts}
use Rattle.cnf_core.proofs.Literals.{lit-cases, negation_negation}
use Rattle.unit_propagation.specs.Trail.{decided, IsJustified, Explains}
use Rattle.unit_propagation.specs.Propagation.{IsRefuted}
use Rattle.unit_propagation.proofs.FixpointLemmas.{reason_cases, decided_contains, are_set}
use Rattle.unit_propagation.proofs.ReadyLemmas.{take_within}

-- a decided literal is set
pub sets_decided : (clauses : List (List Lit)) (decisions : List Lit) (l : Lit) → Contains decisions l → Sets clauses decisions l
sets_decided clauses decisions l stands set closed = All-contains (λ k. IsTrue (set k)) decisions l closed.decides stands

-- decided literals that others set, set nothing that those do not
pub sets_cut : (clauses : List (List Lit)) (few more : List Lit) (l : Lit) → ((k : Lit) → Contains few k → Sets clauses more k) → Sets clauses few l → Sets clauses more l
sets_cut clauses few more l within sets set closed = sets set (record {
  decides = λ k d inside. within (get_or few k d) (Contains-get_or few k d inside) set closed;
  closes = closed.closes;
})

pub conflicts_cut : (clauses : List (List Lit)) (few more : List Lit) → ((k : Lit) → Contains few k → Sets clauses more k) → Conflicts clauses few → Conflicts clauses more
conflicts_cut clauses few more within (k, clause, inside, at, falsified) =
    (k, clause, inside, at, λ i d below. sets_cut clauses few more (negation (get_or clause i d)) within (falsified i d below))

-- more decided literals set no less
pub sets_more : (clauses : List (List Lit)) (few more : List Lit) (l : Lit) → ((k : Lit) → Contains few k → Contains more k) → Sets clauses few l → Sets clauses more l
sets_more clauses few more l within = sets_cut clauses few more l (λ k stands. sets_decided clauses more k (within k stands))

pub conflicts_more : (clauses : List (List Lit)) (few more : List Lit) → ((k : Lit) → Contains few k → Contains more k) → Conflicts clauses few → Conflicts clauses more
conflicts_more clauses few more within = conflicts_cut clauses few more (λ k stands. sets_decided clauses more k (within k stands))

-- more clauses set no less
pub sets_clauses : (clauses more : List (List Lit)) (decisions : List Lit) (l : Lit) → Sets clauses decisions l → Sets (clauses ++ more) decisions l
sets_clauses clauses more decisions l sets set closed = sets set (record {
  decides = closed.decides;
  closes = λ clause k stands. closed.closes clause k (Contains-append_left clauses more clause stands);
})

pub conflicts_clauses : (clauses more : List (List Lit)) (decisions : List Lit) → Conflicts clauses decisions → Conflicts (clauses ++ more) decisions
conflicts_clauses clauses more decisions (k, clause, inside, at, falsified) = with_more (Contains-append_left clauses more clause (k, inside, at)) where
  with_more : Contains (clauses ++ more) clause → Conflicts (clauses ++ more) decisions
  with_more (i, within, is) = (i, clause, within, is, λ j d below. sets_clauses clauses more decisions (negation (get_or clause j d)) (falsified j d below))

-- deciding a literal whose negation a clause implied makes that clause false
conflicts_reason : (clauses : List (List Lit)) (decisions trail : List Lit) (n c : ℕ) (l : Lit) → All (Sets clauses decisions) trail → Explains clauses trail n c (negation l) →
    Conflicts clauses (decisions ++ l ∷ [])
conflicts_reason clauses decisions trail n c l are (clause, at, unit) = (c, clause, slice_get_within clauses c clause at, get_or_from_slice_get clauses c clause clause at, falsified) where
  falsified : All (λ k. Sets clauses (decisions ++ l ∷ []) (negation k)) clause
  falsified i d below = elim (lit-cases (get_or clause i d) (negation l)) [
    | inl same ↦ sets_decided clauses (decisions ++ l ∷ []) (negation (get_or clause i d))
        (subst (Contains (decisions ++ l ∷ [])) (sym (ap negation same ∙ negation_negation l)) (Contains-push decisions l))
    | inr differs ↦ sets_more clauses decisions (decisions ++ l ∷ []) (negation (get_or clause i d)) (λ k. Contains-append_left decisions (l ∷ []) k)
        (All-contains (Sets clauses decisions) trail (negation (get_or clause i d)) are (take_within trail n (negation (get_or clause i d)) (unit.alone i d below differs)))
  ]

-- a literal whose negation is on the trail
pub is_refuted : (clauses : List (List Lit)) (trail : List Lit) (reasons : List (Option ℕ)) (l : Lit) → length reasons ≡ length trail → IsJustified clauses trail reasons →
    Contains trail (negation l) → IsRefuted clauses (decided trail reasons) l
is_refuted clauses trail reasons l same justified (n, inside, at) = record {
  sets = All-contains (Sets clauses (decided trail reasons)) trail (negation l) (are_set clauses trail reasons same justified) (n, inside, at);
  why = why (reason_cases (get_or reasons n None));
} where
  why : (get_or reasons n None ≡ None) ⊎ ((c : ℕ) × (get_or reasons n None ≡ Some c)) → Contains (decided trail reasons) (negation l) ⊎ Conflicts clauses (decided trail reasons ++ l ∷ [])
  why (inl none) = inl (subst (Contains (decided trail reasons)) at (decided_contains trail reasons n (negation l) same inside none))
  why (inr (c, is)) = inr (conflicts_reason clauses (decided trail reasons) trail n c l (are_set clauses trail reasons same justified)
      (subst (Explains clauses trail n c) at (justified n c (negation l) inside is)))

-- literals of the trail are true
satisfies_true : (valuation : List Bool) (trail clause : List Lit) → All (IsTrueUnder valuation) trail → Any (Contains trail) clause → Satisfies valuation clause
satisfies_true valuation trail clause are (k, l, inside, at, stands) = (k, l, inside, at, All-contains (IsTrueUnder valuation) trail l are stands)

pub satisfies_all : (valuation : List Bool) (clauses : List (List Lit)) (trail : List Lit) → All (IsTrueUnder valuation) trail → HasTrueLiterals clauses trail → SatisfiesAll valuation clauses
satisfies_all valuation clauses trail are has k clause inside = satisfies_true valuation trail (get_or clauses k clause) are (has k clause inside)
