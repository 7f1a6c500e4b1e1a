-- What is known of the clauses without two different literals, when the trail grows or is taken back, and with one clause more.
use Rattle.std.proofs.Common.{◌≡◌, ℕ, ◌+◌, ◌<◌, ◌≤◌, ◌∙◌, List, Vec, Global, [], ◌∷◌, ◌++◌, length, get_or, take, inl, inr, ap, sym, subst, arith, length-append}
use Rattle.std.specs.Prelude.{Any, Contains, vec_len}
use Rattle.std.proofs.lemmas.List.{take-append-le, take-take, take_more, length-take, get_or_append_left}
use Rattle.std.proofs.lemmas.List.Elements.{All-weaker, All-take, All-push, All-get_or, Contains-append_left}
use Rattle.cnf_core.specs.declared.formula.Lit.{Lit}
use Rattle.unit_propagation.specs.declared.pair.Pair.{Pair}
use Rattle.unit_propagation.specs.declared.loose.LooseClauses.{LooseClauses}
use Rattle.unit_propagation.specs.Loose.{AreTrue, IsLoose, AreLoose, IsSettled, NotesLoose}
use Rattle.unit_propagation.proofs.ReadyLemmas.{take_within}

wider : (part whole clause : List Lit) → ((x : Lit) → Contains part x → Contains whole x) → Any (Contains part) clause → Any (Contains whole) clause
wider part whole clause within (k, x, inside, at, is) = (k, x, inside, at, within x is)

pub are_true_wider : (clauses : List (List Lit)) (loose : List ℕ) (part whole : List Lit) → ((x : Lit) → Contains part x → Contains whole x) →
    AreTrue clauses loose part → AreTrue clauses loose whole
are_true_wider clauses loose part whole within =
    All-weaker (λ c. (clause : List Lit) → Any (Contains part) (get_or clauses c clause)) (λ c. (clause : List Lit) → Any (Contains whole) (get_or clauses c clause))
    (λ c are clause. wider part whole (get_or clauses c clause) within (are clause)) loose

pub are_true_grows : (clauses : List (List Lit)) (loose : List ℕ) (trail more : List Lit) → AreTrue clauses loose trail → AreTrue clauses loose (trail ++ more)
are_true_grows clauses loose trail more = are_true_wider clauses loose trail (trail ++ more) (λ x. Contains-append_left trail more x)

pub settled_grows : (clauses : List (List Lit)) (trail more : List Lit) (loose : LooseClauses) → IsSettled clauses trail loose → IsSettled clauses (trail ++ more) loose
settled_grows clauses trail more loose s = record {
  within = s.within;
  inside = let before = s.inside in omega (arith, length-append trail more);
  are_true = subst (AreTrue clauses (take loose.settled loose.numbers.items)) (sym (take-append-le loose.reach trail more s.inside)) s.are_true;
}

pub settled_undone : (clauses : List (List Lit)) (trail : List Lit) (loose : LooseClauses) (place : ℕ) → loose.reach ≤ place → IsSettled clauses trail loose →
    IsSettled clauses (take place trail) loose
settled_undone clauses trail loose place kept s = record {
  within = s.within;
  inside = reach_within;
  are_true = subst (AreTrue clauses (take loose.settled loose.numbers.items)) (sym (take-take loose.reach place trail kept)) s.are_true;
} where
  reach_within : loose.reach ≤ length (take place trail)
  reach_within =
      let size = length-take place trail in
      let before = s.inside in
      omega arith

-- all that is on the trail now
pub settled_whole : (clauses : List (List Lit)) (trail : List Lit) (loose : LooseClauses) → IsSettled clauses trail loose → AreTrue clauses (take loose.settled loose.numbers.items) trail
settled_whole clauses trail loose s = are_true_wider clauses (take loose.settled loose.numbers.items) (take loose.reach trail) trail (take_within trail loose.reach) s.are_true

-- the clause at a place of the list
pub loose_at : (clauses : List (List Lit)) (loose : List ℕ) (i n : ℕ) → i < length loose → n ≡ get_or loose i n → AreLoose clauses loose → IsLoose clauses n
loose_at clauses loose i n inside at are = subst (IsLoose clauses) (sym at) (All-get_or (IsLoose clauses) loose i n inside are)

-- the first clause that is not settled
pub next_loose : (clauses : List (List Lit)) (old loose : LooseClauses) (n : ℕ) → loose.numbers ≡ old.numbers → loose.settled < vec_len loose.numbers →
    n ≡ get_or loose.numbers.items loose.settled n → AreLoose clauses old.numbers.items → IsLoose clauses n
next_loose clauses old loose n same inside at are = loose_at clauses loose.numbers.items loose.settled n (let size = loose.numbers.ok.0 in omega arith) at
    (subst (λ (v : Vec ℕ Global). AreLoose clauses v.items) (sym same) are)

-- one clause more is looked at
pub true_push : (clauses : List (List Lit)) (trail : List Lit) (loose : List ℕ) (i n : ℕ) → i < length loose → n ≡ get_or loose i n → AreTrue clauses (take i loose) trail →
    ((clause : List Lit) → Any (Contains trail) (get_or clauses n clause)) → AreTrue clauses (take (i + 1) loose) trail
true_push clauses trail loose i n inside at before here =
    subst (λ (ls : List ℕ). AreTrue clauses ls trail) (sym (take_more loose i n inside))
    (All-push (λ c. (clause : List Lit) → Any (Contains trail) (get_or clauses c clause)) (take i loose) (get_or loose i n) before
    (subst (λ (k : ℕ). (clause : List Lit) → Any (Contains trail) (get_or clauses k clause)) at here))

-- with one clause more, in the list or not
pub settled_more : (clauses : List (List Lit)) (clause : List Lit) (trail : List Lit) (p : Pair) (old new : LooseClauses) → IsSettled clauses trail old →
    AreLoose clauses old.numbers.items → NotesLoose p (length clauses) old.numbers.items new.numbers.items → new.settled ≡ old.settled → new.reach ≡ old.reach →
    IsSettled (clauses ++ clause ∷ []) trail new
settled_more clauses clause trail p old new s are notes same_settled same_reach = record {
  within = let before = s.within in omega (arith, longer);
  inside = let before = s.inside in omega arith;
  are_true = subst (λ (n : ℕ). AreTrue (clauses ++ clause ∷ []) (take n new.numbers.items) (take new.reach trail)) (sym same_settled)
      (subst (λ (n : ℕ). AreTrue (clauses ++ clause ∷ []) (take old.settled new.numbers.items) (take n trail)) (sym same_reach)
      (subst (λ (ls : List ℕ). AreTrue (clauses ++ clause ∷ []) ls (take old.reach trail)) (sym front) widened));
} where
  longer : length old.numbers.items ≤ length new.numbers.items
  longer = elim notes [
    | inl (_, is) ↦ let size = ap length is in omega (arith, length-append old.numbers.items (length clauses ∷ []))
    | inr (_, is) ↦ let size = ap length is in omega arith
  ]

  front : take old.settled new.numbers.items ≡ take old.settled old.numbers.items
  front = elim notes [
    | inl (_, is) ↦ ap (take old.settled) is ∙ take-append-le old.settled old.numbers.items (length clauses ∷ []) s.within
    | inr (_, is) ↦ ap (take old.settled) is
  ]

  widened : AreTrue (clauses ++ clause ∷ []) (take old.settled old.numbers.items) (take old.reach trail)
  widened k d inside e =
      let loose : IsLoose clauses (get_or (take old.settled old.numbers.items) k d) = All-take (IsLoose clauses) old.settled old.numbers.items are k d inside in
      subst (Any (Contains (take old.reach trail))) (sym (get_or_append_left clauses (clause ∷ []) e (get_or (take old.settled old.numbers.items) k d) loose.0)) (s.are_true k d inside e)

-- the same list
pub settled_same : (clauses new_clauses : List (List Lit)) (trail : List Lit) (old new : LooseClauses) → IsSettled clauses trail old → new.numbers.items ≡ old.numbers.items →
    new.settled ≡ old.settled → new.reach ≡ old.reach → new_clauses ≡ clauses → IsSettled new_clauses trail new
settled_same clauses new_clauses trail old new s same same_settled same_reach same_clauses = record {
  within = let before = s.within in let size = ap length same in omega arith;
  inside = let before = s.inside in omega arith;
  are_true = subst (λ (n : ℕ). AreTrue new_clauses (take n new.numbers.items) (take new.reach trail)) (sym same_settled)
      (subst (λ (n : ℕ). AreTrue new_clauses (take old.settled new.numbers.items) (take n trail)) (sym same_reach)
      (subst (λ (ls : List ℕ). AreTrue new_clauses (take old.settled ls) (take old.reach trail)) (sym same)
      (subst (λ (cs : List (List Lit)). AreTrue cs (take old.settled old.numbers.items) (take old.reach trail)) (sym same_clauses) s.are_true)));
}
