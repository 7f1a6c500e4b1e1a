-- What refuses a cube: a literal that those before it set, and a conflict under fewer literals.
use Rattle.std.proofs.Common.{true, false, ◌≡◌, ◌≢◌, ℕ, ◌+◌, ◌-◌, ◌<◌, ◌≤◌, ◌⊎◌, List, [], ◌∷◌, ◌++◌, zero, suc, add-one, below_more, length, get_or, take, drop, inl, inr, refl, ap, sym, ◌∙◌, subst, arith, length-append}
use Rattle.std.specs.Prelude.{◌↔◌, All, Contains, remove}
use Rattle.std.proofs.Math.Seq.{get_or-append_seam, take-append_seam}
use Rattle.std.proofs.lemmas.Bool.{cases_eq, cases_lt}
use Rattle.std.proofs.lemmas.Option.{get_or_from_slice_get, slice_get_within}
use Rattle.std.proofs.lemmas.List.{get_or-take, get_or-drop, get_or_default, length-take, length-drop, take-append-le, take_more}
use Rattle.std.proofs.lemmas.List.Elements.{All-weaker, Contains-append_left, Contains-append_right, Contains-append_cases}
use Rattle.cnf_core.specs.declared.formula.Lit.{Lit}
use Rattle.cnf_core.specs.Literal.{negation, IsApart}
use Rattle.cnf_core.specs.Propagation.{Sets, Conflicts}
use Rattle.unit_propagation.specs.Units.{IsWithin}
use Rattle.unit_propagation.specs.Propagation.{Propagation, Continues, IsFull, IsRefuted, decisions}
use Rattle.unit_propagation.proofs.ApartLaws.{apart_open}
use Rattle.unit_propagation.proofs.PropagationLaws.{sets_decided, sets_more, conflicts_more, conflicts_cut}
use Rattle.refutation_checker.specs.Derivation.{IsInput}
use Rattle.refutation_checker.specs.Acceptance.{LeavesOpen, IsLeastConflict}
use Rattle.refutation_checker.specs.Deciding.{IsSetUnder, HasSet}
use Rattle.refutation_checker.specs.Cubes.{IsRoot, IsSettled, IsReached, IsLeast}
use Rattle.unit_propagation.proofs.ExtendsLaws.{full_continues}

pub inputs_within : (inputs width : ℕ) (cube : List Lit) → inputs < width → All (λ l. IsInput inputs l.var) cube → IsWithin width cube
inputs_within inputs width cube below are = All-weaker (λ l. IsInput inputs l.var) (λ l. l.var < width) (λ l is. omega arith) cube are

pub remove_last : (rest : List Lit) (l : Lit) → remove (rest ++ l ∷ []) (length rest) ≡ rest
remove_last [] l = refl
remove_last (x ∷ xs) l = ap (λ (ys : List Lit). x ∷ ys) (remove_last xs l)

-- a literal of a front, by its place
abbrev At : ℕ → List Lit → Lit → Type 0
At n xs l = (k : ℕ) × (k < length xs) × (k < n) × (get_or xs k l ≡ l)

front_place : (n : ℕ) (xs : List Lit) (l : Lit) → Contains (take n xs) l → At n xs l
front_place n xs l (k, inside, at) =
    let size = length-take n xs in
    let below : k < n = omega arith in
    (k, omega arith, below, sym (get_or-take n xs k l below) ∙ at)

pub front_within : (n : ℕ) (xs : List Lit) (l : Lit) → Contains (take n xs) l → Contains xs l
front_within n xs l h = let place = front_place n xs l h in (place.0, place.1, place.3)

-- a literal at a place of the front
in_front : (n : ℕ) (xs : List Lit) (k : ℕ) (l : Lit) → k < length xs → k < n → get_or xs k l ≡ l → Contains (take n xs) l
in_front n xs k l inside below at = (k, omega (arith, length-take n xs), get_or-take n xs k l below ∙ at)

-- a literal at another place is not removed
others_stay : (xs : List Lit) (j k : ℕ) (l : Lit) → k < length xs → k ≢ j → get_or xs k l ≡ l → Contains (remove xs j) l
others_stay xs j k l inside differs at = elim (cases_lt k j) [
  | inl before ↦ Contains-append_left (take j xs) (drop (suc j) xs) l (in_front j xs k l inside before at)
  | inr past ↦
      let there : suc j + (k - suc j) ≡ k = omega arith in
      Contains-append_right (take j xs) (drop (suc j) xs) l
      (k - suc j, omega (arith, length-drop (suc j) xs), get_or-drop (suc j) xs (k - suc j) l ∙ ap (λ (i : ℕ). get_or xs i l) there ∙ at)
]

-- a front that does not reach the last literal has none but those before it
front_before_last : (n : ℕ) (rest : List Lit) (last l : Lit) → n ≤ length rest → Contains (take n (rest ++ last ∷ [])) l → Contains rest l
front_before_last n rest last l short h = front_within n rest l (subst (λ (xs : List Lit). Contains xs l) (take-append-le n rest (last ∷ []) short) h)

-- the literals but the last do not conflict
pub rest_free : (clauses : List (List Lit)) (cube : List Lit) (least : IsLeast clauses cube) → Conflicts clauses least.last.0 → ⊥
rest_free clauses cube least conflicts =
    let rest = least.last.0 in
    let l = least.last.1 in
    let parts = least.last.2 in
    least.needed (length rest) (omega (arith, ap length parts, length-append rest (l ∷ [])))
    (subst (Conflicts clauses) (sym (ap (λ (c : List Lit). remove c (length rest)) parts ∙ remove_last rest l)) conflicts)

-- a conflict under literals before the last
pub front_refuses : (clauses : List (List Lit)) (cube decided : List Lit) (n : ℕ) → n < length cube → ((k : Lit) → Contains decided k → Contains (take n cube) k) →
    Conflicts clauses decided → IsLeast clauses cube → ⊥
front_refuses clauses cube decided n short within conflicts least =
    let rest = least.last.0 in
    let l = least.last.1 in
    let parts = least.last.2 in
    let few : n ≤ length rest = omega (arith, ap length parts, length-append rest (l ∷ [])) in
    rest_free clauses cube least
    (conflicts_more clauses decided rest (λ k stands. front_before_last n rest l k few (subst (λ (c : List Lit). Contains (take n c) k) parts (within k stands))) conflicts)

-- a literal that those before it set is not needed
set_refuses : (clauses : List (List Lit)) (cube decided : List Lit) (j : ℕ) (l : Lit) → j < length cube → get_or cube j l ≡ l → ((k : Lit) → Contains decided k → Contains (take j cube) k) →
    Sets clauses decided l → IsLeast clauses cube → ⊥
set_refuses clauses cube decided j l inside at within sets least = least.needed j inside (conflicts_cut clauses cube (remove cube j) all least.conflict) where
  here : Sets clauses (remove cube j) l
  here = sets_more clauses decided (remove cube j) l (λ k stands. Contains-append_left (take j cube) (drop (suc j) cube) k (within k stands)) sets

  all : (k : Lit) → Contains cube k → Sets clauses (remove cube j) k
  all k (i, below, is) = elim (cases_eq i j) [
    | inl same ↦ subst (Sets clauses (remove cube j)) (sym at ∙ read l k ∙ ap (λ (n : ℕ). get_or cube n k) (sym same) ∙ is) here
    | inr differs ↦ sets_decided clauses (remove cube j) k (others_stay cube j i k below differs is)
  ] where
    read : (d e : Lit) → get_or cube j d ≡ get_or cube j e
    read d e = get_or_default cube j d e inside

-- a literal that those before it rule out
refuted_refuses : (clauses : List (List Lit)) (cube decided : List Lit) (j : ℕ) (l : Lit) → j < length cube → get_or cube j l ≡ l → ((k : Lit) → Contains decided k → Contains (take j cube) k) →
    IsRefuted clauses decided l → IsLeast clauses cube → ⊥
refuted_refuses clauses cube decided j l inside at within refuted least = elim (cases_lt (suc j) (length cube)) [
  | inl before ↦ elim refuted.why [
    | inl decided_other ↦ twice (front_place j cube (negation l) (within (negation l) decided_other))
    | inr conflicts ↦ front_refuses clauses cube (decided ++ l ∷ []) (suc j) before with_it conflicts least
  ]
  | inr is_last ↦ last_open is_last
] where
  with_it : (k : Lit) → Contains (decided ++ l ∷ []) k → Contains (take (suc j) cube) k
  with_it k stands = elim (Contains-append_cases decided (l ∷ []) k stands) [
    | inl earlier ↦ longer (front_place j cube k (within k earlier))
    | inr (zero_place, below, is) ↦ in_front (suc j) cube j k inside (omega arith) (get_or_default cube j k l inside ∙ at ∙ one zero_place below is)
  ] where
    longer : At j cube k → Contains (take (suc j) cube) k
    longer (i, here, small, is) = in_front (suc j) cube i k here (omega arith) is

    one : (i : ℕ) → i < 1 → get_or (l ∷ []) i k ≡ k → l ≡ k
    one zero small is = is
    one (suc i) small is = absurd (omega arith)

  twice : At j cube (negation l) → ⊥
  twice (i, here, below, is) = least.apart i j l below inside (ap (λ (x : Lit). x.var) (get_or_default cube i l (negation l) here ∙ is ∙ refl) ∙ ap (λ (x : Lit). x.var) (sym at))

  last_open : length cube ≤ suc j → ⊥
  last_open past =
      let rest = least.last.0 in
      let last = least.last.1 in
      let parts = least.last.2 in
      let place : j ≡ length rest = omega (arith, ap length parts, length-append rest (last ∷ []), past, inside) in
      let l_is : last ≡ l =
      sym (get_or-append_seam rest last [] l) ∙ ap (λ (n : ℕ). get_or (rest ++ last ∷ []) n l) (sym place) ∙ ap (λ (c : List Lit). get_or c j l) (sym parts) ∙ at in
      least.last.3.1 (subst (λ (x : Lit). Sets clauses rest (negation x)) (sym l_is)
      (sets_more clauses decided rest (negation l)
      (λ k stands. front_before_last j rest last k (omega arith) (subst (λ (c : List Lit). Contains (take j c) k) parts (within k stands))) refuted.sets))

pub is_set_refuses : (clauses : List (List Lit)) (cube decided : List Lit) (j : ℕ) (l : Lit) → j < length cube → get_or cube j l ≡ l → ((k : Lit) → Contains decided k → Contains (take j cube) k) →
    IsSetUnder clauses decided l → IsLeast clauses cube → ⊥
is_set_refuses clauses cube decided j l inside at within (inl sets) = set_refuses clauses cube decided j l inside at within sets
is_set_refuses clauses cube decided j l inside at within (inr refuted) = refuted_refuses clauses cube decided j l inside at within refuted

-- one of the literals after a place is set by those before it
pub has_set_refuses : (clauses : List (List Lit)) (cube : List Lit) (place : ℕ) → HasSet clauses (take place cube) (drop (place + 1) cube) → IsLeast clauses cube → ⊥
has_set_refuses clauses cube place (k, l, at, is_set) =
    let after = drop (place + 1) cube in
    let size = length-drop (place + 1) cube in
    let k_inside = slice_get_within after k l at in
    let j = place + 1 + k in
    let there : get_or cube j l ≡ l = sym (get_or-drop (place + 1) cube k l) ∙ get_or_from_slice_get after k l l at in
    is_set_refuses clauses cube (take place cube ++ take k after) j l (omega arith) there within is_set where
      within : (x : Lit) → Contains (take place cube ++ take k (drop (place + 1) cube)) x → Contains (take (place + 1 + k) cube) x
      within x stands = elim (Contains-append_cases (take place cube) (take k (drop (place + 1) cube)) x stands) [
        | inl earlier ↦ before (front_place place cube x earlier)
        | inr later ↦ between (front_place k (drop (place + 1) cube) x later)
      ] where
        before : At place cube x → Contains (take (place + 1 + k) cube) x
        before (i, here, below, is) = in_front (place + 1 + k) cube i x here (omega arith) is

        between : At k (drop (place + 1) cube) x → Contains (take (place + 1 + k) cube) x
        between (i, here, below, is) =
            let size = length-drop (place + 1) cube in
            in_front (place + 1 + k) cube (place + 1 + i) x (omega arith) (omega arith) (sym (get_or-drop (place + 1) cube i x) ∙ is)

-- what is left without the literal at a place
pub without : (cube decided after : List Lit) (place : ℕ) → decided ≡ take place cube → after ≡ drop (place + 1) cube → decided ++ after ≡ remove cube place
without cube decided after place before behind =
    ap (λ (ds : List Lit). ds ++ after) before ∙ ap (λ (ls : List Lit). take place cube ++ ls) (behind ∙ ap (λ (n : ℕ). drop n cube) (add-one place))

-- the others conflict without the literal at a place, or one of those after it is set
pub without_refuses : (clauses : List (List Lit)) (cube decided after : List Lit) (place : ℕ) → place < length cube → decided ≡ take place cube → after ≡ drop (place + 1) cube →
    HasSet clauses decided after ⊎ Conflicts clauses (decided ++ after) → IsLeast clauses cube → ⊥
without_refuses clauses cube decided after place inside before behind (inl has) =
    has_set_refuses clauses cube place (subst (λ (ds : List Lit). HasSet clauses ds (drop (place + 1) cube)) before (subst (HasSet clauses decided) behind has))
without_refuses clauses cube decided after place inside before behind (inr conflicts) = λ least.
    least.needed place inside (subst (Conflicts clauses) (without cube decided after place before behind) conflicts)

-- the front with one literal more
pub front_more : (cube decided : List Lit) (place : ℕ) (l : Lit) → place < length cube → get_or cube place l ≡ l → decided ≡ take place cube → decided ++ l ∷ [] ≡ take (place + 1) cube
front_more cube decided place l inside at before =
    ap (λ (ds : List Lit). ds ++ l ∷ []) before ∙ ap (λ (x : Lit). take place cube ++ x ∷ []) (sym at) ∙ sym (take_more cube place l inside)

-- a literal that is set, or conflicts, before the last
pub next_refuses : (clauses : List (List Lit)) (cube decided : List Lit) (place : ℕ) (l : Lit) → place + 1 < length cube → get_or cube place l ≡ l → decided ≡ take place cube →
    IsSetUnder clauses decided l ⊎ Conflicts clauses (decided ++ l ∷ []) → IsLeast clauses cube → ⊥
next_refuses clauses cube decided place l inside at before (inl is_set) =
    is_set_refuses clauses cube decided place l (omega arith) at (λ k stands. subst (λ (ds : List Lit). Contains ds k) before stands) is_set
next_refuses clauses cube decided place l inside at before (inr conflicts) =
    front_refuses clauses cube (decided ++ l ∷ []) (place + 1) inside (λ k stands. subst (λ (ds : List Lit). Contains ds k) whole stands) conflicts where
      whole : decided ++ l ∷ [] ≡ take (place + 1) cube
      whole = front_more cube decided place l (omega arith) at before

-- one literal more is decided
pub reached_next : (p q : Propagation) (cube : List Lit) (place : ℕ) (l : Lit) → IsReached p cube place → place < length cube → get_or cube place l ≡ l → q.clauses ≡ p.clauses →
    decisions q ≡ decisions p ++ l ∷ [] → IsFull q q → LeavesOpen p.clauses (decisions p) l → (Conflicts p.clauses (decisions p ++ l ∷ []) → ⊥) →
    (Conflicts p.clauses (remove cube place) → ⊥) → IsReached q cube (place + 1)
reached_next p q cube place l h inside at same decides full leaves none needed = record {
  decides = decides ∙ whole;
  full = full;
  apart = subst IsApart more (apart_open (take place cube) l h.apart (
    (λ stands. leaves.0 (sets_decided p.clauses (decisions p) l (subst (λ (ds : List Lit). Contains ds l) (sym h.decides) stands))),
    (λ stands. leaves.1 (sets_decided p.clauses (decisions p) (negation l) (subst (λ (ds : List Lit). Contains ds (negation l)) (sym h.decides) stands))),
  ));
  no_conflict = λ conflicts. none (subst (λ (cs : List (List Lit)). Conflicts cs (decisions p ++ l ∷ [])) same (subst (Conflicts q.clauses) (sym whole) conflicts));
  needed = λ k below conflicts. below_more (λ (j : ℕ). Conflicts p.clauses (remove cube j) → ⊥) place h.needed needed k below
      (subst (λ (cs : List (List Lit)). Conflicts cs (remove cube k)) same conflicts);
} where
  whole : decisions p ++ l ∷ [] ≡ take (place + 1) cube
  whole = front_more cube (decisions p) place l inside at h.decides

  more : take place cube ++ l ∷ [] ≡ take (place + 1) cube
  more = front_more cube (take place cube) place l inside at refl

-- nothing is decided yet
pub reached_none : (p : Propagation) (cube : List Lit) → IsRoot p → IsReached p cube 0
reached_none p cube h = record {
  decides = h.decides;
  full = h.full;
  apart = λ i j d below inside. absurd (omega arith);
  no_conflict = h.no_conflict;
  needed = λ k below. absurd (omega arith);
}

-- the literals but the last are decided
decides_rest : (p : Propagation) (cube rest : List Lit) (l : Lit) (place : ℕ) → IsReached p cube place → place ≡ length rest → cube ≡ rest ++ l ∷ [] → take place cube ≡ rest
decides_rest p cube rest l place h at parts = ap (λ (n : ℕ). take n cube) at ∙ ap (take (length rest)) parts ∙ take-append_seam rest (l ∷ [])

pub least_ends : (p : Propagation) (cube rest : List Lit) (l : Lit) (place : ℕ) → IsReached p cube place → place ≡ length rest → cube ≡ rest ++ l ∷ [] →
    LeavesOpen p.clauses (decisions p) l → Conflicts p.clauses (decisions p ++ l ∷ []) → IsLeast p.clauses cube
least_ends p cube rest l place h at parts leaves conflicts = record {
  apart = subst IsApart (sym parts) (apart_open rest l (subst IsApart front h.apart) (
    (λ stands. leaves.0 (sets_decided p.clauses (decisions p) l (subst (λ (ds : List Lit). Contains ds l) (sym before) stands))),
    (λ stands. leaves.1 (sets_decided p.clauses (decisions p) (negation l) (subst (λ (ds : List Lit). Contains ds (negation l)) (sym before) stands))),
  ));
  conflict = subst (Conflicts p.clauses) (ap (λ (ds : List Lit). ds ++ l ∷ []) before ∙ sym parts) conflicts;
  needed = λ i inside. elim (cases_lt i place) [
    | inl earlier ↦ h.needed i earlier
    | inr is_last ↦
        let there : i ≡ length rest = omega (arith, ap length parts, length-append rest (l ∷ [])) in
        λ again. h.no_conflict (subst (Conflicts p.clauses) (ap (λ (n : ℕ). remove cube n) there ∙ ap (λ (c : List Lit). remove c (length rest)) parts ∙ remove_last rest l ∙ sym front) again)
  ];
  last = (rest, l, parts, subst (λ (ds : List Lit). LeavesOpen p.clauses ds l) before leaves);
} where
  front : take place cube ≡ rest
  front = decides_rest p cube rest l place h at parts

  before : decisions p ≡ rest
  before = h.decides ∙ front

-- the last literal is set, or does not conflict
pub last_refuses : (p : Propagation) (cube rest : List Lit) (l : Lit) (place : ℕ) → IsReached p cube place → place ≡ length rest → cube ≡ rest ++ l ∷ [] →
    IsSetUnder p.clauses (decisions p) l ⊎ (Conflicts p.clauses (decisions p ++ l ∷ []) → ⊥) → IsLeast p.clauses cube → ⊥
last_refuses p cube rest l place h at parts (inl is_set) =
    is_set_refuses p.clauses cube (decisions p) place l (omega (arith, ap length parts, length-append rest (l ∷ [])))
    (ap (λ (c : List Lit). get_or c place l) parts ∙ ap (λ (n : ℕ). get_or (rest ++ l ∷ []) n l) at ∙ get_or-append_seam rest l [] l)
    (λ k stands. subst (λ (ds : List Lit). Contains ds k) h.decides stands) is_set
last_refuses p cube rest l place h at parts (inr none) = λ least.
    none (subst (Conflicts p.clauses) (parts ∙ ap (λ (ds : List Lit). ds ++ l ∷ []) (sym (h.decides ∙ decides_rest p cube rest l place h at parts))) least.conflict)

-- a conflict under no decision refuses each cube
pub conflict_refuses : (clauses : List (List Lit)) (cube : List Lit) → Conflicts clauses [] → IsLeast clauses cube → ⊥
conflict_refuses clauses cube conflicts least =
    rest_free clauses cube least (conflicts_more clauses [] least.last.0 (λ k stands. none k stands) conflicts) where
      none : (k : Lit) → Contains [] k → Contains least.last.0 k
      none k (i, inside, at) = absurd (omega arith)

pub least_of : (inputs : ℕ) (clauses : List (List Lit)) (cube : List Lit) → IsLeastConflict inputs clauses cube → IsLeast clauses cube
least_of inputs clauses cube h = record { apart = h.apart; conflict = h.conflict; needed = h.needed; last = h.last }

-- the rule for cubes is that of a least conflict over inputs
pub least_conflict : (inputs : ℕ) (clauses : List (List Lit)) (cube : List Lit) → All (λ l. IsInput inputs l.var) cube → IsLeast clauses cube ↔ IsLeastConflict inputs clauses cube
least_conflict inputs clauses cube are = (onward, least_of inputs clauses cube) where
  onward : IsLeast clauses cube → IsLeastConflict inputs clauses cube
  onward h = record { decides_inputs = are; apart = h.apart; conflict = h.conflict; needed = h.needed; last = h.last }

-- propagation under no decision
pub settled_conflict : (p q : Propagation) → Continues p q → decisions p ≡ [] → Conflicts p.clauses (decisions p) → IsSettled q true
settled_conflict p q h none conflicts = record {
  root = λ no. absurd (cc);
  conflicts = λ _. subst (λ (cs : List (List Lit)). Conflicts cs []) (sym h.clauses) (subst (Conflicts p.clauses) none conflicts);
}

pub settled_full : (p q : Propagation) → Continues p q → decisions p ≡ [] → IsFull p q → (Conflicts p.clauses (decisions p) → ⊥) → IsSettled q false
settled_full p q h none full no_conflict = record {
  root = λ _. record {
    decides = h.decides ∙ none;
    full = full_continues p q h full;
    no_conflict = λ conflicts. no_conflict (subst (Conflicts p.clauses) (sym none) (subst (λ (cs : List (List Lit)). Conflicts cs []) h.clauses conflicts));
  };
  conflicts = λ yes. absurd (cc);
}
