-- Clauses whose variables are renamed one to one: propagation sets the renamed literals, and hints go on as they did.
use Rattle.std.proofs.Common.{◌≡◌, ◌≢◌, ℕ, ◌-◌, ◌<◌, ◌⊎◌, cond, eqb, List, [], ◌∷◌, ◌++◌, zero, suc, length, get_or, take, drop, map, inl, inr, refl, ap, sym, ◌∙◌, subst, arith}
use Rattle.std.specs.Prelude.{◌↔◌, IsTrue, All, Contains, remove}
use Rattle.std.proofs.lemmas.Bool.{cases_eq, eq-eqb, ne_eqb}
use Rattle.std.proofs.lemmas.Option.{get_or_from_slice_get, slice_get_read, slice_get_within}
use Rattle.std.proofs.lemmas.List.{get_or_default, get_or-map, length-map, map-append}
use Rattle.std.proofs.lemmas.List.Elements.{All-head, All-tail, All-map, All-push, All-take, All-drop, All-append, All-contains, Contains-append_right, Contains-get_or, Contains-push}
use Rattle.std.proofs.Math.Seq.{take-append_seam}
use Rattle.cnf_core.specs.declared.formula.Lit.{Lit}
use Rattle.cnf_core.specs.Literal.{negation, LitSet, IsApart}
use Rattle.cnf_core.specs.Propagation.{IsClosed, Leaves, Sets, Conflicts}
use Rattle.unit_propagation.specs.Units.{IsFalse, IsUnit, IsWithin}
use Rattle.refutation_checker.specs.Variables.{renamed}
use Rattle.refutation_checker.specs.Hints.{IsNumbered, HintsConflict}
use Rattle.refutation_checker.specs.Cubes.{IsLeast}

-- numbers below the width have different names
abbrev pub IsOneToOne : ℕ → (ℕ → ℕ) → Type 0
IsOneToOne width f = (a b : ℕ) → a < width → b < width → f a ≡ f b → a ≡ b

-- the number below the width that has the name
abbrev found : (ℕ → ℕ) → ℕ → ℕ → ℕ
found f zero name = 0
found f (suc n) name = cond (eqb (f n) name) n (found f n name)

found_name : (f : ℕ → ℕ) (width a : ℕ) → IsOneToOne width f → a < width → found f width (f a) ≡ a
found_name f zero a one below = absurd (omega arith)
found_name f (suc n) a one below = elim (cases_eq a n) [
  | inl last ↦ ap (λ t. cond t n (found f n (f a))) (eq-eqb (f n) (f a) (ap f (sym last))) ∙ sym last
  | inr before ↦
      ap (λ t. cond t n (found f n (f a))) (ne_eqb (f n) (f a) (λ same. before (one a n below (omega arith) (sym same))))
      ∙ found_name f n a (λ x y x_below y_below. one x y (omega arith) (omega arith)) (omega arith)
]

contains_map : {X Y : Type 0} (h : X → Y) (xs : List X) (x : X) → Contains xs x → Contains (map h xs) (h x)
contains_map h xs x (k, inside, at) = (k, omega (arith, length-map xs h), get_or-map h xs k x (h x) inside ∙ ap h at)

contains_from_map : {X Y : Type 0} (h : X → Y) (xs : List X) (y : Y) → Contains (map h xs) y → (x : X) × Contains xs x × (h x ≡ y)
contains_from_map h [] y (k, inside, at) = absurd (omega arith)
contains_from_map h (x ∷ xs) y (zero, inside, at) = (x, (0, omega arith, refl), at)
contains_from_map h (x ∷ xs) y (suc k, inside, at) =
    let there = contains_from_map h xs y (k, omega arith, at) in
    (there.0, Contains-append_right (x ∷ []) xs there.0 there.1, there.2)

abbrev all_renamed : (ℕ → ℕ) → List (List Lit) → List (List Lit)
all_renamed f clauses = map (map (renamed f)) clauses

back : (f : ℕ → ℕ) (width : ℕ) (l : Lit) → IsOneToOne width f → l.var < width → renamed (found f width) (renamed f l) ≡ l
back f width l one below = ap (λ (v : ℕ). renamed (λ _. v) l) (found_name f width l.var one below)

renamed_same : (f : ℕ → ℕ) (width : ℕ) (k l : Lit) → IsOneToOne width f → k.var < width → l.var < width → renamed f k ≡ renamed f l → k ≡ l
renamed_same f width k l one k_below l_below same = sym (back f width k one k_below) ∙ ap (renamed (found f width)) same ∙ back f width l one l_below

lit_within : (width : ℕ) (lits : List Lit) (l : Lit) → IsWithin width lits → Contains lits l → l.var < width
lit_within width lits l within stands = All-contains (λ (k : Lit). k.var < width) lits l within stands

-- a closed set of the one is a closed set of the other
closed_from : (f : ℕ → ℕ) (width : ℕ) (clauses : List (List Lit)) (decided : List Lit) (set : LitSet) → IsOneToOne width f → All (IsWithin width) clauses → IsWithin width decided →
    IsClosed clauses decided set → IsClosed (all_renamed f clauses) (map (renamed f) decided) (λ k. set (renamed (found f width) k))
closed_from f width clauses decided set one within decided_within closed = record {
  decides = All-map (λ l. IsTrue (set (renamed (found f width) l))) (renamed f) decided (λ k x inside.
      subst (λ (y : Lit). IsTrue (set y)) (sym (back f width (get_or decided k x) one (decided_within k x inside))) (closed.decides k x inside));
  closes = λ clause l stands there leaves. closes clause l (contains_from_map (map (renamed f)) clauses clause stands) there leaves;
} where
  closes : (clause : List Lit) (l : Lit) → (c : List Lit) × Contains clauses c × (map (renamed f) c ≡ clause) → Contains clause l →
      Leaves (λ k. set (renamed (found f width) k)) clause l → IsTrue (set (renamed (found f width) l))
  closes clause l (c, stands, same) there leaves =
      here (contains_from_map (renamed f) c l (subst (λ (x : List Lit). Contains x l) (sym same) there)) (subst (λ (x : List Lit). Leaves (λ k. set (renamed (found f width) k)) x l) (sym same) leaves) where
        all : IsWithin width c
        all = All-contains (IsWithin width) clauses c within stands

        here : (m : Lit) × Contains c m × (renamed f m ≡ l) → Leaves (λ k. set (renamed (found f width) k)) (map (renamed f) c) l → IsTrue (set (renamed (found f width) l))
        here (m, inside, is) leaves =
            subst (λ (y : Lit). IsTrue (set (renamed (found f width) y))) is
            (subst (λ (y : Lit). IsTrue (set y)) (sym (back f width m one (lit_within width c m all inside))) (closed.closes c m stands inside left)) where
              left : Leaves set c m
              left k d below differs =
                  let x = get_or c k d in
                  let x_in = Contains-get_or c k d below in
                  subst (λ (y : Lit). IsTrue (set y)) (back f width (negation x) one (lit_within width c x all x_in))
                  (All-contains (λ y. y ≢ l → IsTrue (set (renamed (found f width) (negation y)))) (map (renamed f) c) (renamed f x) leaves (contains_map (renamed f) c x x_in)
                  (λ e. differs (renamed_same f width x m one (lit_within width c x all x_in) (lit_within width c m all inside) (e ∙ sym is))))

closed_to : (f : ℕ → ℕ) (clauses : List (List Lit)) (decided : List Lit) (set : LitSet) →
    IsClosed (all_renamed f clauses) (map (renamed f) decided) set → IsClosed clauses decided (λ k. set (renamed f k))
closed_to f clauses decided set closed = record {
  decides = λ k x inside. All-contains (λ (l : Lit). IsTrue (set l)) (map (renamed f) decided) (renamed f (get_or decided k x)) closed.decides
      (contains_map (renamed f) decided (get_or decided k x) (Contains-get_or decided k x inside));
  closes = λ clause l stands there leaves. closed.closes (map (renamed f) clause) (renamed f l) (contains_map (map (renamed f)) clauses clause stands) (contains_map (renamed f) clause l there)
      (All-map (λ k. k ≢ renamed f l → IsTrue (set (negation k))) (renamed f) clause (λ k d inside differs. leaves k d inside (λ same. differs (ap (renamed f) same))));
}

sets_renamed : (f : ℕ → ℕ) (width : ℕ) (clauses : List (List Lit)) (decided : List Lit) (l : Lit) → IsOneToOne width f → All (IsWithin width) clauses → IsWithin width decided → l.var < width →
    Sets (all_renamed f clauses) (map (renamed f) decided) (renamed f l) ↔ Sets clauses decided l
sets_renamed f width clauses decided l one within decided_within below = (
  (λ sets set closed. subst (λ (y : Lit). IsTrue (set y)) (back f width l one below) (sets (λ k. set (renamed (found f width) k)) (closed_from f width clauses decided set one within decided_within closed))),
  (λ sets set closed. sets (λ k. set (renamed f k)) (closed_to f clauses decided set closed)),
)

conflicts_renamed : (f : ℕ → ℕ) (width : ℕ) (clauses : List (List Lit)) (decided : List Lit) → IsOneToOne width f → All (IsWithin width) clauses → IsWithin width decided →
    Conflicts (all_renamed f clauses) (map (renamed f) decided) ↔ Conflicts clauses decided
conflicts_renamed f width clauses decided one within decided_within = (onward, from) where
  both : (l : Lit) → l.var < width → Sets (all_renamed f clauses) (map (renamed f) decided) (renamed f l) ↔ Sets clauses decided l
  both l below = sets_renamed f width clauses decided l one within decided_within below

  onward : Conflicts (all_renamed f clauses) (map (renamed f) decided) → Conflicts clauses decided
  onward (k, clause, inside, at, all) = here (contains_from_map (map (renamed f)) clauses clause (k, inside, at)) where
    here : (c : List Lit) × Contains clauses c × (map (renamed f) c ≡ clause) → Conflicts clauses decided
    here (c, (n, below, is), same) = (
      n,
      c,
      below,
      is,
      λ j d j_in.
          let x = get_or c j d in
          let x_in = Contains-get_or c j d j_in in
          (both (negation x) (lit_within width c x (All-contains (IsWithin width) clauses c within (n, below, is)) x_in)).0
          (All-contains (λ l. Sets (all_renamed f clauses) (map (renamed f) decided) (negation l)) (map (renamed f) c) (renamed f x) (subst (All (λ l. Sets (all_renamed f clauses) (map (renamed f) decided) (negation l))) (sym same) all) (contains_map (renamed f) c x x_in)),
    )

  from : Conflicts clauses decided → Conflicts (all_renamed f clauses) (map (renamed f) decided)
  from (k, clause, inside, at, all) =
      let there = contains_map (map (renamed f)) clauses clause (k, inside, at) in (
        there.0,
        map (renamed f) clause,
        there.1,
        there.2,
        All-map (λ l. Sets (all_renamed f clauses) (map (renamed f) decided) (negation l)) (renamed f) clause (λ j d j_in.
            (both (negation (get_or clause j d)) (lit_within width clause (get_or clause j d) (All-contains (IsWithin width) clauses clause within (k, inside, at)) (Contains-get_or clause j d j_in))).1 (all j d j_in)),
      )

-- literals that keep their variable
abbrev pub IsFixed : ℕ → (ℕ → ℕ) → Lit → Type 0
IsFixed width f l = (l.var < width) × (f l.var ≡ l.var)

lit_fixed : (f : ℕ → ℕ) (width : ℕ) (l : Lit) → IsFixed width f l → renamed f l ≡ l
lit_fixed f width l fixed = ap (λ (v : ℕ). renamed (λ _. v) l) fixed.1

pub all_fixed : (f : ℕ → ℕ) (width : ℕ) (lits : List Lit) → All (IsFixed width f) lits → map (renamed f) lits ≡ lits
all_fixed f width [] fixed = refl
all_fixed f width (l ∷ ls) fixed =
    ap (λ (k : Lit). k ∷ map (renamed f) ls) (lit_fixed f width l (All-head (IsFixed width f) l ls fixed))
    ∙ ap (λ (ks : List Lit). l ∷ ks) (all_fixed f width ls (All-tail (IsFixed width f) l ls fixed))

-- what is said of some literals by the one clauses is said by the other
record IsSame (fixed : Lit → Type 0) (a b : List (List Lit)) : Type 0 where
  pub sets : (decided : List Lit) (l : Lit) → All fixed decided → fixed l → Sets a decided l → Sets b decided l
  pub conflicts : (decided : List Lit) → All fixed decided → Conflicts a decided → Conflicts b decided

least_same : (f : ℕ → ℕ) (width : ℕ) (a b : List (List Lit)) (cube : List Lit) → IsSame (IsFixed width f) a b → IsSame (IsFixed width f) b a → All (IsFixed width f) cube → IsLeast a cube → IsLeast b cube
least_same f width a b cube onward from fixed least = record {
  apart = least.apart;
  conflict = onward.conflicts cube fixed least.conflict;
  needed = λ i inside conflicts. least.needed i inside (from.conflicts (remove cube i)
      (All-append (IsFixed width f) (take i cube) (drop (suc i) cube) (All-take (IsFixed width f) i cube fixed) (All-drop (IsFixed width f) (suc i) cube fixed)) conflicts);
  last = (
    rest,
    l,
    least.last.2,
    (
      (λ sets. least.last.3.0 (from.sets rest l rest_fixed l_fixed sets)),
      (λ sets. least.last.3.1 (from.sets rest (negation l) rest_fixed l_fixed sets)),
    ),
  );
} where
  rest : List Lit
  rest = least.last.0

  l : Lit
  l = least.last.1

  parts : All (IsFixed width f) (rest ++ l ∷ [])
  parts = subst (All (IsFixed width f)) least.last.2 fixed

  rest_fixed : All (IsFixed width f) rest
  rest_fixed = subst (All (IsFixed width f)) (take-append_seam rest (l ∷ [])) (All-take (IsFixed width f) (length rest) (rest ++ l ∷ []) parts)

  l_fixed : IsFixed width f l
  l_fixed = All-contains (IsFixed width f) (rest ++ l ∷ []) l parts (Contains-push rest l)

fixed_within : (f : ℕ → ℕ) (width : ℕ) (lits : List Lit) → All (IsFixed width f) lits → IsWithin width lits
fixed_within f width lits fixed k d inside = (fixed k d inside).0

renamed_from : (f : ℕ → ℕ) (width : ℕ) (clauses : List (List Lit)) → IsOneToOne width f → All (IsWithin width) clauses → IsSame (IsFixed width f) clauses (all_renamed f clauses)
renamed_from f width clauses one within = record {
  sets = λ decided l fixed l_fixed sets.
      subst (Sets (all_renamed f clauses) decided) (lit_fixed f width l l_fixed) (subst (λ (ds : List Lit). Sets (all_renamed f clauses) ds (renamed f l)) (all_fixed f width decided fixed)
      ((sets_renamed f width clauses decided l one within (fixed_within f width decided fixed) l_fixed.0).1 sets));
  conflicts = λ decided fixed conflicts. subst (Conflicts (all_renamed f clauses)) (all_fixed f width decided fixed)
      ((conflicts_renamed f width clauses decided one within (fixed_within f width decided fixed)).1 conflicts);
}

renamed_to : (f : ℕ → ℕ) (width : ℕ) (clauses : List (List Lit)) → IsOneToOne width f → All (IsWithin width) clauses → IsSame (IsFixed width f) (all_renamed f clauses) clauses
renamed_to f width clauses one within = record {
  sets = λ decided l fixed l_fixed sets.
      (sets_renamed f width clauses decided l one within (fixed_within f width decided fixed) l_fixed.0).0
      (subst (λ (ds : List Lit). Sets (all_renamed f clauses) ds (renamed f l)) (sym (all_fixed f width decided fixed)) (subst (Sets (all_renamed f clauses) decided) (sym (lit_fixed f width l l_fixed)) sets));
  conflicts = λ decided fixed conflicts. (conflicts_renamed f width clauses decided one within (fixed_within f width decided fixed)).0
      (subst (Conflicts (all_renamed f clauses)) (sym (all_fixed f width decided fixed)) conflicts);
}

-- a cube whose variables keep their names is a least conflict of the one clauses where it is one of the other
pub least_renamed : (f : ℕ → ℕ) (width : ℕ) (clauses : List (List Lit)) (cube : List Lit) → IsOneToOne width f → All (IsWithin width) clauses → All (IsFixed width f) cube →
    IsLeast clauses cube ↔ IsLeast (all_renamed f clauses) cube
least_renamed f width clauses cube one within fixed =
    let to = renamed_to f width clauses one within in
    let from = renamed_from f width clauses one within in
    (least_same f width clauses (all_renamed f clauses) cube from to fixed, least_same f width (all_renamed f clauses) clauses cube to from fixed)

-- no variable stands twice under the one names where none does under the other
pub apart_renamed : (f : ℕ → ℕ) (width : ℕ) (lits : List Lit) → IsOneToOne width f → IsWithin width lits → IsApart (map (renamed f) lits) ↔ IsApart lits
apart_renamed f width lits one within = (onward, from) where
  onward : IsApart (map (renamed f) lits) → IsApart lits
  onward apart i j d below inside same =
      let size = length-map lits (renamed f) in
      apart i j d below (omega arith)
      (ap (λ (l : Lit). l.var) (get_or-map (renamed f) lits i d d (omega arith)) ∙ ap f same ∙ sym (ap (λ (l : Lit). l.var) (get_or-map (renamed f) lits j d d inside)))

  from : IsApart lits → IsApart (map (renamed f) lits)
  from apart i j d below inside same =
      let size = length-map lits (renamed f) in
      let j_in : j < length lits = omega arith in
      let i_in : i < length lits = omega arith in
      apart i j d below j_in (one (get_or lits i d).var (get_or lits j d).var (within i d i_in) (within j d j_in)
      (sym (ap (λ (l : Lit). l.var) (get_or-map (renamed f) lits i d d i_in)) ∙ same ∙ ap (λ (l : Lit). l.var) (get_or-map (renamed f) lits j d d j_in)))

stands_back : (f : ℕ → ℕ) (width : ℕ) (lits : List Lit) (l : Lit) → IsOneToOne width f → IsWithin width lits → l.var < width → Contains (map (renamed f) lits) (renamed f l) → Contains lits l
stands_back f width lits l one within below stands =
    let there = contains_from_map (renamed f) lits (renamed f l) stands in
    subst (Contains lits) (renamed_same f width there.0 l one (lit_within width lits there.0 within there.1) below there.2) there.1

unit_renamed : (f : ℕ → ℕ) (width : ℕ) (assigned clause : List Lit) (l : Lit) → IsOneToOne width f → IsWithin width assigned → IsWithin width clause →
    IsUnit assigned clause l → IsUnit (map (renamed f) assigned) (map (renamed f) clause) (renamed f l)
unit_renamed f width assigned clause l one within clause_within unit =
    let below = lit_within width clause l clause_within unit.stands in
    record {
      stands = contains_map (renamed f) clause l unit.stands;
      is_open = ((λ stands. unit.is_open.0 (stands_back f width assigned l one within below stands)), (λ stands. unit.is_open.1 (stands_back f width assigned (negation l) one within below stands)));
      alone = All-map (λ k. k ≢ renamed f l → IsFalse (map (renamed f) assigned) k) (renamed f) clause
          (λ k d inside differs. contains_map (renamed f) assigned (negation (get_or clause k d)) (unit.alone k d inside (λ same. differs (ap (renamed f) same))));
    }

unit_from : (f : ℕ → ℕ) (width : ℕ) (assigned clause : List Lit) (l : Lit) → IsOneToOne width f → IsWithin width assigned → IsWithin width clause → l.var < width →
    IsUnit (map (renamed f) assigned) (map (renamed f) clause) (renamed f l) → IsUnit assigned clause l
unit_from f width assigned clause l one within clause_within below unit = record {
  stands = stands_back f width clause l one clause_within below unit.stands;
  is_open = ((λ stands. unit.is_open.0 (contains_map (renamed f) assigned l stands)), (λ stands. unit.is_open.1 (contains_map (renamed f) assigned (negation l) stands)));
  alone = λ k d inside differs.
      let x = get_or clause k d in
      let x_in = Contains-get_or clause k d inside in
      let x_below = lit_within width clause x clause_within x_in in
      stands_back f width assigned (negation x) one within x_below
      (All-contains (λ y. y ≢ renamed f l → IsFalse (map (renamed f) assigned) y) (map (renamed f) clause) (renamed f x) unit.alone (contains_map (renamed f) clause x x_in)
      (λ same. differs (renamed_same f width x l one x_below below same)));
}

false_renamed : (f : ℕ → ℕ) (assigned clause : List Lit) → All (IsFalse assigned) clause → All (IsFalse (map (renamed f) assigned)) (map (renamed f) clause)
false_renamed f assigned clause all =
    All-map (IsFalse (map (renamed f) assigned)) (renamed f) clause (λ k d inside. contains_map (renamed f) assigned (negation (get_or clause k d)) (all k d inside))

false_from : (f : ℕ → ℕ) (width : ℕ) (assigned clause : List Lit) → IsOneToOne width f → IsWithin width assigned → IsWithin width clause →
    All (IsFalse (map (renamed f) assigned)) (map (renamed f) clause) → All (IsFalse assigned) clause
false_from f width assigned clause one within clause_within all k d inside =
    let x = get_or clause k d in
    let x_in = Contains-get_or clause k d inside in
    stands_back f width assigned (negation x) one within (lit_within width clause x clause_within x_in)
    (All-contains (IsFalse (map (renamed f) assigned)) (map (renamed f) clause) (renamed f x) all (contains_map (renamed f) clause x x_in))

numbered_contains : (clauses : List (List Lit)) (number : ℕ) (clause : List Lit) → IsNumbered clauses number clause → Contains clauses clause
numbered_contains clauses number clause there =
    (number - 1, slice_get_within clauses (number - 1) clause there.1, get_or_from_slice_get clauses (number - 1) clause clause there.1)

numbered_renamed : (f : ℕ → ℕ) (clauses : List (List Lit)) (number : ℕ) (clause : List Lit) → IsNumbered clauses number clause → IsNumbered (all_renamed f clauses) number (map (renamed f) clause)
numbered_renamed f clauses number clause there =
    let inside = slice_get_within clauses (number - 1) clause there.1 in
    let read = get_or_from_slice_get clauses (number - 1) clause clause there.1 in
    let renamed_read = get_or-map (map (renamed f)) clauses (number - 1) clause (map (renamed f) clause) inside ∙ ap (map (renamed f)) read in
    (there.0, slice_get_read (all_renamed f clauses) (length (all_renamed f clauses)) (number - 1) (map (renamed f) clause) refl (omega (arith, length-map clauses (map (renamed f)))) (sym renamed_read))

numbered_from : (f : ℕ → ℕ) (clauses : List (List Lit)) (number : ℕ) (clause : List Lit) → IsNumbered (all_renamed f clauses) number clause →
    (c : List Lit) × IsNumbered clauses number c × (map (renamed f) c ≡ clause)
numbered_from f clauses number clause there =
    let within = slice_get_within (all_renamed f clauses) (number - 1) clause there.1 in
    let read = get_or_from_slice_get (all_renamed f clauses) (number - 1) clause clause there.1 in
    let size = length-map clauses (map (renamed f)) in
    let inside : number - 1 < length clauses = omega arith in
    let c = get_or clauses (number - 1) [] in
    (c, (there.0, slice_get_read clauses (length clauses) (number - 1) c refl inside (get_or_any inside)), sym (get_or-map (map (renamed f)) clauses (number - 1) [] clause inside) ∙ read) where
      get_or_any : number - 1 < length clauses → get_or clauses (number - 1) [] ≡ get_or clauses (number - 1) (get_or clauses (number - 1) [])
      get_or_any inside = get_or_default clauses (number - 1) [] (get_or clauses (number - 1) []) inside

-- hints conflict over the one names where they do over the other
hints_onward : (f : ℕ → ℕ) (width : ℕ) (clauses : List (List Lit)) (assigned : List Lit) (hints : List ℕ) → IsOneToOne width f → All (IsWithin width) clauses → IsWithin width assigned →
    HintsConflict clauses assigned hints → HintsConflict (all_renamed f clauses) (map (renamed f) assigned) hints
hints_onward f width clauses assigned [] one within assigned_within conflict = conflict
hints_onward f width clauses assigned (hint ∷ hints) one within assigned_within (clause, there, inl falsified) =
    (map (renamed f) clause, numbered_renamed f clauses hint clause there, inl (false_renamed f assigned clause falsified))
hints_onward f width clauses assigned (hint ∷ hints) one within assigned_within (clause, there, inr (l, unit, rest)) =
    let clause_within = All-contains (IsWithin width) clauses clause within (numbered_contains clauses hint clause there) in
    let more = All-push (λ (k : Lit). k.var < width) assigned l assigned_within (lit_within width clause l clause_within unit.stands) in (
      map (renamed f) clause,
      numbered_renamed f clauses hint clause there,
      inr (
        renamed f l,
        unit_renamed f width assigned clause l one assigned_within clause_within unit,
        subst (λ (t : List Lit). HintsConflict (all_renamed f clauses) t hints) (map-append (renamed f) assigned (l ∷ [])) (hints_onward f width clauses (assigned ++ l ∷ []) hints one within more rest),
      ),
    )

-- what a clause says over the one names it says over the other, where the hints after it do
abbrev Says : List (List Lit) → List Lit → List ℕ → List Lit → Type 0
Says clauses assigned hints clause = All (IsFalse assigned) clause ⊎ ((l : Lit) × IsUnit assigned clause l × HintsConflict clauses (assigned ++ l ∷ []) hints)

hint_from : (f : ℕ → ℕ) (width : ℕ) (clauses : List (List Lit)) (assigned : List Lit) (hints : List ℕ) (c : List Lit) → IsOneToOne width f → IsWithin width assigned → IsWithin width c →
    ((l : Lit) → l.var < width → HintsConflict (all_renamed f clauses) (map (renamed f) (assigned ++ l ∷ [])) hints → HintsConflict clauses (assigned ++ l ∷ []) hints) →
    Says (all_renamed f clauses) (map (renamed f) assigned) hints (map (renamed f) c) → Says clauses assigned hints c
hint_from f width clauses assigned hints c one within c_within again (inl falsified) = inl (false_from f width assigned c one within c_within falsified)
hint_from f width clauses assigned hints c one within c_within again (inr (k, unit, rest)) =
    let l = contains_from_map (renamed f) c k unit.stands in
    let below = lit_within width c l.0 c_within l.1 in
    let is_rest = subst (λ (t : List Lit). HintsConflict (all_renamed f clauses) t hints) (sym (map-append (renamed f) assigned (l.0 ∷ [])))
    (subst (λ (x : Lit). HintsConflict (all_renamed f clauses) (map (renamed f) assigned ++ x ∷ []) hints) (sym l.2) rest) in
    inr (l.0, unit_from f width assigned c l.0 one within c_within below (subst (IsUnit (map (renamed f) assigned) (map (renamed f) c)) (sym l.2) unit), again l.0 below is_rest)

hints_from : (f : ℕ → ℕ) (width : ℕ) (clauses : List (List Lit)) (assigned : List Lit) (hints : List ℕ) → IsOneToOne width f → All (IsWithin width) clauses → IsWithin width assigned →
    HintsConflict (all_renamed f clauses) (map (renamed f) assigned) hints → HintsConflict clauses assigned hints
hints_from f width clauses assigned [] one within assigned_within conflict = conflict
hints_from f width clauses assigned (hint ∷ hints) one within assigned_within (clause, there, says) =
    let c = numbered_from f clauses hint clause there in
    let c_within = All-contains (IsWithin width) clauses c.0 within (numbered_contains clauses hint c.0 c.1) in (
      c.0,
      c.1,
      hint_from f width clauses assigned hints c.0 one assigned_within c_within
          (λ l below rest. hints_from f width clauses (assigned ++ l ∷ []) hints one within (All-push (λ (k : Lit). k.var < width) assigned l assigned_within below) rest)
          (subst (Says (all_renamed f clauses) (map (renamed f) assigned) hints) (sym c.2) says),
    )

pub hints_renamed : (f : ℕ → ℕ) (width : ℕ) (clauses : List (List Lit)) (assigned : List Lit) (hints : List ℕ) → IsOneToOne width f → All (IsWithin width) clauses → IsWithin width assigned →
    HintsConflict clauses assigned hints ↔ HintsConflict (all_renamed f clauses) (map (renamed f) assigned) hints
hints_renamed f width clauses assigned hints one within assigned_within =
    (hints_onward f width clauses assigned hints one within assigned_within, hints_from f width clauses assigned hints one within assigned_within)
