-- The variables of a term: they are compared as they are, kept apart and in order, and are what the marked terms name.
use Rattle.std.proofs.Common.{rules, ◌≡◌, ◌≢◌, ℕ, suc, zero, ◌+◌, ◌-◌, ◌<◌, ◌⊎◌, inl, inr, Bool, true, false, List, [], ◌∷◌, ◌++◌, Some, length, slice_get, get_or, nat_eq, refl, sym, ap, ◌∙◌, subst, true≢false, arith}
use Rattle.std.specs.Prelude.{◌↔◌, ◌||◌, if◌then◌else◌, IsTrue, position}
use Rattle.std.specs.List.{AllPairs, Contains, list_any, IsDistinct}
use Rattle.std.specs.List.Sorted.{IsPermutation, IsSorted}
use Rattle.std.specs.Ordering.{is_lt, nat_cmp, ordering_then, MatchOrdering}
use Rattle.std.specs.declared.cmp.Ordering.{Ordering}
use Rattle.std.specs.declared.cmp.Ordering.TheVariants.{Less, Equal, Greater}
use Rattle.std.proofs.lemmas.Bool.{and_parts, eqb-true}
use Rattle.std.proofs.lemmas.Cmp.{ranked}
use Rattle.std.proofs.lemmas.List.Elements.{Contains-append_left, Contains-push_cases}
use Rattle.std.proofs.lemmas.List.Quantifiers.{position-Some}
use Rattle.std.proofs.lemmas.List.Sorted.{IsPermutation-sym, Contains-permutation}
use Rattle.std.proofs.lemmas.Map.Keys.{apart_from_distinct}
use Rattle.std.proofs.lemmas.Option.{slice_get_within, slice_get-get_or}
use Rattle.indexmap.specs.IndexSet.{insert_key}
use Rattle.indexmap.proofs.CallerLemmas.{Contains-insert_key, Contains-list_any}
use Rattle.cnf_core.specs.declared.derivation.Var.{Var}
use Rattle.cnf_core.specs.declared.derivation.Var.TheVariants.{Input, Read}
use Rattle.cnf_core.specs.contracts.derivation.VarPartialEq.TheImpl.{eq-value}
use Rattle.cnf_core.specs.contracts.derivation.VarOrd.TheImpl as var_ord
use Rattle.term_dag.specs.Marks.{IsMarked, AreMarks}
use Rattle.term_dag.specs.Mention.{IsPartOf}
use Rattle.term_dag.specs.Mention.IsPartOf.{own, of_operand}
use Rattle.term_dag.specs.declared.node.Node.{Node}
use Rattle.term_dag.specs.declared.node.Node.TheVariants.{Constant, Input as InputNode, Read as ReadNode, One, Two, Slice, Extend, Choose}
use Rattle.term_dag.specs.declared.node.Term.{Term}
use Rattle.bit_blaster.specs.declared.wire.Wire.TheVariants.{Literal}
use Rattle.bit_blaster.specs.TermWord.{IsWireOfVar}
use Rattle.bit_blaster.specs.Tseitin.{variable}
use Rattle.bit_blaster.specs.Vars.{Mentions, Names, Gains, IsBefore, AreVarsOf}

-- ---- the derived comparisons

abbrev pub are_same : Var → Var → Bool
are_same = (eq-value).it

pub same_var : (x y : Var) → are_same x y ≡ true → x ≡ y
same_var (Input a) (Input b) e = ap Input (eqb-true a b e)
same_var (Read r a) (Read s b) e =
    let h = and_parts (nat_eq r s) (nat_eq a b) e in
    λ i. Read (eqb-true r s h.0 i) (eqb-true a b h.1 i)
same_var x y e = absurd (true≢false (sym e))

pub var_itself : (x : Var) → are_same x x ≡ true
var_itself x = search rules

abbrev pub var_cmp : Var → Var → Ordering
var_cmp = (var_ord.ghosts).cmp

-- a bit that is no less than another, and differs from it, comes after it
number_before : (a b : ℕ) (o : Ordering) → MatchOrdering o (b < a) (b ≡ a) (a < b) → is_lt o ≡ false → (a ≡ b) ⊎ (a < b)
number_before a b Less m e = absurd (true≢false e)
number_before a b Equal m e = inl (sym m)
number_before a b Greater m e = inr m

read_before : (r s a b : ℕ) (o p : Ordering) → MatchOrdering o (s < r) (s ≡ r) (r < s) → MatchOrdering p (b < a) (b ≡ a) (a < b) →
    is_lt (ordering_then o p) ≡ false → (r < s) ⊎ ((r ≡ s) × ((a ≡ b) ⊎ (a < b)))
read_before r s a b Less p m n e = absurd (true≢false e)
read_before r s a b Greater p m n e = inl m
read_before r s a b Equal p m n e = inr (sym m, number_before a b p n e)

pub var_before : (x y : Var) → is_lt (var_cmp y x) ≡ false → x ≢ y → IsBefore x y
var_before (Input a) (Input b) e differs = elim (number_before a b (nat_cmp b a) (ranked b a (nat_cmp b a) refl) e) [
  | inl same ↦ absurd (differs (ap Input same))
  | inr less ↦ less
]
var_before (Input a) (Read s b) e differs = tt
var_before (Read r a) (Input b) e differs = absurd (true≢false e)
var_before (Read r a) (Read s b) e differs =
    elim (read_before r s a b (nat_cmp s r) (nat_cmp b a) (ranked s r (nat_cmp s r) refl) (ranked b a (nat_cmp b a) refl) e) [
      | inl less ↦ inl less
      | inr (same, inl bits) ↦ absurd (differs (λ i. Read (same i) (bits i)))
      | inr (same, inr less) ↦ inr (same, less)
    ]

before_trans : (x y z : Var) → IsBefore x y → IsBefore y z → IsBefore x z
before_trans (Input a) (Input b) (Input c) l m = omega arith
before_trans (Input a) y (Read t c) l m = tt
before_trans (Input a) (Read s b) (Input c) l m = absurd m
before_trans (Read r a) (Input b) z l m = absurd l
before_trans (Read r a) (Read s b) (Input c) l m = absurd m
before_trans (Read r a) (Read s b) (Read t c) (inl l) (inl m) = inl (omega arith)
before_trans (Read r a) (Read s b) (Read t c) (inl l) (inr (e, m)) = inl (omega arith)
before_trans (Read r a) (Read s b) (Read t c) (inr (d, l)) (inl m) = inl (omega arith)
before_trans (Read r a) (Read s b) (Read t c) (inr (d, l)) (inr (e, m)) = inr (d ∙ e, omega arith)

module _ (vars : List Var) (next : (k : ℕ) (d : Var) → k + 1 < length vars → IsBefore (get_or vars k d) (get_or vars (k + 1) d)) where
  further : (n i : ℕ) (d : Var) → i + 1 + n < length vars → IsBefore (get_or vars i d) (get_or vars (i + 1 + n) d)
  further zero i d inside = subst (λ (j : ℕ). IsBefore (get_or vars i d) (get_or vars j d)) (omega arith) (next i d (omega arith))
  further (suc n) i d inside =
      before_trans (get_or vars i d) (get_or vars (i + 1 + n) d) (get_or vars (i + 1 + suc n) d) (further n i d (omega arith))
      (subst (λ (j : ℕ). IsBefore (get_or vars (i + 1 + n) d) (get_or vars j d)) (omega arith) (next (i + 1 + n) d (omega arith)))

  rising_from_next : AllPairs IsBefore vars
  rising_from_next i j d less inside =
      subst (λ (k : ℕ). IsBefore (get_or vars i d) (get_or vars k d)) (omega arith) (further (j - (i + 1)) i d (omega arith))

pub rising_from_sort : (vars : List Var) → IsSorted var_cmp vars → IsDistinct are_same vars → AllPairs IsBefore vars
rising_from_sort vars sorted distinct = rising_from_next vars (λ k d inside.
    var_before (get_or vars k d) (get_or vars (k + 1) d) (sorted k d (omega arith) inside)
    (λ same. differ k d (apart_from_distinct are_same vars k (k + 1) d distinct (omega arith) inside) same)) where
      differ : (k : ℕ) (d : Var) → are_same (get_or vars k d) (get_or vars (k + 1) d) ≡ false → get_or vars k d ≢ get_or vars (k + 1) d
      differ k d apart same =
          true≢false (sym (var_itself (get_or vars k d)) ∙ ap (are_same (get_or vars k d)) same ∙ apart)

-- ---- what is added

pub inserted : (vars : List Var) (v : Var) (new : List Var) → new ≡ insert_key are_same vars v → Gains vars new (λ w. w ≡ v)
inserted vars v new is = subst (λ (l : List Var). Gains vars l (λ w. w ≡ v)) (sym is) (by (list_any (are_same v) vars) refl) where
  added : Contains (insert_key are_same vars v) v
  added = Contains-insert_key are_same same_var vars v

  by : (b : Bool) → list_any (are_same v) vars ≡ b → Gains vars (insert_key are_same vars v) (λ w. w ≡ v)
  by true e =
      let same : insert_key are_same vars v ≡ vars = ap (λ (b : Bool). if b then vars else vars ++ v ∷ []) e in
      record {
        kept = λ w h. subst (λ (l : List Var). Contains l w) (sym same) h;
        added = λ w h. subst (Contains (insert_key are_same vars v)) (sym h) added;
        only = λ w h. inl (subst (λ (l : List Var). Contains l w) same h);
      }
  by false e =
      let longer : insert_key are_same vars v ≡ vars ++ v ∷ [] = ap (λ (b : Bool). if b then vars else vars ++ v ∷ []) e in
      record {
        kept = λ w h. subst (λ (l : List Var). Contains l w) (sym longer) (Contains-append_left vars (v ∷ []) w h);
        added = λ w h. subst (Contains (insert_key are_same vars v)) (sym h) added;
        only = λ w h. last w (Contains-push_cases vars v w (subst (λ (l : List Var). Contains l w) longer h));
      } where
        last : (w : Var) → Contains vars w ⊎ (v ≡ w) → Contains vars w ⊎ (w ≡ v)
        last w (inl h) = inl h
        last w (inr e) = inr (sym e)

-- ---- the bits of a node

module _ (vars : List Var) where
  pub gains_nothing : (IsSo : Var → Type 0) → ((v : Var) → IsSo v → ⊥) → Gains vars vars IsSo
  gains_nothing IsSo never = record {
    kept = λ v h. h;
    added = λ v h. absurd (never v h);
    only = λ v h. inl h;
  }

  pub no_input : (first : ℕ) → Gains vars vars (Names (InputNode first 0))
  no_input first = gains_nothing (Names (InputNode first 0)) never where
    never : (v : Var) → Names (InputNode first 0) v → ⊥
    never (Input bit) h = absurd (omega (arith, h.0, h.1))
    never (Read r bit) h = h

  pub no_read : (read : ℕ) → Gains vars vars (Names (ReadNode read 0))
  no_read read = gains_nothing (Names (ReadNode read 0)) never where
    never : (v : Var) → Names (ReadNode read 0) v → ⊥
    never (Input bit) h = h
    never (Read r bit) h = absurd (omega (arith, h.1))

module _ (old middle new : List Var) (P Q R : Var → Type 0) (parts : (v : Var) → R v → P v ⊎ Q v) (first : (v : Var) → P v → R v)
    (second : (v : Var) → Q v → R v) where
  gains_along : Gains old middle P → Gains middle new Q → Gains old new R
  gains_along g h = record { kept = λ v k. h.kept v (g.kept v k); added = λ v r. added v (parts v r); only = only } where
    added : (v : Var) → P v ⊎ Q v → Contains new v
    added v (inl p) = h.kept v (g.added v p)
    added v (inr q) = h.added v q

    was : (v : Var) → Contains old v ⊎ P v → Contains old v ⊎ R v
    was v (inl k) = inl k
    was v (inr p) = inr (first v p)

    only : (v : Var) → Contains new v → Contains old v ⊎ R v
    only v k = elim (h.only v k) [
      | inl m ↦ was v (g.only v m)
      | inr q ↦ inr (second v q)
    ]

below_or_last : (b n : ℕ) → b < suc n → (b < n) ⊎ (b ≡ n)
below_or_last b n l = grind arith

module _ (old middle new : List Var) (first place : ℕ) where
  pub one_more_input : (bit : ℕ) → bit ≡ first + place → Gains old middle (Names (InputNode first place)) →
      Gains middle new (λ w. w ≡ Input bit) → Gains old new (Names (InputNode first (place + 1)))
  one_more_input bit is = gains_along old middle new (Names (InputNode first place)) (λ w. w ≡ Input bit)
      (Names (InputNode first (place + 1))) parts before last where
        parts : (v : Var) → Names (InputNode first (place + 1)) v → Names (InputNode first place) v ⊎ (v ≡ Input bit)
        parts (Read r b) h = absurd h
        parts (Input b) h = elim (below_or_last b (first + place) (omega (arith, h.1))) [
          | inl l ↦ inl (h.0, l)
          | inr e ↦ inr (ap Input (e ∙ sym is))
        ]

        before : (v : Var) → Names (InputNode first place) v → Names (InputNode first (place + 1)) v
        before (Read r b) h = h
        before (Input b) h = (h.0, omega (arith, h.1))

        here : Names (InputNode first (place + 1)) (Input bit)
        here = (omega (arith, is), omega (arith, is))

        last : (v : Var) → v ≡ Input bit → Names (InputNode first (place + 1)) v
        last v e = subst (Names (InputNode first (place + 1))) (sym e) here

  pub one_more_read : Gains old middle (Names (ReadNode first place)) → Gains middle new (λ w. w ≡ Read first place) →
      Gains old new (Names (ReadNode first (place + 1)))
  one_more_read = gains_along old middle new (Names (ReadNode first place)) (λ w. w ≡ Read first place)
      (Names (ReadNode first (place + 1))) parts before last where
        parts : (v : Var) → Names (ReadNode first (place + 1)) v → Names (ReadNode first place) v ⊎ (v ≡ Read first place)
        parts (Input b) h = absurd h
        parts (Read r b) h = elim (below_or_last b place (omega (arith, h.1))) [
          | inl l ↦ inl (h.0, l)
          | inr e ↦ inr (λ i. Read (h.0 i) (e i))
        ]

        before : (v : Var) → Names (ReadNode first place) v → Names (ReadNode first (place + 1)) v
        before (Input b) h = h
        before (Read r b) h = (h.0, omega (arith, h.1))

        here : Names (ReadNode first (place + 1)) (Read first place)
        here = (refl, omega arith)

        last : (v : Var) → v ≡ Read first place → Names (ReadNode first (place + 1)) v
        last v e = subst (Names (ReadNode first (place + 1))) (sym e) here

-- ---- the bits of the marked nodes

pub names_mention : (nodes : List Node) (t : Term) (node : Node) (v : Var) → Names node v → IsPartOf nodes node t → Mentions nodes t v
names_mention nodes t (InputNode first w) (Input b) h part =
    record { first = first; width = w; part = part; from = h.0; before = h.1 }
names_mention nodes t (InputNode first w) (Read r b) h part = absurd h
names_mention nodes t (ReadNode read w) (Input b) h part = absurd h
names_mention nodes t (ReadNode read w) (Read r b) h part =
    (w, subst (λ (n : ℕ). IsPartOf nodes (ReadNode n w) t) (sym h.0) part, h.1)
names_mention nodes t (Constant c) v h part = absurd h
names_mention nodes t (One op a) v h part = absurd h
names_mention nodes t (Two op a b) v h part = absurd h
names_mention nodes t (Slice a high low) v h part = absurd h
names_mention nodes t (Extend a w signed) v h part = absurd h
names_mention nodes t (Choose c a b) v h part = absurd h

pub record IsNamed (nodes : List Node) (t : Term) (v : Var) : Type 0 where
  pub node : Node
  pub part : IsPartOf nodes node t
  pub names : Names node v

mentioned_named : (nodes : List Node) (t : Term) (v : Var) → Mentions nodes t v → IsNamed nodes t v
mentioned_named nodes t (Input b) m = record { node = InputNode m.first m.width; part = m.part; names = (m.from, m.before) }
mentioned_named nodes t (Read r b) m = record { node = ReadNode r m.0; part = m.1; names = (refl, m.2) }

pub record IsOwn (nodes : List Node) (marks : List Bool) (part : Node) : Type 0 where
  pub of : Term
  pub marked : IsMarked marks of
  pub at : slice_get nodes of.number ≡ Some part

module _ (nodes : List Node) (t : Term) (marks : List Bool) (are : AreMarks nodes t marks) (part : Node) where
  pub part_marked : {u : Term} → IsMarked marks u → IsPartOf nodes part u → IsOwn nodes marks part
  part_marked m (own u at) = record { of = u; marked = m; at = at }
  part_marked m (of_operand u a node at is h) = part_marked (are.operands u a node m at is) h

-- the variables of the marked terms below a number
pub record AreSoFar (nodes : List Node) (t : Term) (marks : List Bool) (vars : List Var) (number : ℕ) : Type 0 where
  pub right : (v : Var) → Contains vars v → Mentions nodes t v
  pub whole : (u : Term) (node : Node) (v : Var) → u.number < number → IsMarked marks u → slice_get nodes u.number ≡ Some node →
      Names node v → Contains vars v

some_same : {X : Type 0} (x y : X) → Some x ≡ Some y → x ≡ y
some_same x y e = grind arith

module _ (nodes : List Node) (t : Term) (marks : List Bool) where
  pub no_vars : AreSoFar nodes t marks [] 0
  no_vars = record { right = λ v h. absurd (omega (arith, h.1)); whole = λ u node v l m at h. absurd (omega arith) }

  module _ (are : AreMarks nodes t marks) (vars : List Var) (number : ℕ) (far : AreSoFar nodes t marks vars number) where
    pub vars_unmarked : slice_get marks number ≡ Some false → AreSoFar nodes t marks vars (number + 1)
    vars_unmarked none = record { right = far.right; whole = λ u node v l m at h. far.whole u node v (before u l m) m at h } where
      before : (u : Term) → u.number < number + 1 → IsMarked marks u → u.number < number
      before u l m = elim (below_or_last u.number number (omega arith)) [
        | inl less ↦ less
        | inr e ↦ absurd (true≢false (some_same true false (sym m ∙ ap (slice_get marks) e ∙ none)))
      ]

    pub vars_marked : (new : List Var) (node : Node) → slice_get marks number ≡ Some true → slice_get nodes number ≡ Some node →
        Gains vars new (Names node) → AreSoFar nodes t marks new (number + 1)
    vars_marked new node marked at gains = record { right = right; whole = whole } where
      here : Term
      here = record { number = number }

      right : (v : Var) → Contains new v → Mentions nodes t v
      right v k = elim (gains.only v k) [
        | inl was ↦ far.right v was
        | inr names ↦ names_mention nodes t node v names (are.parts here node marked (own here at))
      ]

      whole : (u : Term) (other : Node) (v : Var) → u.number < number + 1 → IsMarked marks u → slice_get nodes u.number ≡ Some other →
          Names other v → Contains new v
      whole u other v l m is h = elim (below_or_last u.number number (omega arith)) [
        | inl less ↦ gains.kept v (far.whole u other v less m is h)
        | inr e ↦ gains.added v (subst (λ (n : Node). Names n v) (some_same other node (sym is ∙ ap (slice_get nodes) e ∙ at)) h)
      ]

pub vars_done : (nodes : List Node) (t : Term) (marks : List Bool) (vars sorted : List Var) → AreMarks nodes t marks →
    AreSoFar nodes t marks vars (length marks) → IsPermutation vars sorted → IsSorted var_cmp sorted → IsDistinct are_same sorted →
    AreVarsOf nodes t sorted
vars_done nodes t marks vars sorted are far moved in_order distinct = record {
  rising = rising_from_sort sorted in_order distinct;
  mentioned = λ v. (
    (λ h. far.right v (Contains-permutation sorted vars v (IsPermutation-sym vars sorted moved) h)),
    (λ m. Contains-permutation vars sorted v moved (found v (mentioned_named nodes t v m))),
  );
} where
  found : (v : Var) → IsNamed nodes t v → Contains vars v
  found v n = own_found (part_marked nodes t marks are n.node are.itself n.part) where
    own_found : IsOwn nodes marks n.node → Contains vars v
    own_found o = far.whole o.of n.node v (slice_get_within marks o.of.number true o.marked) o.marked o.at n.names

pub names_nothing : (vars : List Var) (node : Node) → ((first w : ℕ) → node ≢ InputNode first w) → ((read w : ℕ) → node ≢ ReadNode read w) →
    Gains vars vars (Names node)
names_nothing vars node no_input no_read = gains_nothing vars (Names node) (never node no_input no_read) where
  never : (node : Node) → ((first w : ℕ) → node ≢ InputNode first w) → ((read w : ℕ) → node ≢ ReadNode read w) → (v : Var) → Names node v → ⊥
  never (InputNode first w) i r v h = i first w refl
  never (ReadNode read w) i r v h = r read w refl
  never (Constant c) i r v h = h
  never (One op a) i r v h = h
  never (Two op a b) i r v h = h
  never (Slice a high low) i r v h = h
  never (Extend a w signed) i r v h = h
  never (Choose c a b) i r v h = h

-- ---- the variable of a bit

or_true : (b : Bool) → (b || true) ≡ true
or_true true = refl
or_true false = refl

any_here : (vars : List Var) (v : Var) (i : ℕ) → slice_get vars i ≡ Some v → list_any (are_same v) vars ≡ true
any_here [] v i at = absurd (omega (arith, slice_get_within [] i v at))
any_here (x ∷ xs) v zero at =
    ap (λ (b : Bool). b || list_any (are_same v) xs) (ap (are_same v) (some_same x v at) ∙ var_itself v)
any_here (x ∷ xs) v (suc i) at =
    ap (λ (b : Bool). are_same v x || b) (any_here xs v i at) ∙ or_true (are_same v x)

pub always_found : (vars : List Var) (v : Var) → Contains vars v → false ≡ list_any (are_same v) vars → ⊥
always_found vars v (i, inside, at) lost = true≢false (sym (any_here vars v i (slice_get-get_or vars i v inside ∙ ap Some at)) ∙ sym lost)

pub found_variable : (vars : List Var) (v : Var) (place number : ℕ) → Some place ≡ position (are_same v) vars → number ≡ place + 1 →
    IsWireOfVar vars (Literal (variable number)) v
found_variable vars v place number found is = record {
  place = place;
  at = slice_get-get_or vars place v here.0 ∙ ap Some (sym (same_var v (get_or vars place v) here.1));
  is = ap (λ (n : ℕ). Literal (variable n)) number_is;
} where
  here : (place < length vars) × (are_same v (get_or vars place v) ≡ true) × ((k : ℕ) → k < place → are_same v (get_or vars k v) ≡ false)
  here = position-Some (are_same v) vars place v (sym found)

  number_is : number ≡ suc place
  number_is = omega (arith, is)

pub found_contained : (vars : List Var) (v : Var) (b : Bool) → b ≡ list_any (are_same v) vars → IsTrue b ↔ Contains vars v
found_contained vars v b is = (
  (λ holds. Contains-list_any are_same same_var vars v (sym is ∙ holds)),
  (λ there. is ∙ any_here vars v there.0 (slice_get-get_or vars there.0 v there.1 ∙ ap Some there.2)),
)
