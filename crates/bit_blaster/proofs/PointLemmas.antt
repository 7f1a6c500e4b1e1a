-- A point from the values of a term's variables: it has them, and all that the term mentions where no read is asked for in two
-- widths.
use Rattle.std.proofs.Common.{◌≡◌, ℕ, suc, zero, ◌-◌, ◌<◌, ◌≤◌, ◌⊎◌, inl, inr, Bool, true, false, List, [], ◌∷◌, Some, length, slice_get, get_or, nat_eq, refl, sym, ap, ◌∙◌, subst, true≢false, arith}
use Rattle.std.specs.Prelude.{◌&&◌, if◌then◌else◌, max}
use Rattle.std.specs.List.{All, AllPairs, AllZip, Contains}
use Rattle.std.proofs.lemmas.Bool.{and_from, eqb-true, eq-eqb, cases_Bool}
use Rattle.std.proofs.lemmas.List.Elements.{All-head, All-tail, Contains-get_or}
use Rattle.std.proofs.lemmas.Option.{slice_get_within, slice_get-get_or, get_or_from_slice_get}
use Rattle.bits_core.specs.declared.number.TheConstants.{MAX_WIDTH}
use Rattle.bits_core.specs.BitList.{bits_of, number_of}
use Rattle.bits_core.specs.declared.number.Bits.{Bits}
use Rattle.bits_core.specs.declared.points.Point.{Point}
use Rattle.bits_core.proofs.BitListLaws.{number_of_below, bits_of_number_of}
use Rattle.cnf_core.specs.declared.derivation.Var.{Var}
use Rattle.cnf_core.specs.declared.derivation.Var.TheVariants.{Input, Read}
use Rattle.term_dag.specs.Mention.{IsPartOf, MentionsBit, MentionsRead, HasMentioned}
use Rattle.term_dag.specs.Mention.IsPartOf.{own, of_operand}
use Rattle.term_dag.specs.Value.{ReadGives}
use Rattle.term_dag.specs.Width.{IsDag}
use Rattle.term_dag.specs.declared.node.Node.{Node}
use Rattle.term_dag.specs.declared.node.Node.TheVariants.{Read as ReadNode}
use Rattle.term_dag.specs.declared.node.Term.{Term}
use Rattle.bit_blaster.specs.Vars.{Mentions, IsBefore, AreVarsOf, HasBit, HasBits}

-- ---- tables

abbrev pub tabulate : {X : Type 0} → (ℕ → X) → ℕ → List X
tabulate f zero = []
tabulate f (suc n) = f 0 ∷ tabulate (λ k. f (suc k)) n

pub length_tabulate : {X : Type 0} (f : ℕ → X) (n : ℕ) → length (tabulate f n) ≡ n
length_tabulate f zero = refl
length_tabulate f (suc n) = ap suc (length_tabulate (λ k. f (suc k)) n)

pub at_tabulate : {X : Type 0} (f : ℕ → X) (n k : ℕ) → k < n → slice_get (tabulate f n) k ≡ Some (f k)
at_tabulate f zero k inside = absurd (omega arith)
at_tabulate f (suc n) zero inside = refl
at_tabulate f (suc n) (suc k) inside = at_tabulate (λ j. f (suc j)) n k (omega arith)

some_same : {X : Type 0} (x y : X) → Some x ≡ Some y → x ≡ y
some_same x y e = grind arith

-- ---- variables are told apart

abbrev same : Var → Var → Bool
same (Input a) (Input b) = nat_eq a b
same (Input a) (Read s b) = false
same (Read r a) (Input b) = false
same (Read r a) (Read s b) = nat_eq r s && nat_eq a b

same_itself : (v : Var) → same v v ≡ true
same_itself (Input a) = eq-eqb a a refl
same_itself (Read r a) = and_from (nat_eq r r) (nat_eq a a) (eq-eqb r r refl) (eq-eqb a a refl)

not_equal : (a b : ℕ) → a < b → nat_eq a b ≡ false
not_equal a b l = elim (cases_Bool (nat_eq a b)) [
  | inl e ↦ absurd (omega (arith, l, eqb-true a b e))
  | inr differs ↦ differs
]

and_false : (b : Bool) → (b && false) ≡ false
and_false true = refl
and_false false = refl

before_differs : (v w : Var) → IsBefore v w → same v w ≡ false
before_differs (Input a) (Input b) l = not_equal a b l
before_differs (Input a) (Read s b) l = refl
before_differs (Read r a) (Input b) l = refl
before_differs (Read r a) (Read s b) (inl l) = ap (λ (x : Bool). x && nat_eq a b) (not_equal r s l)
before_differs (Read r a) (Read s b) (inr l) = ap (λ (x : Bool). nat_eq r s && x) (not_equal a b l.1) ∙ and_false (nat_eq r s)

-- ---- values by variable

abbrev pub lookup : List Var → List Bool → Var → Bool
lookup [] values v = false
lookup (x ∷ xs) [] v = false
lookup (x ∷ xs) (b ∷ bs) v = if same x v then b else lookup xs bs v

-- the function gives each variable of the list its value
abbrev LooksUp : List Var → List Bool → (Var → Bool) → Type 0
LooksUp vars values f = AllZip (λ v b. f v ≡ b) vars values

module _ (P : Var → Type 0) (Q R : Var → Bool → Type 0) (step : (v : Var) (b : Bool) → P v → Q v b → R v b) where
  zip_with : (vars : List Var) (values : List Bool) → All P vars → AllZip Q vars values → AllZip R vars values
  zip_with [] [] all zip = tt
  zip_with [] (b ∷ bs) all zip = absurd zip
  zip_with (x ∷ xs) [] all zip = absurd zip
  zip_with (x ∷ xs) (b ∷ bs) all zip =
      (step x b (All-head P x xs all) zip.0, zip_with xs bs (All-tail P x xs all) zip.1)

looks_up : (vars : List Var) (values : List Bool) → AllPairs IsBefore vars → length values ≡ length vars →
    LooksUp vars values (lookup vars values)
looks_up [] [] rising long = tt
looks_up [] (b ∷ bs) rising long = absurd (omega arith)
looks_up (x ∷ xs) [] rising long = absurd (omega arith)
looks_up (x ∷ xs) (b ∷ bs) rising long = (
  ap (λ (t : Bool). if t then b else lookup xs bs x) (same_itself x),
  zip_with (IsBefore x) (λ v c. lookup xs bs v ≡ c) (λ v c. lookup (x ∷ xs) (b ∷ bs) v ≡ c)
      (λ v c before e. ap (λ (t : Bool). if t then b else lookup xs bs v) (before_differs x v before) ∙ e) xs bs
      (λ k d inside. rising 0 (suc k) d (omega arith) (omega arith))
      (looks_up xs bs (λ i j d l m. rising (suc i) (suc j) d (omega arith) (omega arith)) (omega arith)),
)

-- ---- how many inputs and reads, and how wide each

abbrev wider : Bool → ℕ → ℕ → ℕ
wider here bit width = if here then max (suc bit) width else width

wider_more : (here : Bool) (bit width : ℕ) → width ≤ wider here bit width
wider_more true bit width = omega arith
wider_more false bit width = omega arith

wider_here : (here : Bool) (bit width : ℕ) → here ≡ true → bit < wider here bit width
wider_here true bit width e = omega arith
wider_here false bit width e = absurd (true≢false (sym e))

abbrev input_end : List Var → ℕ
input_end [] = 0
input_end (Input n ∷ vs) = max (suc n) (input_end vs)
input_end (Read r k ∷ vs) = input_end vs

abbrev read_end : List Var → ℕ
read_end [] = 0
read_end (Input n ∷ vs) = read_end vs
read_end (Read r k ∷ vs) = max (suc r) (read_end vs)

abbrev width_in : ℕ → List Var → ℕ
width_in r [] = 0
width_in r (Input n ∷ vs) = width_in r vs
width_in r (Read s k ∷ vs) = wider (nat_eq s r) k (width_in r vs)

abbrev input_of : Var → ℕ
input_of (Input n) = n
input_of (Read r k) = 0

abbrev read_of : Var → ℕ
read_of (Input n) = 0
read_of (Read r k) = r

abbrev bit_of : Var → ℕ
bit_of (Input n) = 0
bit_of (Read r k) = k

abbrev is_read : Var → Bool
is_read (Input n) = false
is_read (Read r k) = true

input_below : (n : ℕ) (vs : List Var) (i : ℕ) → slice_get vs i ≡ Some (Input n) → n < input_end vs
input_below n [] i at = absurd (omega (arith, slice_get_within [] i (Input n) at))
input_below n (Input m ∷ vs) zero at = omega (arith, ap input_of (some_same (Input m) (Input n) at))
input_below n (Input m ∷ vs) (suc i) at = omega (arith, input_below n vs i at)
input_below n (Read r k ∷ vs) zero at = absurd (true≢false (ap is_read (some_same (Read r k) (Input n) at)))
input_below n (Read r k ∷ vs) (suc i) at = input_below n vs i at

read_below : (r k : ℕ) (vs : List Var) (i : ℕ) → slice_get vs i ≡ Some (Read r k) → r < read_end vs
read_below r k [] i at = absurd (omega (arith, slice_get_within [] i (Read r k) at))
read_below r k (Input m ∷ vs) zero at = absurd (true≢false (sym (ap is_read (some_same (Input m) (Read r k) at))))
read_below r k (Input m ∷ vs) (suc i) at = read_below r k vs i at
read_below r k (Read s j ∷ vs) zero at = omega (arith, ap read_of (some_same (Read s j) (Read r k) at))
read_below r k (Read s j ∷ vs) (suc i) at = omega (arith, read_below r k vs i at)

bit_below : (r k : ℕ) (vs : List Var) (i : ℕ) → slice_get vs i ≡ Some (Read r k) → k < width_in r vs
bit_below r k [] i at = absurd (omega (arith, slice_get_within [] i (Read r k) at))
bit_below r k (Input m ∷ vs) zero at = absurd (true≢false (sym (ap is_read (some_same (Input m) (Read r k) at))))
bit_below r k (Input m ∷ vs) (suc i) at = bit_below r k vs i at
bit_below r k (Read s j ∷ vs) zero at =
    let reads : s ≡ r = ap read_of (some_same (Read s j) (Read r k) at) in
    let bits : j ≡ k = ap bit_of (some_same (Read s j) (Read r k) at) in
    subst (λ (b : ℕ). b < wider (nat_eq s r) j (width_in r vs)) bits (wider_here (nat_eq s r) j (width_in r vs) (eq-eqb s r reads))
bit_below r k (Read s j ∷ vs) (suc i) at =
    let below : k < width_in r vs = bit_below r k vs i at in
    let more : width_in r vs ≤ wider (nat_eq s r) j (width_in r vs) = wider_more (nat_eq s r) j (width_in r vs) in
    omega arith

-- a read that is there has its highest bit among the variables
pub record HasHighest (r : ℕ) (vs : List Var) (width : ℕ) : Type 0 where
  pub bit : ℕ
  pub place : ℕ
  pub at : slice_get vs place ≡ Some (Read r bit)
  pub is : width ≡ suc bit

le_or_lt : (a b : ℕ) → (a ≤ b) ⊎ (b < a)
le_or_lt a b = grind arith

higher : (r s j : ℕ) (vs : List Var) (width : ℕ) (here : Bool) → nat_eq s r ≡ here → (width ≡ 0) ⊎ HasHighest r vs width →
    (wider here j width ≡ 0) ⊎ HasHighest r (Read s j ∷ vs) (wider here j width)
higher r s j vs width false e (inl none) = inl none
higher r s j vs width false e (inr h) = inr record { bit = h.bit; place = suc h.place; at = h.at; is = h.is }
higher r s j vs width true e rest = elim (le_or_lt width (suc j)) [
  | inl less ↦ inr record {
    bit = j;
    place = 0;
    at = ap (λ (n : ℕ). Some (Read n j)) (eqb-true s r e);
    is = omega (arith, less);
  }
  | inr more ↦ inr (by_rest more rest)
] where
  by_rest : suc j < width → (width ≡ 0) ⊎ HasHighest r vs width → HasHighest r (Read s j ∷ vs) (max (suc j) width)
  by_rest more (inl none) = absurd (omega arith)
  by_rest more (inr h) = record { bit = h.bit; place = suc h.place; at = h.at; is = omega (arith, more, h.is) }

later_highest : (r n : ℕ) (vs : List Var) (width : ℕ) → (width ≡ 0) ⊎ HasHighest r vs width → (width ≡ 0) ⊎ HasHighest r (Input n ∷ vs) width
later_highest r n vs width (inl none) = inl none
later_highest r n vs width (inr h) = inr record { bit = h.bit; place = suc h.place; at = h.at; is = h.is }

highest : (r : ℕ) (vs : List Var) → (width_in r vs ≡ 0) ⊎ HasHighest r vs (width_in r vs)
highest r [] = inl refl
highest r (Input n ∷ vs) = later_highest r n vs (width_in r vs) (highest r vs)
highest r (Read s j ∷ vs) = higher r s j vs (width_in r vs) (nat_eq s r) refl (highest r vs)

-- ---- the number of some bits, where they are as many as a number has

pub is_width : (n : ℕ) → ((1 ≤ n) × (n ≤ MAX_WIDTH)) ⊎ ((1 ≤ n) × (n ≤ MAX_WIDTH) → ⊥)
is_width n = elim (le_or_lt 1 n) [
  | inl some ↦ elim (le_or_lt n MAX_WIDTH) [
    | inl few ↦ inl (some, few)
    | inr many ↦ inr (λ h. absurd (omega (arith, many, h.1)))
  ]
  | inr none ↦ inr (λ h. absurd (omega (arith, none, h.0)))
]

abbrev zero_bit : Bits
zero_bit = record { width = 1; value = 0; some_bit = omega arith; at_most_widest = omega arith; fits = omega arith }

abbrev made_bits : (l : List Bool) → ((1 ≤ length l) × (length l ≤ MAX_WIDTH)) ⊎ ((1 ≤ length l) × (length l ≤ MAX_WIDTH) → ⊥) → Bits
made_bits l (inl h) = record { width = length l; value = number_of l; some_bit = h.0; at_most_widest = h.1; fits = number_of_below l }
made_bits l (inr none) = zero_bit

abbrev bits_from : List Bool → Bits
bits_from l = made_bits l (is_width (length l))

pub record Holds (x : Bits) (l : List Bool) : Type 0 where
  pub width : x.width ≡ length l
  pub bits : bits_of x.width x.value ≡ l

made_holds : (l : List Bool) (d : ((1 ≤ length l) × (length l ≤ MAX_WIDTH)) ⊎ ((1 ≤ length l) × (length l ≤ MAX_WIDTH) → ⊥)) →
    1 ≤ length l → length l ≤ MAX_WIDTH → Holds (made_bits l d) l
made_holds l (inl h) some few = record { width = refl; bits = bits_of_number_of l }
made_holds l (inr none) some few = absurd (none (some, few))

-- ---- the point

abbrev read_bits : List Var → (Var → Bool) → ℕ → List Bool
read_bits vars f r = tabulate (λ k. f (Read r k)) (width_in r vars)

abbrev pub point_of : List Var → (Var → Bool) → Point
point_of vars f = record {
  inputs = tabulate (λ n. f (Input n)) (input_end vars);
  reads = tabulate (λ r. bits_from (read_bits vars f r)) (read_end vars);
}

place_of : (vars : List Var) (v : Var) → Contains vars v → (i : ℕ) × (slice_get vars i ≡ Some v)
place_of vars v (i, inside, at) = (i, slice_get-get_or vars i v inside ∙ ap Some at)

contains_at : (vars : List Var) (v : Var) (i : ℕ) → slice_get vars i ≡ Some v → Contains vars v
contains_at vars v i at = (i, slice_get_within vars i v at, get_or_from_slice_get vars i v v at)

module _ (nodes : List Node) (dag : IsDag nodes) (r w : ℕ) where
  read_is_width : {t : Term} → IsPartOf nodes (ReadNode r w) t → (1 ≤ w) × (w ≤ MAX_WIDTH)
  read_is_width (own t at) = dag.fit t.number (ReadNode r w) at
  read_is_width (of_operand t a node at is h) = read_is_width h

module _ (nodes : List Node) (dag : IsDag nodes) (t : Term) (vars : List Var) (are : AreVarsOf nodes t vars) (f : Var → Bool) where
  -- the bits of a read are as many as a number may have
  few : (r : ℕ) → width_in r vars ≤ MAX_WIDTH
  few r = by (highest r vars) where
    by : (width_in r vars ≡ 0) ⊎ HasHighest r vars (width_in r vars) → width_in r vars ≤ MAX_WIDTH
    by (inl none) = omega (arith, none)
    by (inr h) =
        let m : Mentions nodes t (Read r h.bit) = (are.mentioned (Read r h.bit)).0 (contains_at vars (Read r h.bit) h.place h.at) in
        omega (arith, h.is, m.2, (read_is_width nodes dag r m.0 m.1).1)

  holds : (r k : ℕ) → k < width_in r vars → Holds (bits_from (read_bits vars f r)) (read_bits vars f r)
  holds r k below =
      made_holds (read_bits vars f r) (is_width (length (read_bits vars f r)))
      (omega (arith, below, length_tabulate (λ j. f (Read r j)) (width_in r vars)))
      (omega (arith, few r, length_tabulate (λ j. f (Read r j)) (width_in r vars)))

  read_at : (r k : ℕ) → Contains vars (Read r k) → slice_get (point_of vars f).reads r ≡ Some (bits_from (read_bits vars f r))
  read_at r k there =
      let p = place_of vars (Read r k) there in
      at_tabulate (λ j. bits_from (read_bits vars f j)) (read_end vars) r (read_below r k vars p.0 p.1)

  has_bit : (v : Var) → Contains vars v → HasBit (point_of vars f) v (f v)
  has_bit (Input n) there =
      let p = place_of vars (Input n) there in
      at_tabulate (λ j. f (Input j)) (input_end vars) n (input_below n vars p.0 p.1)
  has_bit (Read r k) there =
      let p = place_of vars (Read r k) there in
      let below : k < width_in r vars = bit_below r k vars p.0 p.1 in (
        bits_from (read_bits vars f r),
        read_at r k there,
        ap (λ (l : List Bool). slice_get l k) (holds r k below).bits ∙ at_tabulate (λ j. f (Read r j)) (width_in r vars) k below,
      )

  -- the point has all that the term mentions, where no read has a bit above a width in which the term asks for it
  pub has_mentioned : ((r w : ℕ) → MentionsRead nodes t r w → Contains vars (Read r w) → ⊥) → HasMentioned nodes t (point_of vars f)
  has_mentioned one_width = record { inputs = inputs; reads = reads } where
    inputs : (bit : ℕ) → MentionsBit nodes t bit → bit < length (point_of vars f).inputs
    inputs bit m =
        let p = place_of vars (Input bit) ((are.mentioned (Input bit)).1 m) in
        omega (arith, input_below bit vars p.0 p.1, length_tabulate (λ n. f (Input n)) (input_end vars))

    contained : (r w k : ℕ) → MentionsRead nodes t r w → k < w → Contains vars (Read r k)
    contained r w k m below = (are.mentioned (Read r k)).1 (w, m, below)

    not_above : (r w : ℕ) → MentionsRead nodes t r w → 1 ≤ w → (width_in r vars ≡ 0) ⊎ HasHighest r vars (width_in r vars) → width_in r vars ≤ w
    not_above r w m some (inl none) = omega (arith, none)
    not_above r w m some (inr h) = elim (le_or_lt (width_in r vars) w) [
      | inl upto ↦ upto
      | inr above ↦ absurd (one_width r w m (by_wider above ((are.mentioned (Read r h.bit)).0 (contains_at vars (Read r h.bit) h.place h.at))))
    ] where
      by_wider : w < width_in r vars → Mentions nodes t (Read r h.bit) → Contains vars (Read r w)
      by_wider above n = contained r n.0 w n.1 (omega (arith, above, n.2, h.is))

    reads : (r w : ℕ) → MentionsRead nodes t r w → (b : Bits) × ReadGives (point_of vars f) r w b
    reads r w m =
        let some : 1 ≤ w = (read_is_width nodes dag r w m).0 in
        let there : Contains vars (Read r (w - 1)) = contained r w (w - 1) m (omega arith) in
        let p = place_of vars (Read r (w - 1)) there in
        let below : w - 1 < width_in r vars = bit_below r (w - 1) vars p.0 p.1 in (
          bits_from (read_bits vars f r),
          record {
            there = read_at r (w - 1) there;
            width =
                (holds r (w - 1) below).width ∙ length_tabulate (λ j. f (Read r j)) (width_in r vars)
                ∙ exactly (not_above r w m some (highest r vars)) below some;
          },
        ) where
          exactly : width_in r vars ≤ w → w - 1 < width_in r vars → 1 ≤ w → width_in r vars ≡ w
          exactly upto below some = omega arith

  pub has_bits : (values : List Bool) → LooksUp vars values f → HasBits (point_of vars f) vars values
  has_bits values found = record {
    each =
        zip_with (λ v. HasBit (point_of vars f) v (f v)) (λ v b. f v ≡ b) (HasBit (point_of vars f))
        (λ v b has is. subst (HasBit (point_of vars f) v) is has) vars values
        (λ k d inside. has_bit (get_or vars k d) (Contains-get_or vars k d inside)) found;
  }

-- values of the variables are those of some point
pub point_with : (nodes : List Node) → IsDag nodes → (t : Term) (vars : List Var) → AreVarsOf nodes t vars →
    ((r w : ℕ) → MentionsRead nodes t r w → Contains vars (Read r w) → ⊥) → (values : List Bool) → length values ≡ length vars →
    (p : Point) × HasBits p vars values × HasMentioned nodes t p
point_with nodes dag t vars are one_width values long = (
  point_of vars (lookup vars values),
  has_bits nodes dag t vars are (lookup vars values) values (looks_up vars values are.rising long),
  has_mentioned nodes dag t vars are (lookup vars values) one_width,
)
