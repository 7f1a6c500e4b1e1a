-- The clauses of a circuit: by induction over the gates in order, and then the theorem.
use Rattle.std.proofs.Common.{◌≡◌, ◌≢◌, ℕ, suc, zero, ◌+◌, ◌-◌, ◌<◌, ◌≤◌, Bool, true, false, List, [], ◌∷◌, ◌++◌, length, get_or, take, refl, sym, ap, ◌∙◌, subst, arith, inl, inr, append_assoc}
use Rattle.std.specs.Prelude.{IsTrue}
use Rattle.std.specs.List.{All, Any, Contains}
use Rattle.std.proofs.Math.Bool.{beq}
use Rattle.std.proofs.Math.Nat.{eq-or-lt_of_le}
use Rattle.std.proofs.Math.Seq.{take-suc, get_or-append_seam}
use Rattle.std.proofs.lemmas.Bool.{cases_Bool}
use Rattle.std.proofs.lemmas.List.{length-append, get_or_append_left, append-nil, length-take}
use Rattle.std.proofs.lemmas.List.Elements.{All-from_recursion, All-append, All-head, All-tail, All-weaker, All-contains}
use Rattle.cnf_core.specs.declared.formula.Lit.{Lit}
use Rattle.cnf_core.specs.Literal.{negation, LitSet}
use Rattle.cnf_core.specs.Propagation.{IsClosed, Sets}
use Rattle.cnf_core.specs.Truth.{Satisfies, SatisfiesAll}
use Rattle.cnf_core.proofs.Literals.{lit}
use Rattle.cnf_core.proofs.Soundness.{Meets, not_both, meets-leaves, meets-satisfied, meets-all, true_literals, true_literals-complete}
use Rattle.bit_blaster.specs.declared.gate.Gate.{Gate}
use Rattle.bit_blaster.specs.declared.gate.Gate.TheVariants.{And, Xor, Choose, Majority}
use Rattle.bit_blaster.specs.declared.wire.Wire.{Wire}
use Rattle.bit_blaster.specs.declared.wire.Wire.TheVariants.{Known, Literal}
use Rattle.bit_blaster.specs.Gate.{literal_value, gate_value, all_values, IsLiteralOf, GateFits, AreGates}
use Rattle.bit_blaster.specs.Wire.{wire_value, IsWireOf}
use Rattle.bit_blaster.specs.Netlist.{Netlist, StandsFor, variable_count, HasWire}
use Rattle.bit_blaster.specs.Clauses.{IsExtendable, IsExact, DecidesFirst, IsSettled, IsClauseOf}
use Rattle.bit_blaster.specs.Tseitin.{gate_clauses, gates_clauses, goal_clauses, variable}
use Rattle.bit_blaster.proofs.NetlistLemmas.{length_all_values, literal_value_kept}
use Rattle.bit_blaster.proofs.TruthLemmas.{literal_is_true, any_true, satisfied, all_satisfied_kept, Has, Closes, closes_left, closes_right, Agrees, agrees_on}
use Rattle.bit_blaster.proofs.GateClauseLemmas.{gate_holds, gate_sets, gate_is_apart, apart_of_one}

-- ---- the clauses of one more gate

pub gates_clauses_more : (n : ℕ) (gates : List Gate) (gate : Gate) →
    gates_clauses n (gates ++ gate ∷ []) ≡ gates_clauses n gates ++ gate_clauses gate (variable (suc (n + length gates)))
gates_clauses_more n [] gate =
    append-nil (gate_clauses gate (variable (suc n))) ∙ ap (λ (m : ℕ). gate_clauses gate (variable (suc m))) (omega arith)
gates_clauses_more n (g ∷ gates) gate =
    ap (λ (cs : List (List Lit)). gate_clauses g (variable (suc n)) ++ cs) (gates_clauses_more (suc n) gates gate)
    ∙ sym (append_assoc (gate_clauses g (variable (suc n))) (gates_clauses (suc n) gates) (gate_clauses gate (variable (suc (suc n + length gates)))))
    ∙ ap (λ (m : ℕ). (gate_clauses g (variable (suc n)) ++ gates_clauses (suc n) gates) ++ gate_clauses gate (variable (suc m))) (omega arith)

-- a loop's turn that pushes the next gate's clauses
pub next_pushed : (n : ℕ) (gates : List Gate) (old new : List (List Lit)) (m i : ℕ) (read : List Gate) (d : Gate) → m ≡ n →
    read ≡ gates → i < length read → old ≡ gates_clauses n (take i gates) →
    new ≡ old ++ gate_clauses (get_or read i d) (variable (m + i + 1)) → new ≡ gates_clauses n (take (i + 1) gates)
next_pushed n gates old new m i read d inputs is inside before pushed =
    pushed
    ∙ ap (λ (cs : List (List Lit)). cs ++ gate_clauses (get_or read i d) (variable (m + i + 1))) before
    ∙ ap (λ (gs : List Gate). gates_clauses n (take i gates) ++ gate_clauses (get_or gs i d) (variable (m + i + 1))) is
    ∙ ap (λ (v : ℕ). gates_clauses n (take i gates) ++ gate_clauses (get_or gates i d) (variable v)) number
    ∙ sym (gates_clauses_more n (take i gates) (get_or gates i d))
    ∙ ap (gates_clauses n) (sym (take-suc gates i d within))
    ∙ ap (λ (k : ℕ). gates_clauses n (take k gates)) one_more where
      one_more : suc i ≡ i + 1
      one_more = omega arith

      within : i < length gates
      within = omega (arith, inside, ap (λ (gs : List Gate). length gs) is)

      number : m + i + 1 ≡ suc (n + length (take i gates))
      number = omega (arith, inputs, within, length-take i gates)

-- ---- all values satisfy the gates

pub record HasMore (values whole : List Bool) : Type 0 where
  pub more : List Bool
  pub is : whole ≡ values ++ more

pub all_values_more : (values : List Bool) (gates : List Gate) → HasMore values (all_values values gates)
all_values_more values [] = record { more = []; is = sym (append-nil values) }
all_values_more values (g ∷ gates) = longer (all_values_more (values ++ gate_value values g ∷ []) gates) where
  longer : HasMore (values ++ gate_value values g ∷ []) (all_values values (g ∷ gates)) → HasMore values (all_values values (g ∷ gates))
  longer h = record { more = gate_value values g ∷ h.more; is = h.is ∙ append_assoc values (gate_value values g ∷ []) h.more }

all_kept : (values whole : List Bool) (clauses : List (List Lit)) → HasMore values whole → SatisfiesAll values clauses → SatisfiesAll whole clauses
all_kept values whole clauses h all =
    subst (λ (v : List Bool). SatisfiesAll v clauses) (sym h.is) (all_satisfied_kept values h.more clauses all)

last_value : (values : List Bool) (x : Bool) → get_or (values ++ x ∷ []) (length values) false ≡ x
last_value values x = get_or-append_seam values x [] false

length_more : (values : List Bool) (x : Bool) → length (values ++ x ∷ []) ≡ suc (length values)
length_more values x = omega (arith, length-append values (x ∷ []))

module _ (values more : List Bool) where
  kept : (l : Lit) → IsLiteralOf (length values) l → literal_value (values ++ more) l ≡ literal_value values l
  kept l within = literal_value_kept values more l within

  gate_value_kept : (gate : Gate) → GateFits (length values) gate → gate_value (values ++ more) gate ≡ gate_value values gate
  gate_value_kept (And a b) fits = let e = kept a fits.0 in let f = kept b fits.1 in cc
  gate_value_kept (Xor a b) fits = let e = kept a fits.0 in let f = kept b fits.1 in cc
  gate_value_kept (Choose c a b) fits = let e = kept c fits.0 in let f = kept a fits.1 in let g = kept b fits.2 in cc
  gate_value_kept (Majority a b c) fits = let e = kept a fits.0 in let f = kept b fits.1 in let g = kept c fits.2 in cc

-- a gate's clauses are satisfied once its value is added
gate_satisfied : (values : List Bool) (gate : Gate) → GateFits (length values) gate →
    SatisfiesAll (values ++ gate_value values gate ∷ []) (gate_clauses gate (variable (suc (length values))))
gate_satisfied values gate fits k d inside =
    satisfied whole (get_or clauses k d)
    (subst (λ (n : ℕ). All (IsLiteralOf n) (get_or clauses k d)) (sym (length_more values (gate_value values gate)))
    (apart k d inside).within) (holds k d inside) where
      whole : List Bool
      whole = values ++ gate_value values gate ∷ []

      clauses : List (List Lit)
      clauses = gate_clauses gate (variable (suc (length values)))

      apart : All (IsClauseOf (suc (length values))) clauses
      apart = gate_is_apart (length values) (variable (suc (length values))) refl gate fits

      holds : All (λ clause. any_true whole clause ≡ true) clauses
      holds =
          gate_holds whole gate (variable (suc (length values)))
          (ap (λ (i : ℕ). get_or whole i false) (omega arith) ∙ last_value values (gate_value values gate)
          ∙ sym (gate_value_kept values (gate_value values gate ∷ []) gate fits))

pub gates_satisfied : (n : ℕ) (values : List Bool) (gates : List Gate) → length values ≡ n → AreGates n gates →
    SatisfiesAll (all_values values gates) (gates_clauses n gates)
gates_satisfied n values [] long are = λ k d inside. absurd (omega arith)
gates_satisfied n values (g ∷ gates) long are =
    All-append (Satisfies whole) (gate_clauses g (variable (suc n))) (gates_clauses (suc n) gates)
    (all_kept (values ++ gate_value values g ∷ []) whole (gate_clauses g (variable (suc n)))
    (all_values_more (values ++ gate_value values g ∷ []) gates)
    (subst (λ (m : ℕ). SatisfiesAll (values ++ gate_value values g ∷ []) (gate_clauses g (variable (suc m)))) long
    (gate_satisfied values g (subst (λ (m : ℕ). GateFits m g) (sym long) are.0))))
    (gates_satisfied (suc n) (values ++ gate_value values g ∷ []) gates (length_more values (gate_value values g) ∙ ap suc long) are.1) where
      whole : List Bool
      whole = all_values values (g ∷ gates)

-- ---- the gates set all variables

agrees_push : (set : LitSet) (values : List Bool) (x : Bool) → Agrees set values → Has set (variable (suc (length values))) x →
    Agrees set (values ++ x ∷ [])
agrees_push set values x agrees here i inside =
    let upto : i ≤ length values = omega (arith, length_more values x) in
    elim (eq-or-lt_of_le upto) [
      | inl same ↦ subst (λ (j : ℕ). Has set (variable (suc j)) (get_or (values ++ x ∷ []) j false)) (sym same)
          (subst (λ (b : Bool). Has set (variable (suc (length values))) b) (sym (last_value values x)) here)
      | inr less ↦ subst (λ (b : Bool). Has set (variable (suc i)) b) (sym (get_or_append_left values (x ∷ []) false i less)) (agrees i less)
    ]

pub gates_agree : (set : LitSet) (n : ℕ) (values : List Bool) (gates : List Gate) → length values ≡ n → AreGates n gates →
    Closes (gates_clauses n gates) set → Agrees set values → Agrees set (all_values values gates)
gates_agree set n values [] long are closes agrees = agrees
gates_agree set n values (g ∷ gates) long are closes agrees =
    gates_agree set (suc n) (values ++ gate_value values g ∷ []) gates (length_more values (gate_value values g) ∙ ap suc long) are.1
    (closes_right set (gate_clauses g (variable (suc n))) (gates_clauses (suc n) gates) closes)
    (agrees_push set values (gate_value values g) agrees
    (subst (λ (m : ℕ). Has set (variable (suc m)) (gate_value values g)) (sym long)
    (gate_sets set values g (variable (suc n)) (closes_left set (gate_clauses g (variable (suc n))) (gates_clauses (suc n) gates) closes)
    (subst (λ (m : ℕ). GateFits m g) (sym long) are.0) (agrees_on set values agrees))))

-- ---- the goal

module _ {X : Type 0} (P : X → Type 0) where
  all_right : (xs ys : List X) → All P (xs ++ ys) → All P ys
  all_right [] ys all = all
  all_right (x ∷ xs) ys all = all_right xs ys (All-tail P x (xs ++ ys) all)

goal_satisfied : (values : List Bool) (goal : Wire) → IsWireOf (length values) goal → wire_value values goal ≡ true →
    SatisfiesAll values (goal_clauses goal)
goal_satisfied values (Known true) within e = λ k d inside. absurd (omega arith)
goal_satisfied values (Known false) within e = absurd (cc)
goal_satisfied values (Literal l) within e =
    All-from_recursion (Satisfies values) ((l ∷ []) ∷ []) ((0, l, omega arith, refl, literal_is_true values l within e), tt)

none_satisfied : (valuation : List Bool) → Satisfies valuation [] → ⊥
none_satisfied valuation (k, l, inside, at, holds) = absurd (omega arith)

module _ (valuation : List Bool) where
  abbrev set : LitSet
  set = true_literals valuation

  set_literal : (l : Lit) → Satisfies valuation (l ∷ []) → IsTrue (set l)
  set_literal l s =
      meets-leaves set (l ∷ []) l (true_literals-complete valuation) (meets-satisfied valuation (l ∷ []) s)
      (All-from_recursion (λ k. k ≢ l → IsTrue (set (negation k))) (l ∷ []) ((λ differs. absurd (differs refl)), tt))

  pub goal_is_true : (values : List Bool) (goal : Wire) → Agrees set values → IsWireOf (length values) goal →
      SatisfiesAll valuation (goal_clauses goal) → wire_value values goal ≡ true
  goal_is_true values (Known true) agrees within all = refl
  goal_is_true values (Known false) agrees within all =
      absurd (none_satisfied valuation (All-head (Satisfies valuation) [] [] all))
  goal_is_true values (Literal l) agrees within all = elim (cases_Bool (literal_value values l)) [
    | inl holds ↦ holds
    | inr fails ↦ absurd (not_both set l (true_literals-complete valuation)
        (set_literal l (All-head (Satisfies valuation) (l ∷ []) [] all))
        (subst (λ (b : Bool). Has set l b) fails (agrees_on set values agrees l within)))
  ]

  pub satisfied_closes : (clauses : List (List Lit)) → SatisfiesAll valuation clauses → Closes clauses set
  satisfied_closes clauses all clause l stands in_clause leaves =
      meets-leaves set clause l (true_literals-complete valuation)
      (All-contains (Meets set) clauses clause (meets-all valuation clauses all) stands) leaves

  has_true : (v : ℕ) (b : Bool) → get_or valuation (v - 1) false ≡ b → Has set (variable v) b
  has_true v true e = ap (λ (b : Bool). beq b true) e
  has_true v false e = ap (λ (b : Bool). beq b false) e

agrees_with_true : (values more : List Bool) → Agrees (true_literals (values ++ more)) values
agrees_with_true values more i inside =
    has_true (values ++ more) (suc i) (get_or values i false)
    (ap (λ (j : ℕ). get_or (values ++ more) j false) (omega arith) ∙ get_or_append_left values more false i inside)

-- ---- decided inputs

pub record Signs (decided : List Lit) (n : ℕ) : Type 0 where
  pub values : List Bool
  pub long : length values ≡ n
  pub each : (i : ℕ) → i < n → Contains decided (lit (suc i) (get_or values i false))

one_more_sign : (decided : List Lit) (n : ℕ) → Any (λ l. l.var ≡ suc n) decided → Signs decided n → Signs decided (suc n)
one_more_sign decided n (k, l, inside, at, is) s = record {
  values = s.values ++ l.positive ∷ [];
  long = length_more s.values l.positive ∙ ap suc s.long;
  each = each;
} where
  here : Contains decided (lit (suc n) l.positive)
  here = subst (λ (v : ℕ). Contains decided (lit v l.positive)) is (k, inside, at)

  each : (i : ℕ) → i < suc n → Contains decided (lit (suc i) (get_or (s.values ++ l.positive ∷ []) i false))
  each i before =
      let upto : i ≤ n = omega arith in
      elim (eq-or-lt_of_le upto) [
        | inl same ↦ subst (λ (j : ℕ). Contains decided (lit (suc j) (get_or (s.values ++ l.positive ∷ []) j false))) (sym same)
            (subst (λ (b : Bool). Contains decided (lit (suc n) b))
            (sym (ap (λ (j : ℕ). get_or (s.values ++ l.positive ∷ []) j false) (sym s.long) ∙ last_value s.values l.positive)) here)
        | inr less ↦ subst (λ (b : Bool). Contains decided (lit (suc i) b))
            (sym (get_or_append_left s.values (l.positive ∷ []) false i (omega (arith, less, s.long)))) (s.each i less)
      ]

signs_of : (decided : List Lit) (n : ℕ) → DecidesFirst n decided → Signs decided n
signs_of decided zero decides = record { values = []; long = refl; each = λ i before. absurd (omega arith) }
signs_of decided (suc n) decides =
    one_more_sign decided n (decides (suc n) (omega arith) (omega arith)) (signs_of decided n (λ var from upto. decides var from (omega arith)))

from_lit : (s : LitSet) (v : ℕ) (b : Bool) → IsTrue (s (lit v b)) → Has s (variable v) b
from_lit s v true h = h
from_lit s v false h = h

to_lit : (s : LitSet) (v : ℕ) (b : Bool) → Has s (variable v) b → IsTrue (s (lit v b))
to_lit s v true h = h
to_lit s v false h = h

agrees_with_decided : (set : LitSet) (decided : List Lit) (n : ℕ) (s : Signs decided n) → All (λ l. IsTrue (set l)) decided → Agrees set s.values
agrees_with_decided set decided n s all i inside =
    from_lit set (suc i) (get_or s.values i false)
    (All-contains (λ l. IsTrue (set l)) decided (lit (suc i) (get_or s.values i false)) all (s.each i (omega (arith, inside, s.long))))

-- ---- variables

clause_of_more : (m n : ℕ) → m ≤ n → (clause : List Lit) → IsClauseOf m clause → IsClauseOf n clause
clause_of_more m n upto clause c = record {
  within = All-weaker (IsLiteralOf m) (IsLiteralOf n) (λ l within. (within.0, omega (arith, within.1))) clause c.within;
  apart = c.apart;
}

gates_apart : (n : ℕ) (gates : List Gate) → AreGates n gates → All (IsClauseOf (n + length gates)) (gates_clauses n gates)
gates_apart n [] are = λ k d inside. absurd (omega arith)
gates_apart n (g ∷ gates) are =
    All-append (IsClauseOf (n + length (g ∷ gates))) (gate_clauses g (variable (suc n))) (gates_clauses (suc n) gates)
    (All-weaker (IsClauseOf (suc n)) (IsClauseOf (n + length (g ∷ gates))) (clause_of_more (suc n) (n + length (g ∷ gates)) (omega arith))
    (gate_clauses g (variable (suc n))) (gate_is_apart n (variable (suc n)) refl g are.0))
    (subst (λ (m : ℕ). All (IsClauseOf m) (gates_clauses (suc n) gates)) (omega arith) (gates_apart (suc n) gates are.1))

goal_apart : (n : ℕ) (goal : Wire) → IsWireOf n goal → All (IsClauseOf n) (goal_clauses goal)
goal_apart n (Known true) within = λ k d inside. absurd (omega arith)
goal_apart n (Known false) within = All-from_recursion (IsClauseOf n) ([] ∷ []) (empty, tt) where
  empty : IsClauseOf n []
  empty = record { within = λ k d inside. absurd (omega arith); apart = λ i j d before inside. absurd (omega arith) }
goal_apart n (Literal l) within = All-from_recursion (IsClauseOf n) ((l ∷ []) ∷ []) (unit, tt) where
  unit : IsClauseOf n (l ∷ [])
  unit = record { within = All-from_recursion (IsLiteralOf n) (l ∷ []) (within, tt); apart = apart_of_one l }

-- ---- the theorem

module _ (net : Netlist) (goal : Wire) (clauses : List (List Lit)) (is : clauses ≡ gates_clauses net.inputs net.gates ++ goal_clauses goal)
    (are : AreGates net.inputs net.gates) (has : HasWire net goal) where
  values_long : (inputs : List Bool) → length inputs ≡ net.inputs → length (all_values inputs net.gates) ≡ variable_count net
  values_long inputs long = length_all_values inputs net.gates ∙ ap (λ (n : ℕ). n + length net.gates) long

  in_values : (inputs : List Bool) → length inputs ≡ net.inputs → IsWireOf (length (all_values inputs net.gates)) goal
  in_values inputs long = subst (λ (n : ℕ). IsWireOf n goal) (sym (values_long inputs long)) has

  extends_true : (inputs : List Bool) → length inputs ≡ net.inputs → StandsFor net inputs goal true → IsExtendable clauses inputs
  extends_true inputs long s = extended (all_values_more inputs net.gates) where
    whole : SatisfiesAll (all_values inputs net.gates) clauses
    whole =
        subst (SatisfiesAll (all_values inputs net.gates)) (sym is)
        (All-append (Satisfies (all_values inputs net.gates)) (gates_clauses net.inputs net.gates) (goal_clauses goal)
        (gates_satisfied net.inputs inputs net.gates long are)
        (goal_satisfied (all_values inputs net.gates) goal (in_values inputs long) s.is))

    extended : HasMore inputs (all_values inputs net.gates) → IsExtendable clauses inputs
    extended h = record { more = h.more; satisfies = subst (λ (v : List Bool). SatisfiesAll v clauses) h.is whole }

  true_extends : (inputs : List Bool) → length inputs ≡ net.inputs → IsExtendable clauses inputs → StandsFor net inputs goal true
  true_extends inputs long x = record {
    has = has;
    long = long;
    is =
        goal_is_true valuation (all_values inputs net.gates) goal
        (gates_agree (true_literals valuation) net.inputs inputs net.gates long are
        (closes_left (true_literals valuation) (gates_clauses net.inputs net.gates) (goal_clauses goal)
        (satisfied_closes valuation (gates_clauses net.inputs net.gates ++ goal_clauses goal) all)) (agrees_with_true inputs x.more))
        (in_values inputs long) (all_right (Satisfies valuation) (gates_clauses net.inputs net.gates) (goal_clauses goal) all);
  } where
    valuation : List Bool
    valuation = inputs ++ x.more

    all : SatisfiesAll valuation (gates_clauses net.inputs net.gates ++ goal_clauses goal)
    all = subst (SatisfiesAll valuation) is x.satisfies

  pub formula_exact : IsExact net goal clauses
  formula_exact = record { each = λ inputs long. (extends_true inputs long, true_extends inputs long) }

  sets_variable : (decided : List Lit) → Signs decided net.inputs → (var : ℕ) → 1 ≤ var → var ≤ variable_count net →
      (l : Lit) × (l.var ≡ var) × Sets clauses decided l
  sets_variable decided s var from upto = (lit var value, refl, λ set closed. to_lit set var value (here set closed)) where
    whole : List Bool
    whole = all_values s.values net.gates

    value : Bool
    value = get_or whole (var - 1) false

    agrees : (set : LitSet) → IsClosed clauses decided set → Agrees set whole
    agrees set closed =
        gates_agree set net.inputs s.values net.gates s.long are
        (closes_left set (gates_clauses net.inputs net.gates) (goal_clauses goal) (subst (λ (cs : List (List Lit)). Closes cs set) is closed.closes))
        (agrees_with_decided set decided net.inputs s closed.decides)

    here : (set : LitSet) → IsClosed clauses decided set → Has set (variable var) value
    here set closed =
        subst (λ (v : ℕ). Has set (variable v) value) (omega (arith, from))
        (agrees set closed (var - 1) (omega (arith, from, upto, values_long s.values s.long)))

  pub formula_settled : IsSettled net clauses
  formula_settled =
      record { each = λ decided decides var from upto. sets_variable decided (signs_of decided net.inputs decides) var from upto }

  pub formula_variables : All (IsClauseOf (variable_count net)) clauses
  formula_variables =
      subst (All (IsClauseOf (variable_count net))) (sym is)
      (All-append (IsClauseOf (variable_count net)) (gates_clauses net.inputs net.gates) (goal_clauses goal)
      (gates_apart net.inputs net.gates are) (goal_apart (variable_count net) goal has))
