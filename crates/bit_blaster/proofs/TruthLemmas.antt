-- Clauses that are true under values, and literals that a closed set has.
use Rattle.std.proofs.Common.{◌≡◌, ◌≢◌, ℕ, suc, ◌-◌, ◌<◌, Bool, true, false, List, [], ◌∷◌, ◌++◌, length, get_or, refl, sym, ap, ◌∙◌, subst, arith, inl, inr}
use Rattle.std.specs.Prelude.{IsTrue, not, ◌||◌, if◌then◌else◌, Some}
use Rattle.std.specs.List.{All, Contains}
use Rattle.std.proofs.lemmas.Bool.{cases_Bool}
use Rattle.std.proofs.lemmas.List.{length-append, get_or_append_left}
use Rattle.std.proofs.lemmas.List.Elements.{All-from_recursion, All-head, All-tail, All-weaker, Contains-append_left, Contains-append_right}
use Rattle.std.proofs.lemmas.Option.{slice_get-get_or, slice_get_within, get_or_from_slice_get}
use Rattle.cnf_core.specs.declared.formula.Lit.{Lit}
use Rattle.cnf_core.specs.Literal.{negation, LitSet}
use Rattle.cnf_core.specs.Propagation.{Leaves}
use Rattle.cnf_core.specs.Truth.{IsTrueUnder, Satisfies, SatisfiesAll}
use Rattle.cnf_core.proofs.Literals.{lit, negation_negation}
use Rattle.bit_blaster.specs.declared.wire.Wire.TheVariants.{Literal}
use Rattle.bit_blaster.specs.Gate.{literal_value, IsLiteralOf}
use Rattle.bit_blaster.specs.Tseitin.{variable}
use Rattle.bit_blaster.proofs.GateLemmas.{opposite_value}

-- ---- truth

pub value_of_negation : (values : List Bool) (l : Lit) → literal_value values (negation l) ≡ not (literal_value values l)
value_of_negation values l = opposite_value values (Literal l)

sign_of_true : (sign b : Bool) → (if sign then b else not b) ≡ true → b ≡ sign
sign_of_true true true e = refl
sign_of_true true false e = absurd (cc)
sign_of_true false true e = absurd (cc)
sign_of_true false false e = refl

pub literal_is_true : (values : List Bool) (l : Lit) → IsLiteralOf (length values) l → literal_value values l ≡ true → IsTrueUnder values l
literal_is_true values l within e = (
  omega (arith, within.0),
  slice_get-get_or values (l.var - 1) false (omega (arith, within.0, within.1))
      ∙ ap Some (sign_of_true l.positive (get_or values (l.var - 1) false) e),
)

-- whether some literal of the clause is true
abbrev pub any_true : List Bool → List Lit → Bool
any_true values [] = false
any_true values (l ∷ ls) = literal_value values l || any_true values ls

pub satisfied : (values : List Bool) (clause : List Lit) → All (IsLiteralOf (length values)) clause → any_true values clause ≡ true →
    Satisfies values clause
satisfied values [] within e = absurd (cc)
satisfied values (l ∷ ls) within e = elim (cases_Bool (literal_value values l)) [
  | inl here ↦ (0, l, omega arith, refl, literal_is_true values l (All-head (IsLiteralOf (length values)) l ls within) here)
  | inr not_here ↦ later (satisfied values ls (All-tail (IsLiteralOf (length values)) l ls within)
      (subst (λ (b : Bool). (b || any_true values ls) ≡ true) not_here e))
] where
  later : Satisfies values ls → Satisfies values (l ∷ ls)
  later (k, x, inside, at, holds) = (suc k, x, omega arith, at, holds)

true_kept : (values more : List Bool) (l : Lit) → IsTrueUnder values l → IsTrueUnder (values ++ more) l
true_kept values more l (from, at) = (
  from,
  slice_get-get_or (values ++ more) (l.var - 1) false (omega (arith, inside, length-append values more))
      ∙ ap Some (get_or_append_left values more false (l.var - 1) inside ∙ get_or_from_slice_get values (l.var - 1) l.positive false at),
) where
  inside : l.var - 1 < length values
  inside = slice_get_within values (l.var - 1) l.positive at

satisfied_kept : (values more : List Bool) (clause : List Lit) → Satisfies values clause → Satisfies (values ++ more) clause
satisfied_kept values more clause (k, l, inside, at, holds) = (k, l, inside, at, true_kept values more l holds)

pub all_satisfied_kept : (values more : List Bool) (clauses : List (List Lit)) → SatisfiesAll values clauses → SatisfiesAll (values ++ more) clauses
all_satisfied_kept values more clauses all =
    All-weaker (Satisfies values) (Satisfies (values ++ more)) (satisfied_kept values more) clauses all

-- ---- sets

-- the set has the literal or its negation, as this truth value says
abbrev pub Has : LitSet → Lit → Bool → Type 0
Has set l true = IsTrue (set l)
Has set l false = IsTrue (set (negation l))

pub has_negation : (set : LitSet) (l : Lit) (truth : Bool) → Has set l truth → Has set (negation l) (not truth)
has_negation set l true h = subst (λ (k : Lit). IsTrue (set k)) (sym (negation_negation l)) h
has_negation set l false h = h

-- the set has what a clause leaves
abbrev pub Closes : List (List Lit) → LitSet → Type 0
Closes clauses set =
    (clause : List Lit) (l : Lit) → Contains clauses clause → Contains clause l → Leaves set clause l → IsTrue (set l)

pub closes_left : (set : LitSet) (first rest : List (List Lit)) → Closes (first ++ rest) set → Closes first set
closes_left set first rest closes clause l stands = closes clause l (Contains-append_left first rest clause stands)

pub closes_right : (set : LitSet) (first rest : List (List Lit)) → Closes (first ++ rest) set → Closes rest set
closes_right set first rest closes clause l stands = closes clause l (Contains-append_right first rest clause stands)

module _ (set : LitSet) (clauses : List (List Lit)) (closes : Closes clauses set) where
  pub second_is_set : (k l : Lit) → Contains clauses (k ∷ l ∷ []) → Has set k false → IsTrue (set l)
  second_is_set k l stands h =
      closes (k ∷ l ∷ []) l stands (1, omega arith, refl)
      (All-from_recursion (λ j. j ≢ l → IsTrue (set (negation j))) (k ∷ l ∷ [])
      ((λ differs. h), ((λ differs. absurd (differs refl)), tt)))

  pub third_is_set : (j k l : Lit) → Contains clauses (j ∷ k ∷ l ∷ []) → Has set j false → Has set k false → IsTrue (set l)
  third_is_set j k l stands h i =
      closes (j ∷ k ∷ l ∷ []) l stands (2, omega arith, refl)
      (All-from_recursion (λ m. m ≢ l → IsTrue (set (negation m))) (j ∷ k ∷ l ∷ [])
      ((λ differs. h), ((λ differs. i), ((λ differs. absurd (differs refl)), tt))))

-- the set has the values' literals
abbrev pub Agrees : LitSet → List Bool → Type 0
Agrees set values = (i : ℕ) → i < length values → Has set (variable (suc i)) (get_or values i false)

has_signed : (set : LitSet) (v : ℕ) (sign truth : Bool) → Has set (variable v) truth → Has set (lit v sign) (if sign then truth else not truth)
has_signed set v true truth h = h
has_signed set v false truth h = has_negation set (variable v) truth h

pub agrees_on : (set : LitSet) (values : List Bool) → Agrees set values → (l : Lit) → IsLiteralOf (length values) l →
    Has set l (literal_value values l)
agrees_on set values agrees l within =
    has_signed set l.var l.positive (get_or values (l.var - 1) false)
    (subst (λ (v : ℕ). Has set (variable v) (get_or values (l.var - 1) false)) (omega (arith, within.0))
    (agrees (l.var - 1) (omega (arith, within.0, within.1))))
