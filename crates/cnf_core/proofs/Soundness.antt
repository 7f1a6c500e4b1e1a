-- Unit propagation is sound: what holds in a valuation that makes the clauses and the decided literals true.
use Rattle.std.proofs.Common.{◌≡◌, ◌≢◌, ◌-◌, ◌⊎◌, Bool, true, false, not, List, [], ◌∷◌, zero, suc, get_or, inl, inr, refl, ap, ◌∙◌, subst, arith}
use Rattle.std.specs.Prelude.{IsTrue, All, Any}
use Rattle.std.proofs.Math.Bool.{beq}
use Rattle.std.proofs.lemmas.Bool.{both_ways, not_from_true, cases_Bool}
use Rattle.std.proofs.lemmas.Option.{get_or_from_slice_get}
use Rattle.std.proofs.lemmas.List.Elements.{All-contains}
use Rattle.cnf_core.specs.declared.formula.Lit.{Lit}
use Rattle.cnf_core.specs.Literal.{negation, LitSet}
use Rattle.cnf_core.specs.Truth.{Satisfies, SatisfiesAll}
use Rattle.cnf_core.specs.Propagation.{IsClosed, Sets, Conflicts}
use Rattle.cnf_core.proofs.Literals.{lit-cases}

-- a set that has one of each literal and its negation: a valuation of all variables
abbrev pub IsComplete : LitSet → Type 0
IsComplete set = (l : Lit) → set (negation l) ≡ not (set l)

-- some literal of the clause is in the set
abbrev pub Meets : LitSet → List Lit → Type 0
Meets set clause = Any (λ l. IsTrue (set l)) clause

pub not_both : (set : LitSet) (l : Lit) → IsComplete set → IsTrue (set l) → IsTrue (set (negation l)) → ⊥
not_both set l complete holds falsified = both_ways (set (negation l)) (complete l ∙ not_from_true (set l) holds) falsified

-- a clause that the set meets gives what it leaves
pub meets-leaves : (set : LitSet) (clause : List Lit) (l : Lit) → IsComplete set → Meets set clause →
    All (λ k. k ≢ l → IsTrue (set (negation k))) clause → IsTrue (set l)
meets-leaves set clause l complete (i, x, inside, at, holds) leaves = elim (lit-cases x l) [
  | inl same ↦ subst (λ (k : Lit). IsTrue (set k)) same holds
  | inr differs ↦ absurd (not_both set x complete holds
      (All-contains (λ k. k ≢ l → IsTrue (set (negation k))) clause x leaves (i, inside, at) differs))
]

pub no_conflict-meets : (set : LitSet) (clauses : List (List Lit)) (decided : List Lit) → IsComplete set → All (Meets set) clauses →
    All (λ l. IsTrue (set l)) decided → Conflicts clauses decided → ⊥
no_conflict-meets set clauses decided complete meets decides (k, clause, inside, at, falsified) = none (here) where
  closed : IsClosed clauses decided set
  closed = record {
    decides = decides;
    closes = λ c l stands in_clause leaves. meets-leaves set c l complete (All-contains (Meets set) clauses c meets stands) leaves;
  }

  here : Meets set clause
  here = All-contains (Meets set) clauses clause meets (k, inside, at)

  none : Meets set clause → ⊥
  none (i, x, in_clause, x_at, holds) =
      not_both set x complete holds (All-contains (λ l. Sets clauses decided (negation l)) clause x falsified (i, in_clause, x_at) set closed)

-- the set of the literals that a valuation makes true; of variables past its end the negations
abbrev pub true_literals : List Bool → LitSet
true_literals valuation l = beq (get_or valuation (l.var - 1) false) l.positive

beq-not : (a b : Bool) → beq a (not b) ≡ not (beq a b)
beq-not true true = refl
beq-not true false = refl
beq-not false true = refl
beq-not false false = refl

beq-itself : (a : Bool) → beq a a ≡ true
beq-itself true = refl
beq-itself false = refl

pub true_literals-complete : (valuation : List Bool) → IsComplete (true_literals valuation)
true_literals-complete valuation l = beq-not (get_or valuation (l.var - 1) false) l.positive

pub meets-satisfied : (valuation : List Bool) (clause : List Lit) → Satisfies valuation clause → Meets (true_literals valuation) clause
meets-satisfied valuation clause (i, l, inside, at, holds) = (
  i,
  l,
  inside,
  at,
  ap (λ (b : Bool). beq b l.positive) (get_or_from_slice_get valuation (l.var - 1) l.positive false holds.1) ∙ beq-itself l.positive,
)

pub meets-all : (valuation : List Bool) (clauses : List (List Lit)) → SatisfiesAll valuation clauses → All (Meets (true_literals valuation)) clauses
meets-all valuation clauses satisfied k d inside = meets-satisfied valuation (get_or clauses k d) (satisfied k d inside)

-- a clause meets the set, or its literals are all outside
pub meets-cases : (set : LitSet) (clause : List Lit) → Meets set clause ⊎ All (λ l. set l ≡ false) clause
meets-cases set [] = inr (λ k d inside. absurd (omega arith))
meets-cases set (x ∷ xs) = elim (cases_Bool (set x)) [
  | inl here ↦ inl (0, x, omega arith, refl, here)
  | inr not_here ↦ elim (meets-cases set xs) [
    | inl later ↦ inl (after later)
    | inr none ↦ inr (all none not_here)
  ]
] where
  after : Meets set xs → Meets set (x ∷ xs)
  after (k, l, inside, at, holds) = (suc k, l, omega arith, at, holds)

  all : All (λ l. set l ≡ false) xs → set x ≡ false → All (λ l. set l ≡ false) (x ∷ xs)
  all none first zero d inside = first
  all none first (suc k) d inside = none k d (omega arith)
