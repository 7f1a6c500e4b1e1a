-- The watched literals of a pair, and the places of literals among the lists.
use Rattle.std.proofs.Common.{◌≡◌, ◌≢◌, ◌⊎◌, ℕ, ◌+◌, ◌*◌, ◌<◌, ◌≤◌, Bool, true, false, not, ◌||◌, List, [], ◌∷◌, zero, suc, inl, inr, refl, ap, sym, ◌∙◌, arith}
use Rattle.std.specs.Prelude.{IsTrue, Contains, if◌then◌else◌}
use Rattle.std.proofs.lemmas.Bool.{or_cases, or_left, or_right, and_parts, and_from, cases_Bool}
use Rattle.cnf_core.specs.declared.formula.Lit.{Lit}
use Rattle.cnf_core.proofs.Literals.{lit_eq, lit_eq-true, lit_eq-itself, lit_eq-false, lit-same}
use Rattle.unit_propagation.specs.declared.pair.Pair.{Pair}
use Rattle.unit_propagation.specs.LitCodes.{code_of}
use Rattle.unit_propagation.specs.Watching.{watches, IsOther, has}

not_true : (b : Bool) → b ≡ false → not b ≡ true
not_true true e = cc
not_true false e = refl

from_not : (b : Bool) → not b ≡ true → b ≡ false
from_not true e = absurd (cc)
from_not false e = refl

pub differ_eq : (k l : Lit) → k ≢ l → lit_eq k l ≡ false
differ_eq k l differs = elim (cases_Bool (lit_eq k l)) [ inl same ↦ absurd (differs (lit_eq-true k l same)) | inr other ↦ other ]

same_eq : (k l : Lit) → k ≡ l → lit_eq k l ≡ true
same_eq k l same = ap (λ (x : Lit). lit_eq k x) (sym same) ∙ lit_eq-itself k

-- a watched literal is one of two that differ
pub watches_cases : (p : Pair) (l : Lit) → IsTrue (watches p l) → (p.first ≢ p.second) × ((p.first ≡ l) ⊎ (p.second ≡ l))
watches_cases p l is =
    let parts = and_parts (not (lit_eq p.first p.second)) (lit_eq p.first l || lit_eq p.second l) is in (
      lit_eq-false p.first p.second (from_not (lit_eq p.first p.second) parts.0),
      elim (or_cases (lit_eq p.first l) (lit_eq p.second l) parts.1) [
        | inl first ↦ inl (lit_eq-true p.first l first)
        | inr second ↦ inr (lit_eq-true p.second l second)
      ],
    )

pub watches_first : (p : Pair) (l : Lit) → p.first ≢ p.second → p.first ≡ l → IsTrue (watches p l)
watches_first p l differs first = and_from (not (lit_eq p.first p.second)) (lit_eq p.first l || lit_eq p.second l)
    (not_true (lit_eq p.first p.second) (differ_eq p.first p.second differs)) (or_left (lit_eq p.first l) (lit_eq p.second l) (same_eq p.first l first))

pub watches_second : (p : Pair) (l : Lit) → p.first ≢ p.second → p.second ≡ l → IsTrue (watches p l)
watches_second p l differs second = and_from (not (lit_eq p.first p.second)) (lit_eq p.first l || lit_eq p.second l)
    (not_true (lit_eq p.first p.second) (differ_eq p.first p.second differs)) (or_right (lit_eq p.first l) (lit_eq p.second l) (same_eq p.second l second))

pub watches_not : (p : Pair) (l : Lit) → (IsTrue (watches p l) → ⊥) → watches p l ≡ false
watches_not p l none = elim (cases_Bool (watches p l)) [ inl is_so ↦ absurd (none is_so) | inr is_not ↦ is_not ]

-- the two of a pair are watched, and no third
pub other_differ : (p : Pair) (l other : Lit) → IsOther p l other → p.first ≢ p.second
other_differ p l other (differs, inl (a, b)) same = differs (sym b ∙ sym same ∙ a)
other_differ p l other (differs, inr (a, b)) same = differs (sym a ∙ same ∙ b)

pub other_this : (p : Pair) (l other : Lit) → IsOther p l other → IsTrue (watches p l)
other_this p l other (differs, inl (a, b)) = watches_first p l (other_differ p l other (differs, inl (a, b))) a
other_this p l other (differs, inr (a, b)) = watches_second p l (other_differ p l other (differs, inr (a, b))) b

pub other_other : (p : Pair) (l other : Lit) → IsOther p l other → IsTrue (watches p other)
other_other p l other (differs, inl (a, b)) = watches_second p other (other_differ p l other (differs, inl (a, b))) b
other_other p l other (differs, inr (a, b)) = watches_first p other (other_differ p l other (differs, inr (a, b))) a

pub other_only : (p : Pair) (l other k : Lit) → IsOther p l other → IsTrue (watches p k) → (k ≡ l) ⊎ (k ≡ other)
other_only p l other k (differs, inl (a, b)) is = elim (watches_cases p k is).1 [ inl first ↦ inl (sym first ∙ a) | inr second ↦ inr (sym second ∙ b) ]
other_only p l other k (differs, inr (a, b)) is = elim (watches_cases p k is).1 [ inl first ↦ inr (sym first ∙ a) | inr second ↦ inl (sym second ∙ b) ]

-- a literal that stands in a clause
pub has_contains : (l : Lit) (clause : List Lit) → IsTrue (has l clause) → Contains clause l
has_contains l [] h = absurd (cc)
has_contains l (k ∷ ks) h = elim (or_cases (lit_eq k l) (has l ks) h) [
  | inl here ↦ (0, omega arith, lit_eq-true k l here)
  | inr later ↦ after (has_contains l ks later)
] where
  after : Contains ks l → Contains (k ∷ ks) l
  after (i, inside, at) = (suc i, omega arith, at)

pub contains_has : (l : Lit) (clause : List Lit) → Contains clause l → IsTrue (has l clause)
contains_has l [] (i, inside, at) = absurd (omega arith)
contains_has l (k ∷ ks) (zero, inside, at) = or_left (lit_eq k l) (has l ks) (same_eq k l at)
contains_has l (k ∷ ks) (suc i, inside, at) = or_right (lit_eq k l) (has l ks) (contains_has l ks (i, omega arith, at))

code_apart : (a b : Lit) (s t : Bool) → a.positive ≡ s → b.positive ≡ t →
    2 * a.var + (if s then 1 else 0) ≡ 2 * b.var + (if t then 1 else 0) → a ≡ b
code_apart a b true true e f same = lit-same a b (omega arith) (e ∙ sym f)
code_apart a b true false e f same = absurd (omega arith)
code_apart a b false true e f same = absurd (omega arith)
code_apart a b false false e f same = lit-same a b (omega arith) (e ∙ sym f)

-- different literals have different places
pub code_same : (a b : Lit) → code_of a ≡ code_of b → a ≡ b
code_same a b = code_apart a b a.positive b.positive refl refl

pub code_below : (l : Lit) (width size : ℕ) → l.var < width → 2 * width ≤ size → code_of l < size
code_below l width size inside enough = below l.positive where
  below : (s : Bool) → 2 * l.var + (if s then 1 else 0) < size
  below true = omega arith
  below false = omega arith
