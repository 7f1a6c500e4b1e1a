-- Literals: two are equal where their variables and signs are, and the negation of a negation is the literal.
use Rattle.std.proofs.Common.{◌≡◌, ◌≢◌, ℕ, Bool, true, false, not, ◌&&◌, eqb, refl, ap, sym, ◌∙◌, ◌⊎◌, inl, inr}
use Rattle.std.proofs.Math.Bool.{beq}
use Rattle.std.proofs.lemmas.Bool.{eqb-true, eq-eqb, and_parts, and_from, both_ways}
use Rattle.cnf_core.specs.declared.formula.Lit.{Lit}
use Rattle.cnf_core.specs.Literal.{negation}

abbrev pub lit : ℕ → Bool → Lit
lit var positive = record { var = var; positive = positive }

-- what a read past the end would give
abbrev pub no_lit : Lit
no_lit = lit 0 false

pub lit-same : (k l : Lit) → k.var ≡ l.var → k.positive ≡ l.positive → k ≡ l
lit-same k l vars signs = ap (λ (v : ℕ). lit v k.positive) vars ∙ ap (λ (b : Bool). lit l.var b) signs

negation_negation_at : (v : ℕ) (b : Bool) → negation (negation (lit v b)) ≡ lit v b
negation_negation_at v true = refl
negation_negation_at v false = refl

pub negation_negation : (l : Lit) → negation (negation l) ≡ l
negation_negation l = negation_negation_at l.var l.positive

beq-same : (a b : Bool) → beq a b ≡ true → a ≡ b
beq-same true true e = refl
beq-same true false e = absurd (cc)
beq-same false true e = absurd (cc)
beq-same false false e = refl

beq-itself : (a : Bool) → beq a a ≡ true
beq-itself true = refl
beq-itself false = refl

-- the test that `==` makes
abbrev pub lit_eq : Lit → Lit → Bool
lit_eq a b = eqb a.var b.var && beq a.positive b.positive

pub lit_eq-true : (a b : Lit) → lit_eq a b ≡ true → a ≡ b
lit_eq-true a b e =
    let parts = and_parts (eqb a.var b.var) (beq a.positive b.positive) e in
    lit-same a b (eqb-true a.var b.var parts.0) (beq-same a.positive b.positive parts.1)

pub lit_eq-itself : (a : Lit) → lit_eq a a ≡ true
lit_eq-itself a = and_from (eqb a.var a.var) (beq a.positive a.positive) (eq-eqb a.var a.var refl) (beq-itself a.positive)

pub lit_eq-false : (a b : Lit) → lit_eq a b ≡ false → a ≢ b
lit_eq-false a b e same = both_ways (lit_eq a b) e (ap (λ (x : Lit). lit_eq a x) (sym same) ∙ lit_eq-itself a)

true_or_false : (b : Bool) → (b ≡ true) ⊎ (b ≡ false)
true_or_false true = inl refl
true_or_false false = inr refl

pub lit-cases : (a b : Lit) → (a ≡ b) ⊎ (a ≢ b)
lit-cases a b = elim (true_or_false (lit_eq a b)) [ inl same ↦ inl (lit_eq-true a b same) | inr other ↦ inr (lit_eq-false a b other) ]

-- two literals of one variable are equal, or each is the other's negation
signs-cases : (v : ℕ) (a b : Bool) → (lit v a ≡ lit v b) ⊎ (lit v a ≡ negation (lit v b))
signs-cases v true true = inl refl
signs-cases v true false = inr refl
signs-cases v false true = inr refl
signs-cases v false false = inl refl

pub same_var-cases : (a b : Lit) → a.var ≡ b.var → (a ≡ b) ⊎ (a ≡ negation b)
same_var-cases a b vars =
    let shift : a ≡ lit b.var a.positive = ap (λ (v : ℕ). lit v a.positive) vars in
    elim (signs-cases b.var a.positive b.positive) [ inl same ↦ inl (shift ∙ same) | inr other ↦ inr (shift ∙ other) ]

pub negation-not_itself : (l : Lit) → l ≡ negation l → ⊥
negation-not_itself l e = not_itself l.positive (ap (λ (k : Lit). k.positive) e) where
  not_itself : (b : Bool) → b ≡ not b → ⊥
  not_itself true h = absurd (cc)
  not_itself false h = absurd (cc)
