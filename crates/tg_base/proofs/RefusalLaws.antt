-- Refusals of one pass are in order: by their places in the source, and at one place by their numbers.
use Rattle.std.proofs.Common.{◌≡◌, ℕ, ◌==◌, sym, refl, ap, ◌∙◌, arith, inl, inr, if◌then◌else◌}
use Rattle.std.proofs.Math.Nat.{le_refl}
use Rattle.tg_base.specs.declared.place.Code.{Code}
use Rattle.tg_base.specs.declared.place.Code.TheVariants.{NotText, Lex, Directive, Syntax, TooDeep, Limit, Name, Constant, Typing, Unsupported, Package, NotBuilt}
use Rattle.tg_base.specs.declared.place.Refusal.{Refusal}
use Rattle.tg_base.specs.Code.{number_of}
use Rattle.tg_base.specs.Deciding.{StandsBefore, DecidesOver}

-- ---- a code and its number

abbrev code_at : ℕ → Code
code_at n =
    if n == 10 then NotText
    else (if n == 11 then Lex
    else (if n == 12 then Directive
    else (if n == 13 then Syntax
    else (if n == 14 then TooDeep
    else (if n == 15 then Limit
    else (if n == 16 then Name
    else (if n == 17 then Constant
    else (if n == 18 then Typing
    else (if n == 19 then Unsupported
    else (if n == 20 then Package
    else NotBuilt))))))))))

code_there : (c : Code) → code_at (number_of c) ≡ c
code_there NotText = refl
code_there Lex = refl
code_there Directive = refl
code_there Syntax = refl
code_there TooDeep = refl
code_there Limit = refl
code_there Name = refl
code_there Constant = refl
code_there Typing = refl
code_there Unsupported = refl
code_there Package = refl
code_there NotBuilt = refl

pub one_code : (c d : Code) → number_of c ≡ number_of d → c ≡ d
one_code c d e = sym (code_there c) ∙ ap code_at e ∙ code_there d

-- ---- the order

pub decides_over_itself : (r : Refusal) → DecidesOver r r
decides_over_itself r = inr (refl, refl, le_refl _)

pub decides_along : (r s t : Refusal) → DecidesOver r s → DecidesOver s t → DecidesOver r t
decides_along r s t (inl (inl a)) (inl (inl b)) = inl (inl (omega (arith, a, b)))
decides_along r s t (inl (inl a)) (inl (inr (e, b))) = inl (inl (omega (arith, a, e)))
decides_along r s t (inl (inl a)) (inr (e, f, b)) = inl (inl (omega (arith, a, e)))
decides_along r s t (inl (inr (d, a))) (inl (inl b)) = inl (inl (omega (arith, d, b)))
decides_along r s t (inl (inr (d, a))) (inl (inr (e, b))) = inl (inr (d ∙ e, omega (arith, a, b)))
decides_along r s t (inl (inr (d, a))) (inr (e, f, b)) = inl (inr (d ∙ e, omega (arith, a, f)))
decides_along r s t (inr (d, g, a)) (inl (inl b)) = inl (inl (omega (arith, d, b)))
decides_along r s t (inr (d, g, a)) (inl (inr (e, b))) = inl (inr (d ∙ e, omega (arith, g, b)))
decides_along r s t (inr (d, g, a)) (inr (e, f, b)) = inr (d ∙ e, g ∙ f, omega (arith, a, b))

same_refusal : (r s : Refusal) → r.code ≡ s.code → r.line ≡ s.line → r.column ≡ s.column → r ≡ s
same_refusal r s code line column =
    ap (λ c. record { code = c; line = r.line; column = r.column }) code
    ∙ ap (λ n. record { code = s.code; line = n; column = r.column }) line
    ∙ ap (λ n. record { code = s.code; line = s.line; column = n }) column

-- a refusal does not stand before one that decides over it
not_before : (r s : Refusal) → StandsBefore r s → DecidesOver s r → ⊥
not_before r s (inl above) (inl (inl below)) = omega (arith, above, below)
not_before r s (inl above) (inl (inr (line, column))) = omega (arith, above, line)
not_before r s (inl above) (inr (line, column, code)) = omega (arith, above, line)
not_before r s (inr (line, column)) (inl (inl below)) = omega (arith, line, below)
not_before r s (inr (line, column)) (inl (inr (other, before))) = omega (arith, column, before)
not_before r s (inr (line, column)) (inr (other, same, code)) = omega (arith, column, same)

-- refusals that decide over one another are the same
pub decide_both : (r s : Refusal) → DecidesOver r s → DecidesOver s r → r ≡ s
decide_both r s (inl before) over = absurd (not_before r s before over)
decide_both r s (inr same) (inl before) = absurd (not_before s r before (inr same))
decide_both r s (inr (line, column, code)) (inr (other, too, back)) =
    same_refusal r s (one_code r.code s.code (omega (arith, code, back))) line column
