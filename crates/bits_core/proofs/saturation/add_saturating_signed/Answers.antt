use Rattle.std.proofs.Common.{◌∙◌, ◌≡◌, ◌+◌, ◌-◌, ◌*◌, ◌^◌, ℕ, min, ap, sym, pos, arith}
use Rattle.std.specs.Prelude.{◌+ℤ◌, ◌-ℤ◌}
use Rattle.std.specs.Int.{saturate_to_bits}
use Rattle.std.proofs.lemmas.Int.{ints}
use Rattle.bits_core.specs.Number.{signed_value, wrapped}
use Rattle.bits_core.proofs.SignLaws.{half_twice, saturate_biased}
use Rattle.bits_core.proofs.saturation.add_saturating_signed.Goals as goal
use Rattle.bits_core.proofs.saturation.add_saturating_signed.Goals.{then-right-half, else-right-half}

-- what the code adds up to, in either branch
sum_is : (c : goal.After-from_biased) →
    c.if-right-half.sum ≡ min (c.biased-left.result + c.biased-right.result - 2 ^ (c.args.a.width - 1)) (2 * 2 ^ (c.args.a.width - 1) - 1)
sum_is c =
    elim c.if-right-half.branch [
      | then-right-half w ↦ omega (arith, half_twice c.args.a.width c.args.a.some_bit)
      | else-right-half w ↦ omega (arith, half_twice c.args.a.width c.args.a.some_bit)
    ]

pub returns-clause-value : goal.returns-clause-value
returns-clause-value c =
    let left = signed_value c.args.a.width c.args.a.value in
    let right = signed_value c.args.b.width c.args.b.value in
    let same : 2 ^ (c.args.b.width - 1) ≡ 2 ^ (c.args.a.width - 1) = ap (λ (w : ℕ). 2 ^ (w - 1)) (sym c.requires) in
    let biased : (left +ℤ right) +ℤ pos (2 * 2 ^ (c.args.a.width - 1)) ≡ pos (c.biased-left.result + c.biased-right.result) = omega (arith, ints) in
    c.from_biased.ensures.value
    ∙ ap (λ (n : ℕ). wrapped c.args.a.width (pos n -ℤ pos (2 ^ (c.args.a.width - 1)))) (sum_is c)
    ∙ ap (wrapped c.args.a.width) (saturate_biased (c.args.a.width - 1) (c.biased-left.result + c.biased-right.result) (left +ℤ right) biased)
    ∙ ap (λ (v : ℕ). wrapped c.args.a.width (saturate_to_bits (c.args.a.width - 1) (left +ℤ signed_value v c.args.b.value))) (sym c.requires)
