use Rattle.std.proofs.Common.{◌∙◌, ◌≡◌, ◌+◌, ◌-◌, ◌*◌, ◌^◌, ◌<◌, ℕ, min, ap, sym, pos, arith}
use Rattle.std.specs.Prelude.{◌+ℤ◌, ◌-ℤ◌}
use Rattle.std.specs.Int.{saturate_to_bits}
use Rattle.std.proofs.lemmas.Int.{ints}
use Rattle.bits_core.specs.Number.{signed_value, wrapped}
use Rattle.bits_core.proofs.SignLaws.{half_twice, saturate_biased}
use Rattle.bits_core.proofs.saturation.subtract_saturating_signed.Goals as goal
use Rattle.bits_core.proofs.saturation.subtract_saturating_signed.Goals.{then-right-half, else-right-half}

-- the biased difference, to which half of the range is added once more
top : goal.After-from_biased → ℕ
top c = c.biased-left.result + 2 * 2 ^ (c.args.a.width - 1) - c.biased-right.result

right_below : (c : goal.After-from_biased) → c.biased-right.result < 2 * 2 ^ (c.args.a.width - 1)
right_below c =
    let same : 2 ^ c.args.b.width ≡ 2 ^ c.args.a.width = ap (λ (w : ℕ). 2 ^ w) (sym c.requires) in
    omega (arith, half_twice c.args.a.width c.args.a.some_bit)

difference_is : (c : goal.After-from_biased) → c.if-right-half.difference ≡ min (top c - 2 ^ (c.args.a.width - 1)) (2 * 2 ^ (c.args.a.width - 1) - 1)
unfolding top
difference_is c =
    elim c.if-right-half.branch [
      | then-right-half w ↦ omega (arith, right_below c, half_twice c.args.a.width c.args.a.some_bit)
      | else-right-half w ↦ omega (arith, right_below c, half_twice c.args.a.width c.args.a.some_bit)
    ]

biased_is : (c : goal.After-from_biased) →
    (signed_value c.args.a.width c.args.a.value -ℤ signed_value c.args.b.width c.args.b.value) +ℤ pos (2 * 2 ^ (c.args.a.width - 1)) ≡ pos (top c)
unfolding top
biased_is c =
    let same : 2 ^ (c.args.b.width - 1) ≡ 2 ^ (c.args.a.width - 1) = ap (λ (w : ℕ). 2 ^ (w - 1)) (sym c.requires) in
    omega (arith, ints, right_below c)

pub returns-clause-value : goal.returns-clause-value
returns-clause-value c =
    let left = signed_value c.args.a.width c.args.a.value in
    let right = signed_value c.args.b.width c.args.b.value in
    c.from_biased.ensures.value
    ∙ ap (λ (n : ℕ). wrapped c.args.a.width (pos n -ℤ pos (2 ^ (c.args.a.width - 1)))) (difference_is c)
    ∙ ap (wrapped c.args.a.width) (saturate_biased (c.args.a.width - 1) (top c) (left -ℤ right) (biased_is c))
    ∙ ap (λ (v : ℕ). wrapped c.args.a.width (saturate_to_bits (c.args.a.width - 1) (left -ℤ signed_value v c.args.b.value))) (sym c.requires)
