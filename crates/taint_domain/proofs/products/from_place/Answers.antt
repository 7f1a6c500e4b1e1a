use Rattle.std.proofs.Common.{◌≡◌, ◌<◌, ◌≤◌, ◌-◌, ℕ, ap, ◌∙◌, arith, ⊎_elim}
use Rattle.std.specs.Prelude.{nat_lt}
use Rattle.std.specs.Int.{bit_at}
use Rattle.std.proofs.lemmas.Bool.{cases_lt, cond-true, cond-false, lt-ltb, le-ltb}
use Rattle.std.proofs.lemmas.Nat.Bits.{bit_at_above, bit_at_ones}
use Rattle.bits_core.proofs.PlaceLaws.{bit_at_shift_left}
use Rattle.taint_domain.proofs.products.from_place.Goals as goal

pub returns-clause-below : goal.returns-clause-below
returns-clause-below c = λ i low.
    let m = c.apply.result.value in
    let x = c.every_bit.result.value in
    let w = c.every_bit.result.width in
    ⊎_elim
    (λ (within : i < w).
    ap (λ (n : ℕ). bit_at n i) c.apply.ensures.value
    ∙ bit_at_shift_left w x 16 c.args.place i within
    ∙ cond-true (nat_lt i c.args.place) 0 (bit_at x (i - c.args.place)) (lt-ltb i c.args.place low))
    (λ (past : w ≤ i). bit_at_above m c.apply.result.width i c.apply.result.fits (omega (arith, c.apply.ensures.width)))
    (cases_lt i w)

pub returns-clause-above : goal.returns-clause-above
returns-clause-above c = λ i within high.
    let x = c.every_bit.result.value in
    let w = c.every_bit.result.width in
    let inside : i < w = omega (arith, c.every_bit.ensures.width) in
    let ones : bit_at x (i - c.args.place) ≡ 1 =
    ap (λ (n : ℕ). bit_at n (i - c.args.place)) c.every_bit.ensures.value ∙ bit_at_ones c.args.width (i - c.args.place) (omega arith) in
    ap (λ (n : ℕ). bit_at n i) c.apply.ensures.value
    ∙ bit_at_shift_left w x 16 c.args.place i inside
    ∙ cond-false (nat_lt i c.args.place) 0 (bit_at x (i - c.args.place)) (le-ltb i c.args.place high)
    ∙ ones
