use Rattle.std.proofs.Common.{◌≡◌, arith}
use Rattle.std.specs.Prelude.{bit_or}
use Rattle.taint_domain.proofs.EqualityLemmas.{IsOpen, equal_differs, equal_needs_mask, equal_needs_open}
use Rattle.taint_domain.proofs.comparisons.equality_may_differ.Goals as goal

pub returns-then-either-open : goal.returns-then-either-open
returns-then-either-open c =
    let a = c.args.a.now in
    let b = c.args.b.now in
    let masks : c.either-open.result.value ≡ bit_or a.mask.value b.mask.value = c.either-open.ensures.value in
    let is : IsOpen a b = cc in (
      (λ some. equal_differs a b c.requires is (λ none. absurd (grind arith))),
      (λ other. let mask = equal_needs_mask a b other in grind arith),
    )

pub returns-else-either-open : goal.returns-else-either-open
returns-else-either-open c =
    let a = c.args.a.now in
    let b = c.args.b.now in (
      (λ same. absurd (grind arith)),
      (λ other. let is = equal_needs_open a b other in let e : c.either.result.value ≡ c.either-open.result.value = cc in grind arith),
    )
