use Rattle.std.proofs.Common.{◌≡◌, sym, ◌∙◌, arith}
use Rattle.taint_domain.proofs.MayBeLemmas.{least_of, greatest_of, least_is, greatest_is}
use Rattle.taint_domain.proofs.TestLemmas.{less_differs, less_needs}
use Rattle.taint_domain.proofs.comparisons.less_may_differ.Goals as goal

pub returns-then-least-greatest : goal.returns-then-least-greatest
returns-then-least-greatest c =
    let a = c.args.a.now in
    let b = c.args.b.now in
    let low : c.least.result.value ≡ least_of a = c.least.ensures.value ∙ sym (least_is a) in
    let high : c.greatest.result.value ≡ greatest_of b = c.greatest.ensures.value ∙ sym (greatest_is b) in
    let other_low : c.least-then-least-greatest.result.value ≡ least_of b =
    c.least-then-least-greatest.ensures.value ∙ sym (least_is b) in
    let other_high : c.greatest-then-least-greatest.result.value ≡ greatest_of a =
    c.greatest-then-least-greatest.ensures.value ∙ sym (greatest_is a) in
    ((λ h. less_differs a b (omega arith) (grind arith)), (λ other. let needs = less_needs a b other in grind arith))

pub returns-else-least-greatest : goal.returns-else-least-greatest
returns-else-least-greatest c =
    let a = c.args.a.now in
    let b = c.args.b.now in
    let low : c.least.result.value ≡ least_of a = c.least.ensures.value ∙ sym (least_is a) in
    let high : c.greatest.result.value ≡ greatest_of b = c.greatest.ensures.value ∙ sym (greatest_is b) in
    ((λ h. absurd (grind arith)), (λ other. let needs = less_needs a b other in grind arith))
