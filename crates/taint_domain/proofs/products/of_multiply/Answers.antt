use Rattle.std.proofs.Common.{◌≡◌, ◌⊎◌, inl, inr, ℕ, ◌+◌, ◌<◌, ◌≤◌, ◌^◌, ◌∙◌, min, sym, subst, arith, ⊎_elim}
use Rattle.std.proofs.lemmas.Bool.{cases_lt}
use Rattle.taint_domain.proofs.MayBeLemmas.{greatest_of, greatest_is}
use Rattle.taint_domain.proofs.ProductLemmas.{IsLowest, product_masks_all, product_settled}
use Rattle.taint_domain.proofs.products.of_multiply.Goals as goal

least_of_two : (m n : ℕ) → (min m n ≡ m) ⊎ (min m n ≡ n)
least_of_two m n =
    ⊎_elim (λ (less : m < n). inl (omega arith)) (λ (most : n ≤ m). inr (omega arith)) (cases_lt m n)

-- of the ends, as of the values that the code has of them
first_lowest : (c : goal.After-from_place) → IsLowest c.args.a.now.mask.value c.lowest_place.result
first_lowest c = record {
  below = c.lowest_place.ensures.below;
  lowest = c.lowest_place.ensures.lowest;
  none = c.lowest_place.ensures.none;
}

first_zeros : (c : goal.After-from_place) → IsLowest (greatest_of c.args.b.now) c.lowest_place-2.result
first_zeros c =
    subst (λ (n : ℕ). IsLowest n c.lowest_place-2.result) (c.greatest.ensures.value ∙ sym (greatest_is c.args.b.now)) (record {
      below = c.lowest_place-2.ensures.below;
      lowest = c.lowest_place-2.ensures.lowest;
      none = c.lowest_place-2.ensures.none;
    })

second_lowest : (c : goal.After-from_place) → IsLowest c.args.b.now.mask.value c.lowest_place-3.result
second_lowest c = record {
  below = c.lowest_place-3.ensures.below;
  lowest = c.lowest_place-3.ensures.lowest;
  none = c.lowest_place-3.ensures.none;
}

second_zeros : (c : goal.After-from_place) → IsLowest (greatest_of c.args.a.now) c.lowest_place-4.result
second_zeros c =
    subst (λ (n : ℕ). IsLowest n c.lowest_place-4.result) (c.greatest-2.ensures.value ∙ sym (greatest_is c.args.a.now)) (record {
      below = c.lowest_place-4.ensures.below;
      lowest = c.lowest_place-4.ensures.lowest;
      none = c.lowest_place-4.ensures.none;
    })

pub returns-clause-all : goal.returns-clause-all
returns-clause-all c =
    product_masks_all c.args.a.now c.args.b.now c.from_place.result.value _ _ _ _ _ c.requires
    (first_lowest c) (first_zeros c) (second_lowest c) (second_zeros c)
    (record { below = c.from_place.ensures.below; above = c.from_place.ensures.above }) (omega arith) (omega arith)

pub returns-clause-settled : goal.returns-clause-settled
returns-clause-settled c =
    product_settled c.args.a.now c.args.b.now c.from_place.result.value _ _ _ _ _ c.requires
    (first_lowest c) (first_zeros c) (second_lowest c) (second_zeros c)
    (record { below = c.from_place.ensures.below; above = c.from_place.ensures.above })
    (subst (λ (n : ℕ). (n ≡ c.lowest_place.result + c.lowest_place-2.result) ⊎ (n ≡ c.lowest_place-3.result + c.lowest_place-4.result))
    (sym c.min.ensures)
    (least_of_two (c.lowest_place.result + c.lowest_place-2.result) (c.lowest_place-3.result + c.lowest_place-4.result)))
    (subst (λ (w : ℕ). c.from_place.result.value < 2 ^ w) c.from_place.ensures.width c.from_place.result.fits)
