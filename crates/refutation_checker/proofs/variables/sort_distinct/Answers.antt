-- What a sort and the removal of repeats leave.
use Rattle.std.proofs.Common.{◌≡◌, ℕ, List, eqb, ◌∙◌, sym, subst}
use Rattle.std.specs.Prelude.{Contains}
use Rattle.std.specs.List.{dedup}
use Rattle.std.specs.List.Sorted.{IsStrictlyIncreasing}
use Rattle.std.proofs.lemmas.List.Filters.{dedup_is}
use Rattle.std.proofs.lemmas.List.Kept.{Contains-dedup_nat, Contains-from_dedup}
use Rattle.std.proofs.lemmas.List.Sorted.{Contains-permutation, IsPermutation-sym}
use Rattle.std.proofs.lemmas.Map.Keys.{IsStrictlyIncreasing-dedup}
use Rattle.refutation_checker.proofs.variables.sort_distinct.Goals as goal

pub returns-clause-rising : goal.returns-clause-rising
returns-clause-rising c =
    let sorted = c.sort_unstable.new.self.items in
    let is : c.shrink_to_fit.new.self.items ≡ dedup eqb sorted = c.shrink_to_fit.ensures.items ∙ dedup_is eqb sorted c.dedup.new.self.items c.dedup.ensures.filtered in
    subst IsStrictlyIncreasing (sym is) (IsStrictlyIncreasing-dedup sorted c.sort_unstable.ensures.sorted)

pub returns-clause-same : goal.returns-clause-same
returns-clause-same c = λ n.
    let old = c.args.numbers.now.items in
    let sorted = c.sort_unstable.new.self.items in
    let moved = c.sort_unstable.ensures.permutation in
    let is : c.shrink_to_fit.new.self.items ≡ dedup eqb sorted = c.shrink_to_fit.ensures.items ∙ dedup_is eqb sorted c.dedup.new.self.items c.dedup.ensures.filtered in (
      (λ stands. Contains-permutation sorted old n (IsPermutation-sym old sorted moved) (Contains-from_dedup eqb sorted n (subst (λ (xs : List ℕ). Contains xs n) is stands))),
      (λ stands. subst (λ (xs : List ℕ). Contains xs n) (sym is) (Contains-dedup_nat sorted n (Contains-permutation old sorted n moved stands))),
    )
