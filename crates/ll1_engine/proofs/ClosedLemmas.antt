-- Closed sets hold what the least ones do.
use Rattle.std.proofs.Common.{◌≡◌, ℕ, Bool, List, Some, sym, subst}
use Rattle.std.specs.Prelude.{IsTrue}
use Rattle.std.specs.List.{AllByRecursion}
use Rattle.ll1_engine.specs.declared.grammar.Row.{Row}
use Rattle.ll1_engine.specs.Trees.{Nullable}
use Rattle.ll1_engine.specs.First.{InFirst, BeginsWith, InFollow}
use Rattle.ll1_engine.specs.Marks.{all_in, begins_in}
use Rattle.ll1_engine.specs.Closed.{AreClosed}
use Rattle.ll1_engine.proofs.MarksLemmas.{closed_roots}
use Rattle.ll1_engine.proofs.LeastSetLemmas.{begins_from}

module _ (g : List Row) (nullable : ℕ → Bool) (first follow : ℕ → ℕ → Bool) (closed : AreClosed g nullable first follow) where
  pub nullable_within : (xs : List ℕ) → Nullable g xs → IsTrue (all_in nullable xs)
  nullable_within xs n =
      subst (λ (ys : List ℕ). IsTrue (all_in nullable ys)) n.top (closed_roots g nullable closed.nullable_row n.trees n.valid (subst (AllByRecursion (λ x. IsTrue (nullable x))) (sym n.bottom) tt))

  first_within : (t x : ℕ) → InFirst g x t → IsTrue (first t x)
  first_within t x f = f (first t) (record {
    itself = closed.first_token t;
    row = λ k r before y after i e n h. closed.first_row k r t i (subst (λ (ys : List ℕ). IsTrue (begins_in (first t) nullable ys)) (sym e) (begins_from (first t) nullable before y after (nullable_within before n) h));
  })

  pub begins_within : (t : ℕ) (xs : List ℕ) → BeginsWith g xs t → IsTrue (begins_in (first t) nullable xs)
  begins_within t xs b =
      subst (λ (ys : List ℕ). IsTrue (begins_in (first t) nullable ys)) (sym b.parts) (begins_from (first t) nullable b.before b.symbol b.after (nullable_within b.before b.skipped) (first_within t b.symbol b.first))

  pub follow_within : (t x : ℕ) → InFollow g x (Some t) → IsTrue (follow t x)
  follow_within t x f = f (follow t) (record {
    start = λ e. absurd (cc);
    next = λ k r before y after u i e et b. closed.follow_next k r before y after t i e (begins_within t after (subst (BeginsWith g after) (let z : Some u ≡ Some t = sym et in cc) b));
    left = λ k r before y after i e n h. closed.follow_left k r before y after t i e (nullable_within after n) h;
  })
