-- What the binary search says.
use Rattle.std.proofs.Common.{◌<◌, List, ℕ, arith, subst, sym}
use Rattle.std.specs.Prelude.{Ok, Err}
use Rattle.std.specs.List.Sorted.{IsBinarySearchResult}
use Rattle.std.specs.Ordering.{nat_cmp}
use Rattle.refutation_checker.specs.Variables.{Numbering, HasVariable}
use Rattle.refutation_checker.specs.VariablesFields.{numbering_of}
use Rattle.refutation_checker.proofs.VariablesLemmas.{found_place, absent}
use Rattle.refutation_checker.proofs.variables.Variables.number.Goals as goal

pub overflow_cast-result : goal.overflow_cast-result
overflow_cast-result c =
    let found = subst (λ (xs : List ℕ). IsBinarySearchResult (λ y. nat_cmp y c.args.var) xs (Ok c.in-Ok.place)) c.deref.ensures.value c.in-Ok.ensures.position in
    let place = found_place (numbering_of c.self.inside) c.args.var c.in-Ok.place c.self.invariant found in
    omega (arith, place.2, c.ranges.var.fits)

pub overflow_add-result-in-Ok : goal.overflow_add-result-in-Ok
overflow_add-result-in-Ok c =
    let found = subst (λ (xs : List ℕ). IsBinarySearchResult (λ y. nat_cmp y c.args.var) xs (Ok c.in-Ok.place)) c.deref.ensures.value c.in-Ok.ensures.position in
    let place = found_place (numbering_of c.self.inside) c.args.var c.in-Ok.place c.self.invariant found in
    omega (arith, place.2, c.ranges.var.fits)

pub returns-in-Err-clause-found : goal.returns-in-Err-clause-found
returns-in-Err-clause-found c =
    let found = subst (λ (xs : List ℕ). IsBinarySearchResult (λ y. nat_cmp y c.args.var) xs (Err c.in-Err.field-0)) c.deref.ensures.value c.in-Err.ensures.position in
    let high : c.self.inside.inputs < c.args.var = omega (arith, c.if-var-self.false) in (
      (λ yes. absurd (cc)),
      (λ has. absurd (absent (numbering_of c.self.inside) c.args.var c.in-Err.field-0 c.self.invariant high found
          (subst (λ (n : Numbering). HasVariable n c.args.var) (sym c.self.view_is) has))),
    )
