-- The numbers past the inputs, sorted and each once, are those that were collected.
use Rattle.std.proofs.Common.{◌<◌, ◌^◌, get_or}
use Rattle.std.proofs.lemmas.List.Elements.{All-contains, Contains-get_or}
use Rattle.refutation_checker.proofs.VariablesLemmas.{numbers_all}
use Rattle.refutation_checker.proofs.variables.Variables.new.Goals as goal

pub invariant_of-result : goal.invariant_of-result
invariant_of-result c =
    let old = c.in_ok-others.others.items in
    let new = c.sort_distinct.new.numbers.items in
    record {
      inputs_range = c.ranges.inputs.fits;
      rising = c.sort_distinct.ensures.rising;
      range = λ k d inside. All-contains (λ v. (c.args.inputs < v) × (v < 2 ^ 32)) old (get_or new k d) c.in_ok-others.ensures.range
          ((c.sort_distinct.ensures.same (get_or new k d)).0 (Contains-get_or new k d inside));
    }

pub returns-clause-variables : goal.returns-clause-variables
returns-clause-variables c =
    numbers_all (record { inputs = c.args.inputs; zero = c.have_zero.result; others = c.sort_distinct.new.numbers.items }) c.args.clauses.now c.have_zero.ensures
    (λ var. ((λ stands. (c.in_ok-others.ensures.are var).0 ((c.sort_distinct.ensures.same var).0 stands)), (λ any. (c.sort_distinct.ensures.same var).1 ((c.in_ok-others.ensures.are var).1 any))))
