use Rattle.std.proofs.Common.{◌≡◌, ◌≤◌, length, map, take_all, ap, sym, subst, ◌∙◌}
use Rattle.std.proofs.lemmas.List.{length-map}
use Rattle.p4_program.specs.declared.program.TheConstants.{MAX_STATEMENTS}
use Rattle.p4_program.specs.Numbered.{numbers_from}
use Rattle.p4_program.specs.Syntax.Numbering.{place_of, numbered_in_callable, statements_numbered}
use Rattle.p4_program.specs.Trees.Callables.{callable_of}
use Rattle.p4_program.specs.Trees.Programs.{core_of}
use Rattle.p4_program.proofs.Numbers.{places_in, flat_mapped, numbers_are, few_numbers}
use Rattle.p4_program.proofs.typed.numbered_places.statement_places.Goals as goal

pub returns : goal.returns
returns c =
    let p = c.args.program.now in
    let items = c.as_slice-callable-items.result.now in
    let places : c.loop-callable.places ≡ map place_of (statements_numbered (core_of p)) =
    c.loop-callable.invariant
    ∙ ap (places_in (λ k. numbered_in_callable (callable_of k)))
    (take_all c.loop-callable.callable-index items c.loop-callable-test.false)
    ∙ ap (places_in (λ k. numbered_in_callable (callable_of k))) c.as_slice-callable-items.ensures
    ∙ ap (map place_of) (sym (flat_mapped numbered_in_callable callable_of p.callables)) in
    let count : length c.loop-callable.places ≡ length (statements_numbered (core_of p)) =
    ap length places ∙ length-map (statements_numbered (core_of p)) place_of in
    record {
      places = places;
      numbers =
          subst (λ n. map (λ s. s.number) (statements_numbered (core_of p)) ≡ numbers_from 1 n) (sym count)
          (numbers_are (core_of p) p.well_formed);
      few = subst (λ n. n ≤ MAX_STATEMENTS) (sym count) (few_numbers (core_of p) p.well_formed);
    }
