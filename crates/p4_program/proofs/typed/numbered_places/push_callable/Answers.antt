use Rattle.std.proofs.Common.{◌++◌, map, flat_map, ap, sym, ◌∙◌}
use Rattle.std.proofs.lemmas.Result.{on_ok_weaker}
use Rattle.p4_program.specs.Syntax.Numbering.{place_of, numbered_in_all, numbered_in_state, numbered_in_callable}
use Rattle.p4_program.specs.Trees.Callables.{callable_of, state_of}
use Rattle.p4_program.specs.Trees.Statements.{statements_of}
use Rattle.p4_program.proofs.Numbers.{two_lists, flat_mapped}
use Rattle.p4_program.proofs.typed.numbered_places.push_callable.Goals as goal

pub returns-in_ok-push_statements-in-OfParser : goal.returns-in_ok-push_statements-in-OfParser
returns-in_ok-push_statements-in-OfParser c =
    let body = c.as_slice-in-OfParser.result.now in
    let states = c.as_slice-in-OfParser-2.result.now in
    let parser = c.in-OfParser.parser in
    let before = numbered_in_all (statements_of parser.beginning.items) in
    let both =
    ap (λ xs. numbered_in_all (statements_of xs) ++ flat_map (λ s. numbered_in_state (state_of s)) states)
    c.as_slice-in-OfParser.ensures.value
    ∙ ap (λ ss. before ++ flat_map (λ s. numbered_in_state (state_of s)) ss) c.as_slice-in-OfParser-2.ensures
    ∙ ap (λ ns. before ++ ns) (sym (flat_mapped numbered_in_state state_of parser.states))
    ∙ sym (ap (λ k. numbered_in_callable (callable_of k)) c.in-OfParser.is) in
    on_ok_weaker c.push_states.result
    (λ last.
    two_lists c.args.places.now c.push_statements-in-OfParser.new.places c.push_states.new.places
    (numbered_in_all (statements_of body)) (flat_map (λ s. numbered_in_state (state_of s)) states)
    c.in_ok-push_statements-in-OfParser.ensures last
    ∙ ap (λ ns. c.args.places.now ++ map place_of ns) both)
    c.push_states.ensures
