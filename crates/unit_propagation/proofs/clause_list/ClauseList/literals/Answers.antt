-- The clause lies between its start and its end.
use Rattle.std.proofs.Common.{◌≡◌, ◌<◌, ◌-◌, ℕ, List, length, get_or, take, drop, [], ap, sym, ◌∙◌, arith}
use Rattle.std.proofs.lemmas.List.{get_or_default}
use Rattle.cnf_core.specs.declared.formula.Lit.{Lit}
use Rattle.unit_propagation.specs.ClauseLists.{cut, start_at}
use Rattle.unit_propagation.proofs.ClauseListLemmas.{cut_length, cut_bounds, cut_get}
use Rattle.unit_propagation.proofs.clause_list.ClauseList.literals.Goals as goal

-- the clause has an end
below : (ends : List ℕ) (lits : List Lit) (now : List (List Lit)) (n : ℕ) → cut 0 ends lits ≡ now → n < length now → n < length ends
below ends lits now n is inside = let size = cut_length 0 ends lits in let same = ap (λ (cs : List (List Lit)). length cs) is in omega arith

none : (s : ℕ) → s ≡ s - 0
none s = omega arith

pub start_of-start-requires : goal.start_of-start-requires
start_of-start-requires c =
    let inside = c.self.inside in
    let there = below inside.ends.items inside.literals.items c.args.self.now c.args.clause c.self.view_is c.requires in
    omega (arith, inside.ends.ok.0, c.as_slice.ensures.len)

pub index-requires : goal.index-requires
index-requires c =
    let inside = c.self.inside in
    let there = below inside.ends.items inside.literals.items c.args.self.now c.args.clause c.self.view_is c.requires in
    omega (arith, inside.ends.ok.0)

pub part-requires : goal.part-requires
part-requires c =
    let inside = c.self.inside in
    let ends = inside.ends.items in
    let there = below ends inside.literals.items c.args.self.now c.args.clause c.self.view_is c.requires in
    let bounds = cut_bounds 0 ends inside.literals.items c.args.clause c.self.invariant there in
    let start : c.start_of-start.result ≡ start_at 0 ends c.args.clause = c.start_of-start.ensures ∙ ap (λ (es : List ℕ). start_at 0 es c.args.clause) c.as_slice.ensures.value in
    let end : c.index.result.now ≡ get_or ends c.args.clause 0 = c.index.ensures ∙ get_or_default ends c.args.clause c.index.result.now 0 there in
    let size = ap length c.as_slice-2.ensures.value in
    let ordered = bounds.1 in
    let most = bounds.2 in
    record { ordered = omega arith; inside = omega arith }

pub returns : goal.returns
returns c =
    let inside = c.self.inside in
    let ends = inside.ends.items in
    let lits = inside.literals.items in
    let there = below ends lits c.args.self.now c.args.clause c.self.view_is c.requires in
    let start : c.start_of-start.result ≡ start_at 0 ends c.args.clause = c.start_of-start.ensures ∙ ap (λ (es : List ℕ). start_at 0 es c.args.clause) c.as_slice.ensures.value in
    let end : c.index.result.now ≡ get_or ends c.args.clause 0 = c.index.ensures ∙ get_or_default ends c.args.clause c.index.result.now 0 there in
    c.part.ensures
    ∙ ap (λ (ls : List Lit). take (c.index.result.now - c.start_of-start.result) (drop c.start_of-start.result ls)) c.as_slice-2.ensures.value
    ∙ ap (λ (e : ℕ). take (e - c.start_of-start.result) (drop c.start_of-start.result lits)) end
    ∙ ap (λ (s : ℕ). take (get_or ends c.args.clause 0 - s) (drop s lits)) start
    ∙ ap (λ (s : ℕ). take (get_or ends c.args.clause 0 - start_at 0 ends c.args.clause) (drop s lits)) (none (start_at 0 ends c.args.clause))
    ∙ sym (cut_get 0 ends lits c.args.clause c.self.invariant there)
    ∙ ap (λ (cs : List (List Lit)). get_or cs c.args.clause []) c.self.view_is
