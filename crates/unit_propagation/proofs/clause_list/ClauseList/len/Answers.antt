-- Each end is that of one clause.
use Rattle.std.proofs.Common.{List, length, ap, arith}
use Rattle.cnf_core.specs.declared.formula.Lit.{Lit}
use Rattle.unit_propagation.proofs.ClauseListLemmas.{cut_length}
use Rattle.unit_propagation.proofs.clause_list.ClauseList.len.Goals as goal

pub returns : goal.returns
returns c =
    let inside = c.self.inside in
    let size = cut_length 0 inside.ends.items inside.literals.items in
    let same = ap (λ (cs : List (List Lit)). length cs) c.self.view_is in
    omega (arith, c.len.ensures, inside.ends.ok.0)
