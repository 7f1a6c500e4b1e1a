-- The new end is that of all literals.
use Rattle.std.proofs.Common.{◌≡◌, ◌+◌, ◌++◌, ◌∷◌, [], ℕ, List, length, ap, sym, ◌∙◌, subst, arith, length-append}
use Rattle.cnf_core.specs.declared.formula.Lit.{Lit}
use Rattle.unit_propagation.specs.ClauseLists.{cut, AreEnds}
use Rattle.unit_propagation.proofs.ClauseListLemmas.{cut_push, ends_push}
use Rattle.unit_propagation.proofs.clause_list.ClauseList.push.Goals as goal

pub invariant_of-self-2 : goal.invariant_of-self-2
invariant_of-self-2 c =
    let ends = c.self.inside.ends.items in
    let lits = c.self.inside.literals.items in
    let clause = c.args.clause.now in
    let new_lits : c.extend_from_slice.new.self.items ≡ lits ++ clause = c.in_ok-extend_from_slice.ensures.items in
    let new_ends : c.push_reserved.new.self.items ≡ ends ++ c.in-Some.end ∷ [] = c.push_reserved.ensures.items ∙ ap (λ (es : List ℕ). es ++ c.in-Some.end ∷ []) c.in_ok-reserve.ensures.items in
    let size : length c.extend_from_slice.new.self.items ≡ length lits + length clause = ap length new_lits ∙ length-append lits clause in
    subst (λ (es : List ℕ). AreEnds 0 es c.extend_from_slice.new.self.items) (sym new_ends)
    (subst (AreEnds 0 (ends ++ c.in-Some.end ∷ [])) (sym new_lits)
    (ends_push 0 ends lits clause c.in-Some.end c.self.invariant (omega (arith, c.in-Some.ensures.is, c.len.ensures, c.self.inside.literals.ok.0))))

pub returns-clause-pushed : goal.returns-clause-pushed
returns-clause-pushed c =
    let ends = c.self.inside.ends.items in
    let lits = c.self.inside.literals.items in
    let clause = c.args.clause.now in
    let new_lits : c.extend_from_slice.new.self.items ≡ lits ++ clause = c.in_ok-extend_from_slice.ensures.items in
    let new_ends : c.push_reserved.new.self.items ≡ ends ++ c.in-Some.end ∷ [] = c.push_reserved.ensures.items ∙ ap (λ (es : List ℕ). es ++ c.in-Some.end ∷ []) c.in_ok-reserve.ensures.items in
    let size : length c.extend_from_slice.new.self.items ≡ length lits + length clause = ap length new_lits ∙ length-append lits clause in
    ap (λ (es : List ℕ). cut 0 es c.extend_from_slice.new.self.items) new_ends
    ∙ ap (cut 0 (ends ++ c.in-Some.end ∷ [])) new_lits
    ∙ cut_push 0 ends lits clause c.in-Some.end c.self.invariant (omega (arith, c.in-Some.ensures.is, c.len.ensures, c.self.inside.literals.ok.0))
    ∙ ap (λ (cs : List (List Lit)). cs ++ clause ∷ []) c.self.view_is
