-- One literal more, and all of them once a few say nothing.
use Rattle.std.proofs.Common.{◌≡◌, ◌+◌, List, [], ◌∷◌, ◌++◌, take, drop, sym, ap, ◌∙◌, subst, arith}
use Rattle.std.proofs.lemmas.List.{take_more, take_all, take-append-drop}
use Rattle.cnf_core.specs.declared.formula.Lit.{Lit}
use Rattle.unit_propagation.specs.Propagated.{SaysNothing}
use Rattle.unit_propagation.specs.ClauseStates.{IsState}
use Rattle.unit_propagation.proofs.ClauseStateLemmas.{nothing_more}
use Rattle.unit_propagation.proofs.clause_state.ClauseState.of.Goals as goal

pub loop-l-init : goal.loop-l-init
loop-l-init c = λ k d inside. absurd (omega arith)

pub loop-l-preserved : goal.loop-l-preserved
loop-l-preserved c =
    let i = c.loop-l.l-index in
    let clause = c.args.clause.now in
    let more : take i clause ++ c.lit.result ∷ [] ≡ take (i + 1) clause =
    ap (λ (l : Lit). take i clause ++ l ∷ []) (c.lit.ensures ∙ c.l-item.is) ∙ sym (take_more clause i c.l-item.result c.loop-l-test.true) in
    subst (λ (lits : List Lit). IsState c.args.assignment.now.trail lits c.with-state.result) more (c.with-state.ensures (take i clause) c.loop-l.invariant)

pub returns-in-Other : goal.returns-in-Other
returns-in-Other c =
    let i = c.loop-l.l-index in
    let clause = c.args.clause.now in
    let trail = c.args.assignment.now.trail in
    let more : take i clause ++ c.lit.result ∷ [] ≡ take (i + 1) clause =
    ap (λ (l : Lit). take i clause ++ l ∷ []) (c.lit.ensures ∙ c.l-item.is) ∙ sym (take_more clause i c.l-item.result c.loop-l-test.true) in
    let front : IsState trail (take (i + 1) clause) c.with-state.result =
    subst (λ (lits : List Lit). IsState trail lits c.with-state.result) more (c.with-state.ensures (take i clause) c.loop-l.invariant) in
    subst (SaysNothing trail) (take-append-drop (i + 1) clause)
    (nothing_more trail (take (i + 1) clause) (drop (i + 1) clause) (subst (IsState trail (take (i + 1) clause)) c.in-Other.is front))

pub returns : goal.returns
returns c =
    subst (λ (lits : List Lit). IsState c.args.assignment.now.trail lits c.loop-l.state) (take_all c.loop-l.l-index c.args.clause.now c.loop-l-test.false) c.loop-l.invariant
