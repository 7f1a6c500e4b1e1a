-- A negation that cannot be set stands in a prefix of the clause, whose negations have its variables.
use Rattle.std.proofs.Common.{◌≡◌, ◌+◌, ◌<◌, ◌++◌, ◌∷◌, [], map, refl, sym, ◌∙◌, ap, subst}
use Rattle.std.specs.Prelude.{All}
use Rattle.std.proofs.lemmas.List.{take_all}
use Rattle.std.proofs.lemmas.List.Elements.{All-more, All-push}
use Rattle.cnf_core.specs.declared.formula.Lit.{Lit}
use Rattle.cnf_core.specs.Literal.{negation, IsApart}
use Rattle.cnf_core.proofs.Literals.{no_lit}
use Rattle.unit_propagation.specs.Units.{IsWithin}
use Rattle.refutation_checker.specs.Variables.{HasVariable, width, external_clause}
use Rattle.refutation_checker.proofs.VariablesLemmas.{falsified_more, falsified_apart, falsified_all}
use Rattle.refutation_checker.proofs.hints.falsify.Goals as goal

pub loop-l-preserved : goal.loop-l-preserved
loop-l-preserved c =
    let n = c.args.variables.now in
    let clause = c.args.clause.now in
    let i = c.loop-l.l-index in
    let inv = c.loop-l.invariant in
    let k = c.in-Some.l in
    let before = c.loop-l.assignment.trail in
    let trail : c.decide_one.new.assignment.trail ≡ before ++ negation k ∷ [] = c.if-not-decide_one.ensures.trail ∙ ap (λ (m : Lit). before ++ m ∷ []) c.not.ensures in
    let apart = subst (λ (m : Lit). IsApart (before ++ m ∷ [])) c.not.ensures (c.if-not-decide_one.ensures.answer.0 refl) in
    record {
      assignment_width = c.if-not-decide_one.ensures.width ∙ inv.assignment_width;
      trail = ap (external_clause n) trail ∙ falsified_more n before clause i k inv.trail c.loop-l-test.true c.in-Some.ensures.is;
      within = subst (IsWithin (width n)) (sym trail) (All-push (λ (m : Lit). m.var < width n) before (negation k) inv.within c.in-Some.ensures.within);
      has = All-more (λ (m : Lit). HasVariable n m.var) clause i no_lit c.loop-l-test.true inv.has (c.in-Some.ensures.found.0 refl);
      apart = subst IsApart (sym trail) apart;
    }

pub returns-then-not-decide_one-clause-answer : goal.returns-then-not-decide_one-clause-answer
returns-then-not-decide_one-clause-answer c =
    let n = c.args.variables.now in
    let clause = c.args.clause.now in
    let i = c.loop-l.l-index in
    let inv = c.loop-l.invariant in
    let k = c.in-Some.l in
    let before = c.loop-l.assignment.trail in
    let names = falsified_more n before clause i k inv.trail c.loop-l-test.true c.in-Some.ensures.is in
    let within = All-push (λ (m : Lit). m.var < width n) before (negation k) inv.within c.in-Some.ensures.within in (
      (λ yes. cc),
      (λ among. c.if-not-decide_one.ensures.answer.1 (subst (λ (m : Lit). IsApart (before ++ m ∷ [])) (sym c.not.ensures)
          (falsified_apart n (before ++ negation k ∷ []) clause (i + 1) c.requires.numbering within names among.1))),
    )

pub returns-clause-answer : goal.returns-clause-answer
returns-clause-answer c =
    let n = c.args.variables.now in
    let clause = c.args.clause.now in
    let inv = c.loop-l.invariant in
    let all = take_all c.loop-l.l-index clause c.loop-l-test.false in
    let has = subst (All (λ (m : Lit). HasVariable n m.var)) all inv.has in
    let names = inv.trail ∙ ap (map negation) all in
    ((λ _. (has, falsified_all n c.loop-l.assignment.trail clause c.requires.numbering inv.within names inv.apart)), (λ _. refl))
