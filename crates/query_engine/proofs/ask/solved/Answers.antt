-- By the lemmas of what the solver answers.
use Rattle.std.proofs.Common.{◌≡◌, ◌≤◌, ℕ, Bool, List, take, length, ap, subst, ◌∙◌, arith}
use Rattle.std.proofs.lemmas.List.{length-take-le}
use Rattle.bit_blaster.specs.Clauses.{IsExtendable}
use Rattle.bit_blaster.specs.Vars.{HasBits}
use Rattle.cnf_core.specs.declared.derivation.Var.{Var}
use Rattle.query_engine.proofs.AnswerLemmas.{extends, sat_yes, unsat_no}
use Rattle.query_engine.proofs.TextLemmas.{cubes_numbers, ends_numbers}
use Rattle.query_engine.proofs.ask.solved.Goals as goal

pub returns-in_ok-point-in-Sat-clause-yes : goal.returns-in_ok-point-in-Sat-clause-yes
returns-in_ok-point-in-Sat-clause-yes c =
    let given : HasBits c.in_ok-point-in-Sat.point c.args.vars.now c.in_ok-bits-in-Sat.bits =
    subst (λ (vs : List Var). HasBits c.in_ok-point-in-Sat.point vs c.in_ok-bits-in-Sat.bits) c.as_slice.ensures
    (subst (λ (bs : List Bool). HasBits c.in_ok-point-in-Sat.point c.as_slice.result.now bs) c.as_slice-in-Sat.ensures
    c.in_ok-point-in-Sat.ensures.bits) in
    let model = rw c.in-Sat.is at c.in_ok-valuation.ensures.sat in
    let bits : c.in_ok-bits-in-Sat.bits ≡ take (length c.args.vars.now) c.in-Sat.valuation =
    c.in_ok-bits-in-Sat.ensures ∙ ap (λ (n : ℕ). take n c.in-Sat.valuation) c.len-in-Sat.ensures in
    let inputs : length c.args.vars.now ≤ length c.in-Sat.valuation = omega (arith, model.gives_inputs, c.len-2.ensures) in
    let sat : IsExtendable c.args.clauses.now c.in_ok-bits-in-Sat.bits =
    extends c.args.dag.now c.len.ensures.dag c.args.question.now c.requires.within c.args.vars.now c.args.clauses.now c.requires.about
    c.in-Sat.valuation c.in_ok-bits-in-Sat.bits bits model.satisfies in
    sat_yes c.args.dag.now c.len.ensures.dag c.args.question.now c.requires.within c.args.vars.now c.args.clauses.now c.requires.about
    c.in_ok-bits-in-Sat.bits c.in_ok-point-in-Sat.point (ap length bits ∙ length-take-le (length c.args.vars.now) c.in-Sat.valuation inputs) sat
    c.in_ok-point-in-Sat.ensures.at c.in_ok-point-in-Sat.ensures.has given

pub returns-in_ok-point-in-Sat-clause-says : goal.returns-in_ok-point-in-Sat-clause-says
returns-in_ok-point-in-Sat-clause-says c =
    let given : HasBits c.in_ok-point-in-Sat.point c.args.vars.now c.in_ok-bits-in-Sat.bits =
    subst (λ (vs : List Var). HasBits c.in_ok-point-in-Sat.point vs c.in_ok-bits-in-Sat.bits) c.as_slice.ensures
    (subst (λ (bs : List Bool). HasBits c.in_ok-point-in-Sat.point c.as_slice.result.now bs) c.as_slice-in-Sat.ensures
    c.in_ok-point-in-Sat.ensures.bits) in
    let model = rw c.in-Sat.is at c.in_ok-valuation.ensures.sat in
    let few = rw c.in-Sat.is at c.in_ok-valuation.ensures.few in
    let bits : c.in_ok-bits-in-Sat.bits ≡ take (length c.args.vars.now) c.in-Sat.valuation =
    c.in_ok-bits-in-Sat.ensures ∙ ap (λ (n : ℕ). take n c.in-Sat.valuation) c.len-in-Sat.ensures in (
      given,
      extends c.args.dag.now c.len.ensures.dag c.args.question.now c.requires.within c.args.vars.now c.args.clauses.now c.requires.about
          c.in-Sat.valuation c.in_ok-bits-in-Sat.bits bits model.satisfies,
      few,
    )

pub returns-in-Unsat-clause-no : goal.returns-in-Unsat-clause-no
returns-in-Unsat-clause-no c =
    let unsat = rw c.in-Unsat.is at c.in_ok-valuation.ensures.unsatisfiable in
    unsat_no c.args.dag.now c.len.ensures.dag c.args.question.now c.requires.within c.args.vars.now c.args.clauses.now c.requires.about unsat

pub returns-in_ok-point-in-Sat-clause-numbers : goal.returns-in_ok-point-in-Sat-clause-numbers
returns-in_ok-point-in-Sat-clause-numbers c = cubes_numbers c.in-Sat.derived (rw c.in-Sat.is at c.in_ok-valuation.ensures.lines)

pub returns-in-Unsat-clause-numbers : goal.returns-in-Unsat-clause-numbers
returns-in-Unsat-clause-numbers c = ends_numbers c.in-Unsat.derived (rw c.in-Unsat.is at c.in_ok-valuation.ensures.lines)

pub returns-in-Spent-clause-numbers : goal.returns-in-Spent-clause-numbers
returns-in-Spent-clause-numbers c = cubes_numbers c.in-Spent.derived (rw c.in-Spent.is at c.in_ok-valuation.ensures.lines)
