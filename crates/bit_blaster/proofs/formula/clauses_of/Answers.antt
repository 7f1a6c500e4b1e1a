-- The clauses of the term's word are its formula, and its inputs determine them.
use Rattle.std.proofs.Common.{◌≡◌, List, Some, length, slice_get, rules, arith, refl, sym, ap, ◌∙◌, subst}
use Rattle.std.proofs.lemmas.Option.{slice_get_read}
use Rattle.cnf_core.specs.Determined.{IsDetermined}
use Rattle.cnf_core.specs.declared.derivation.Var.{Var}
use Rattle.bit_blaster.specs.Vars.{IsFormulaOf}
use Rattle.bit_blaster.proofs.DeterminedLemmas.{clauses_apart, clauses_determined, clauses_numbered}
use Rattle.bit_blaster.proofs.TermFormulaLemmas.{formula_of_term}
use Rattle.bit_blaster.proofs.formula.clauses_of.Goals as goal

pub returns-clause-formula : goal.returns-clause-formula
returns-clause-formula c =
    let read = slice_get_read c.in_ok-words.words.items _ c.args.t.number c.index.result.now refl (omega (arith, c.in_ok-words.ensures.long)) (search rules) in
    let at : slice_get c.in_ok-words.words.items c.args.t.number ≡ Some c.as_slice.result.now = read ∙ ap Some (sym c.as_slice.ensures) in
    subst (λ (vars : List Var). IsFormulaOf c.args.dag.now c.args.t vars c.in_ok-clauses.clauses) (sym c.in_ok-vars.ensures.bits)
    (formula_of_term c.args.dag.now c.len.ensures.dag c.args.t c.requires.within c.requires.one_bit c.in_ok-variables.variables
    c.in_ok-variables.ensures c.words_of.new.circuit
    (c.in_ok-words.ensures.extends.inputs ∙ c.new-circuit.ensures.inputs ∙ c.count.ensures.count) c.as_slice.result.now
    (c.in_ok-words.ensures.words.each c.args.t c.as_slice.result.now c.in_ok-marks.ensures.itself at) c.in_ok-clauses.clauses
    c.asks_one_width-one_width.result c.goal_of.result c.asks_one_width-one_width.ensures c.goal_of.ensures c.in_ok-clauses.ensures.exact)

pub returns-clause-determined : goal.returns-clause-determined
returns-clause-determined c =
    subst (λ (vars : List Var). IsDetermined (length vars) c.in_ok-clauses.clauses) (sym c.in_ok-vars.ensures.bits)
    (clauses_determined c.words_of.new.circuit c.in_ok-clauses.clauses c.in_ok-clauses.ensures.variables
    (length c.in_ok-variables.variables)
    (c.in_ok-words.ensures.extends.inputs ∙ c.new-circuit.ensures.inputs ∙ c.count.ensures.count) c.in_ok-clauses.ensures.settled)

pub returns-clause-numbered : goal.returns-clause-numbered
returns-clause-numbered c = clauses_numbered c.words_of.new.circuit c.in_ok-clauses.clauses c.in_ok-clauses.ensures.variables

pub returns-clause-apart : goal.returns-clause-apart
returns-clause-apart c = clauses_apart c.words_of.new.circuit c.in_ok-clauses.clauses c.in_ok-clauses.ensures.variables
