-- Each clause is over the circuit's variables.
use Rattle.std.proofs.Common.{◌∙◌, ap, ◌++◌, List}
use Rattle.cnf_core.specs.declared.formula.Lit.{Lit}
use Rattle.bit_blaster.specs.Tseitin.{goal_clauses}
use Rattle.bit_blaster.proofs.FormulaLemmas.{formula_variables}
use Rattle.bit_blaster.proofs.circuit.Circuit.clauses.Goals as goal

pub returns-clause-variables : goal.returns-clause-variables
returns-clause-variables c =
    formula_variables c.args.self.now c.args.goal c.from_vec.result
    (c.from_vec.ensures ∙ c.in_ok-push_goal.ensures
    ∙ ap (λ (clauses : List (List Lit)). clauses ++ goal_clauses c.args.goal) c.in_ok-clauses.ensures.clauses)
    c.in_ok-clauses.ensures.order c.requires
