-- The run is fixed, or it is free.
use Rattle.term_dag.proofs.FoldingLemmas.{ok_along}
use Rattle.term_dag.proofs.InputSubstituteLemmas.{fixed_run_done, free_run_done}
use Rattle.term_dag.proofs.dag.Dag.run_term.Goals as goal

pub returns-in-Some-clause-done : goal.returns-in-Some-clause-done
returns-in-Some-clause-done c =
    ok_along c.made.result _ _ (λ r made. fixed_run_done c.args.self.now c.made.new.self c.len.ensures.dag c.made.ensures.keeps c.args.fixed.now
    c.args.from c.args.to c.requires.some_bit r c.run_number.result c.run_number.ensures.width c.run_number.ensures.value made) c.made.ensures.made

pub returns-in-None-clause-done : goal.returns-in-None-clause-done
returns-in-None-clause-done c =
    ok_along c.made-in-None.result _ _ (λ r made. free_run_done c.args.self.now c.made-in-None.new.self c.len.ensures.dag c.made-in-None.ensures.keeps
    c.args.fixed.now c.args.from c.args.to c.requires.some_bit r (c.requires.free c.in-None.ensures.none) made) c.made-in-None.ensures.made
