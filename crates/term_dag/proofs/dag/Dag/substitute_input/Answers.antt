-- One run more.
use Rattle.std.proofs.Common.{◌+◌, arith}
use Rattle.term_dag.proofs.InputSubstituteLemmas.{run_fits, run_joined}
use Rattle.term_dag.proofs.dag.Dag.substitute_input.Goals as goal

pub made-requires : goal.made-requires
made-requires c =
    run_fits c.args.self.now c.loop-at.self c.args.fixed.now c.args.first c.loop-at.at (c.args.first + c.args.width) c.loop-at.term
    c.loop-at.invariant c.run_end-next.result c.run_end-next.ensures.after c.run_end-next.ensures.within (omega arith)
    c.run_term-in-loop-at.new.self c.run_term-in-loop-at.ensures.dag c.run_term-in-loop-at.ensures.keeps c.in_ok-run.run'
    c.in_ok-run.ensures.done

pub loop-at-preserved : goal.loop-at-preserved
loop-at-preserved c =
    run_joined c.args.self.now c.loop-at.self c.args.fixed.now c.args.first c.loop-at.at (c.args.first + c.args.width) c.loop-at.term
    c.loop-at.invariant c.run_end-next.result c.run_end-next.ensures.after c.run_end-next.ensures.within (omega arith)
    c.run_term-in-loop-at.new.self c.run_term-in-loop-at.ensures.dag c.run_term-in-loop-at.ensures.keeps c.in_ok-run.run'
    c.in_ok-run.ensures.done c.made.new.self c.in_ok-term-2.term c.made.ensures.dag c.made.ensures.keeps c.in_ok-term-2.ensures.made
    c.run_end-next.ensures.turn
