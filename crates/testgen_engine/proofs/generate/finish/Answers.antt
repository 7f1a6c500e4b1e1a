use Rattle.std.proofs.lemmas.Result.{MatchResult-from_err}
use Rattle.testgen_engine.proofs.EndLemmas.{found, cut_finding, nothing_found_yet}
use Rattle.testgen_engine.proofs.generate.finish.Goals as goal

pub returns-clause-writes : goal.returns-clause-writes
returns-clause-writes g c =
    found _ _ c.args.bounds c.args.program.now c.in_ok-decided.decided c.in_ok-decided.ensures.right c.in_ok-decided.ensures.decided c.in_ok-print.ensures.writes

pub returns-in_err-print-clause-writes : goal.returns-in_err-print-clause-writes
returns-in_err-print-clause-writes g c =
    MatchResult-from_err c.from_residual-in_err-print.result _ _ c.from_residual-in_err-print.ensures.0
    (λ _. cut_finding _ _ c.args.bounds c.args.program.now c.in_ok-decided.decided c.in_ok-decided.ensures.right c.in_err-print.ensures.writes)

pub returns-in_err-decided-clause-writes : goal.returns-in_err-decided-clause-writes
returns-in_err-decided-clause-writes g c =
    MatchResult-from_err c.from_residual.result _ _ c.from_residual.ensures.0
    (λ _. nothing_found_yet _ c.args.bounds c.args.program.now)
