use Rattle.std.proofs.Common.{◌++◌, map, string_bytes, ap, ◌∙◌}
use Rattle.p4_program.specs.Blocks.{place_of}
use Rattle.testgen_engine.specs.Report.{counts_line, statement_lines}
use Rattle.testgen_engine.proofs.Lists.{join_four}
use Rattle.testgen_engine.proofs.report.report_text.Goals as goal

pub returns : goal.returns
returns c =
    let after_bounds = string_bytes c.push_bounds.new.text in
    let after_undecided = string_bytes c.push_undecided.new.text in
    let lines = c.in_ok-push_statements.ensures ∙ ap (λ ss. after_bounds ++ statement_lines 1 (map place_of ss) c.args.verdicts.now) c.as_slice.ensures in
    let counts = c.in_ok-push_counts.ensures ∙ ap (λ n. after_undecided ++ counts_line n) c.count.ensures in
    join_four _ _ _ _ _ _ _ _ _ c.new-text.ensures.bytes c.in_ok-push_bounds.ensures lines c.in_ok-nibbles.ensures.lines counts
