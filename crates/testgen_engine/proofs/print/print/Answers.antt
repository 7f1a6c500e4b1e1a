use Rattle.std.proofs.Common.{subst}
use Rattle.tg_base.specs.declared.desk.Out.TheVariants as out
use Rattle.testgen_engine.specs.Decide.{findings}
use Rattle.testgen_engine.specs.Findings.{text_of}
use Rattle.testgen_engine.specs.Outputs.{Writes, only}
use Rattle.testgen_engine.specs.Printing.{tests_text}
use Rattle.testgen_engine.specs.Report.{report_text}
use Rattle.testgen_engine.proofs.OutputLemmas.{prefixes_more, writes_after, writes_prefixes}
use Rattle.testgen_engine.proofs.PrintLemmas.{text_is, tests_adds, tests_prefixes, report_is}
use Rattle.testgen_engine.proofs.print.print.Goals as goal

pub returns-in_err-print_tests-clause-writes : goal.returns-in_err-print_tests-clause-writes
returns-in_err-print_tests-clause-writes g c =
    let f = findings c.args.bounds c.args.program.now c.args.decided.now in
    writes_prefixes _ _ _ c.from_residual-in_err-print_tests.result c.from_residual-in_err-print_tests.ensures.0
    (prefixes_more _ _ (tests_text f.program f.verdicts 1 f.tests) (only out.Report (report_text f.bounds f.program f.verdicts f.tests)) (text_of f)
    (tests_prefixes c.args.program.now _ _ _ _ _ _ c.as_slice-verdicts.ensures c.as_slice-tests.ensures c.in_err-print_tests.ensures.writes) (text_is f))

pub returns-clause-writes : goal.returns-clause-writes
returns-clause-writes g c =
    let f = findings c.args.bounds c.args.program.now c.args.decided.now in
    let report = report_is c.args.bounds c.args.program.now _ _ _ _ _ _ c.as_bytes.ensures.value c.in_ok-report.ensures c.as_slice-verdicts.ensures c.as_slice-tests.ensures in
    writes_after _ _ _ (tests_text f.program f.verdicts 1 f.tests) (only out.Report (report_text f.bounds f.program f.verdicts f.tests)) (text_of f) c.write_all.result
    (tests_adds c.args.program.now _ _ _ _ _ _ c.as_slice-verdicts.ensures c.as_slice-tests.ensures c.in_ok-print_tests.ensures.writes) (text_is f)
    (subst (λ xs. Writes (g.D.Desk.moment c.print_tests.new.desk) (g.D.Desk.moment c.write_all.new.desk) (only out.Report xs) c.write_all.result) report c.write_all.ensures.writes)
