use Rattle.std.proofs.Common.{◌+◌, [], ◌++◌, drop, refl, ap, sym, ◌∙◌, append_assoc, rules}
use Prim.Native.Nat.{suc}
use Rattle.tg_base.specs.declared.desk.Out.TheVariants as out
use Rattle.p4_meaning.specs.declared.test.Test.{Test}
use Rattle.p4_meaning.specs.Verdicts.{credits}
use Rattle.testgen_engine.specs.Outputs.{only}
use Rattle.testgen_engine.specs.Printing.{tests_text}
use Rattle.testgen_engine.specs.TestText.{test_text}
use Rattle.testgen_engine.proofs.OutputLemmas.{adds_nothing, adds_both, prefixes_after, prefixes_more, writes_prefixes}
use Rattle.testgen_engine.proofs.PrintLemmas.{tests_go_on}
use Rattle.testgen_engine.proofs.print.print_tests.Goals as goal

pub loop-index-init : goal.loop-index-init
loop-index-init g c = record {
  done = (λ o. [], λ o. refl, adds_nothing _ _ (λ o. refl));
  faults = refl;
  stays = search rules;
}

pub returns-in_err-print_test-clause-writes : goal.returns-in_err-print_test-clause-writes
returns-in_err-print_test-clause-writes g c =
    let kept = c.loop-index.invariant in
    let t : Test = c.index-tests-index.result in
    let go_on = tests_go_on c.args.program.now c.args.verdicts.now c.args.tests.now c.loop-index.index t c.loop-index-test.true c.index-tests-index.is in
    writes_prefixes _ _ _ c.from_residual.result c.from_residual.ensures.0
    (prefixes_more _ _ _ (λ o. tests_text c.args.program.now c.args.verdicts.now (suc (c.loop-index.index + 1)) (drop (c.loop-index.index + 1) c.args.tests.now) o) _
    (prefixes_after _ _ _ kept.done.0 _ kept.done.2 c.in_err-print_test.ensures.writes)
    (λ o. append_assoc (kept.done.0 o) _ _ ∙ ap (λ xs. kept.done.0 o ++ xs) (sym (go_on o)) ∙ kept.done.1 o))

pub loop-index-preserved : goal.loop-index-preserved
loop-index-preserved g c =
    let kept = c.loop-index.invariant in
    let t : Test = c.index-tests-index.result in
    let go_on = tests_go_on c.args.program.now c.args.verdicts.now c.args.tests.now c.loop-index.index t c.loop-index-test.true c.index-tests-index.is in
    let one = only (out.Test (c.loop-index.index + 1)) (test_text c.args.program.now (c.loop-index.index + 1) (credits c.args.verdicts.now (c.loop-index.index + 1)) t) in
    record {
      done = (λ o. kept.done.0 o ++ one o, λ o. append_assoc (kept.done.0 o) _ _ ∙ ap (λ xs. kept.done.0 o ++ xs) (sym (go_on o)) ∙ kept.done.1 o, adds_both _ _ _ kept.done.0 one kept.done.2 c.in_ok-print_test.ensures.writes);
      faults = search rules;
      stays = search rules;
    }
