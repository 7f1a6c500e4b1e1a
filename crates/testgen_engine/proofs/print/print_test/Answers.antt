use Rattle.std.proofs.Common.{ap, ◌∙◌, subst}
use Rattle.tg_base.specs.declared.desk.Out.TheVariants as out
use Rattle.testgen_engine.specs.Outputs.{Writes, only}
use Rattle.testgen_engine.specs.TestText.{test_text}
use Rattle.testgen_engine.proofs.print.print_test.Goals as goal

pub returns-clause-writes : goal.returns-clause-writes
returns-clause-writes g c =
    let text = c.as_bytes.ensures.value ∙ c.in_ok-text.ensures ∙ ap (λ ns. test_text c.args.program.now c.args.number ns c.args.test.now) (c.as_slice.ensures ∙ c.in_ok-statements.ensures) in
    subst (λ xs. Writes (g.D.Desk.moment c.args.desk.now) (g.D.Desk.moment c.write_all.new.desk) (only (out.Test c.args.number) xs) c.write_all.result) text c.write_all.ensures.writes
