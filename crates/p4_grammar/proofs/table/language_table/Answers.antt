-- The table is good, so it has no row that breaks a condition.
use Rattle.std.proofs.Common.{◌≡◌, List, Err, ap, ◌∙◌, subst}
use Rattle.ll1_engine.specs.declared.grammar.Row.{Row}
use Rattle.ll1_engine.specs.Conditions.{IsFirstBreak}
use Rattle.p4_grammar.specs.Rows.{grammar_rows}
use Rattle.p4_grammar.proofs.GoodTable.{no_fault}
use Rattle.p4_grammar.proofs.table.language_table.Goals as goal

pub unreachable-requires-in-Err-Table : goal.unreachable-requires-in-Err-Table
unreachable-requires-in-Err-Table c =
    let fault = c.in-Err-Table.field-0-0 in
    let broken = c.check_table.ensures.fault fault (c.in-Err-Table.is ∙ ap Err c.in-Err-Table.field-0-is) in
    let same : c.in-Some.grammar ≡ grammar_rows = c.in-Some.ensures.value ∙ c.in_ok-rows.ensures in
    no_fault fault.row fault.breaks (subst (λ (g : List Row). IsFirstBreak g fault.row fault.breaks) same broken)
