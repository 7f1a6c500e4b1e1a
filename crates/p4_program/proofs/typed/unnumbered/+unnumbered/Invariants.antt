use Rattle.std.proofs.Common.{ℕ, ◌<◌, get_or}
use Rattle.p4_program.specs.declared.typed.statements.Statement.{Statement}
use Rattle.p4_program.specs.declared.typed.statements.SwitchCase.{SwitchCase}
use Rattle.p4_program.specs.Built.{Unnumbered, AllUnnumbered}
use Rattle.p4_program.specs.Trees.Statements.{statement_of, statements_of}
use Rattle.p4_program.proofs.typed.unnumbered.+unnumbered.Given as goal

abbrev pub invariant-all_unnumbered-loop-statement : goal.invariant-all_unnumbered-loop-statement
invariant-all_unnumbered-loop-statement l =
    (k : ℕ) (d : Statement) → k < l.statement-index → Unnumbered (statement_of (get_or l.statements k d))

abbrev pub invariant-cases_unnumbered-loop-case : goal.invariant-cases_unnumbered-loop-case
invariant-cases_unnumbered-loop-case l =
    (k : ℕ) (d : SwitchCase) → k < l.case-index → AllUnnumbered (statements_of (get_or l.cases k d).body.items)
