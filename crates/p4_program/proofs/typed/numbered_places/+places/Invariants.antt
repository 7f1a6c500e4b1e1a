use Rattle.std.proofs.Common.{◌≡◌, ◌++◌, take}
use Rattle.p4_program.specs.Syntax.Numbering.{numbered_in, numbered_in_all}
use Rattle.p4_program.specs.Trees.Statements.{statement_of, statements_of}
use Rattle.p4_program.proofs.Numbers.{places_in}
use Rattle.p4_program.proofs.typed.numbered_places.+places.Given as goal

abbrev pub invariant-push_statements-loop-statement : goal.invariant-push_statements-loop-statement
invariant-push_statements-loop-statement l =
    l.places ≡ l.initial.places ++ places_in (λ s. numbered_in (statement_of s)) (take l.statement-index l.statements)

abbrev pub invariant-push_cases-loop-case : goal.invariant-push_cases-loop-case
invariant-push_cases-loop-case l =
    l.places ≡ l.initial.places ++ places_in (λ c. numbered_in_all (statements_of c.body.items)) (take l.case-index l.cases)
