-- The rows of a tree of statements and the lists of their items stand for the same.
use Rattle.std.proofs.Common.{◌≡◌, refl, sym, ap, ◌∙◌, Vec, Global}
use Rattle.tg_base.specs.declared.place.Span.{Span}
use Rattle.p4_program.specs.declared.typed.expressions.Expression.{Expression}
use Rattle.p4_program.specs.declared.typed.statements.Statement.{Statement, Row_of-Statement, end_of-Statement, more_of-Statement, items-the_row-Statement, items_hidden-the_row-Statement-0, items_shown-the_row-Statement-0, Row_of-SwitchCase, end_of-SwitchCase, more_of-SwitchCase, items-the_row-SwitchCase, items_hidden-the_row-SwitchCase-1}
use Rattle.p4_program.specs.declared.typed.statements.Statement.TheVariants as tree
use Rattle.p4_program.specs.declared.typed.statements.SwitchCase.{SwitchCase}
use Rattle.p4_program.specs.Syntax.Statements.{CoreStatements, CoreCases, Then, Case}
use Rattle.p4_program.specs.Syntax.Statements as core
use Rattle.p4_program.specs.Trees.Expressions.{expression_of}
use Rattle.p4_program.specs.Trees.Statements.{statement_of, statements_of, switch_cases_of, row_of, cases_of}

pub row_items : {m : _} (row : Row_of-Statement m) → row_of row ≡ statements_of (items-the_row-Statement m row)
row_items end_of-Statement = refl
row_items (more_of-Statement statement rest) = ap (λ ss. Then (statement_of statement) ss) (row_items rest)

same_case : {m : _} (row : Row_of-SwitchCase m) (one two : CoreStatements) (rest more : CoreCases) → one ≡ two → rest ≡ more → (labels : _) → Case labels one rest ≡ Case labels two more
same_case row one two rest more body behind labels =
    ap (λ ss. Case labels ss rest) body ∙ ap (λ cs. Case labels two cs) behind

pub cases_items : {m : _} (row : Row_of-SwitchCase m) → cases_of row ≡ switch_cases_of (items-the_row-SwitchCase m row)
cases_items end_of-SwitchCase = refl
cases_items (more_of-SwitchCase labels s body rest) =
    same_case rest _ _ _ _ (row_items body ∙ ap statements_of (sym (items_shown-the_row-Statement-0 s body)))
    (cases_items rest) labels

-- ---- the statements that hold others

abbrev first_row : Statement → (n : _) × Row_of-Statement n
first_row (tree.If' place e s a t b) = (_, a)
first_row _ = (_, end_of-Statement)

abbrev second_row : Statement → (n : _) × Row_of-Statement n
second_row (tree.If' place e s a t b) = (_, b)
second_row _ = (_, end_of-Statement)

abbrev case_row : Statement → (n : _) × Row_of-SwitchCase n
case_row (tree.Switch' table s cases) = (_, cases)
case_row _ = (_, end_of-SwitchCase)

pub if_is : (place : Span) (e : Expression) (one other : Vec Statement Global) → statement_of (tree.If place e one other) ≡ core.If place (expression_of e) (statements_of one.items) (statements_of other.items)
if_is place e one other =
    let a = first_row (tree.If place e one other) in
    let b = second_row (tree.If place e one other) in
    let first = row_items a.1 ∙ ap statements_of (items_hidden-the_row-Statement-0 one) in
    let second = row_items b.1 ∙ ap statements_of (items_hidden-the_row-Statement-0 other) in
    ap (λ ss. core.If place (expression_of e) ss (row_of b.1)) first
    ∙ ap (λ ss. core.If place (expression_of e) (statements_of one.items) ss) second

pub switch_is : (table : _) (cases : Vec SwitchCase Global) → statement_of (tree.Switch table cases) ≡ core.Switch table (switch_cases_of cases.items)
switch_is table cases =
    let row = case_row (tree.Switch table cases) in
    ap (λ cs. core.Switch table cs) (cases_items row.1 ∙ ap switch_cases_of (items_hidden-the_row-SwitchCase-1 cases))
