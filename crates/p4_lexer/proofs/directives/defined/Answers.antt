use Rattle.std.proofs.Common.{sym, ◌∙◌}
use Rattle.p4_lexer.proofs.DirectiveStepLemmas.{defined_not, defined_so}
use Rattle.p4_lexer.proofs.directives.defined.Goals as goal

pub returns-then-begins_with_parenthesis-clause-value : goal.returns-then-begins_with_parenthesis-clause-value
returns-then-begins_with_parenthesis-clause-value c = λ word.
    defined_not c.args.text.now c.args.pieces.now c.in_ok-name.name c.in_ok-name.ensures.value c.in_ok-name.ensures.within (sym c.begins_with_parenthesis.ensures ∙ c.if-begins_with_parenthesis.true)

pub returns-else-begins_with_parenthesis-clause-value : goal.returns-else-begins_with_parenthesis-clause-value
returns-else-begins_with_parenthesis-clause-value c = λ word.
    defined_so c.args.text.now c.args.pieces.now c.in_ok-name.name word c.in_ok-name.ensures.value c.in_ok-name.ensures.within (sym c.begins_with_parenthesis.ensures ∙ c.if-begins_with_parenthesis.false)
