use Rattle.std.proofs.Common.{sym, ◌∙◌}
use Rattle.p4_lexer.proofs.DirectiveLemmas.{directive_sound}
use Rattle.p4_lexer.proofs.DirectiveExactLemmas.{directive_complete, cuts_there}
use Rattle.p4_lexer.proofs.directives.directive_of.Goals as goal

pub returns-clause-is : goal.returns-clause-is
returns-clause-is c = λ d. (
  λ e. directive_sound _ d (sym c.directive_found.ensures.value ∙ e),
  λ is. c.directive_found.ensures.value ∙ directive_complete _ d (cuts_there c.args.text.now c.args.pieces.now c.requires.pieces) is,
)
