use Rattle.std.proofs.Common.{sym, ◌∙◌, ap}
use Rattle.p4_lexer.specs.declared.directives.TheConstants.{DIRECTIVE_WORDS}
use Rattle.p4_lexer.specs.DirectiveSteps.{word_among}
use Rattle.p4_lexer.proofs.DirectiveStepLemmas.{found_is, fits_is}
use Rattle.p4_lexer.proofs.directives.directive_found.Goals as goal

pub returns-in_ok-word_among-clause-value : goal.returns-in_ok-word_among-clause-value
returns-in_ok-word_among-clause-value c =
    found_is c.args.text.now c.args.pieces.now c.in_ok-word_among.field-0 c.directive_by.result c.in-len1-up.len_at_least (sym c.is_name.ensures ∙ c.if-is_name.true)
    (ap (word_among DIRECTIVE_WORDS) (sym c.bytes_of.ensures) ∙ sym c.in_ok-word_among.ensures) c.directive_by.ensures.value

pub returns-in_ok-word_among-clause-fits : goal.returns-in_ok-word_among-clause-fits
returns-in_ok-word_among-clause-fits c = fits_is c.args.text.now c.args.pieces.now c.directive_by.result c.in-len1-up.len_at_least c.directive_by.ensures.fits
