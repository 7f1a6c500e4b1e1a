use Rattle.std.proofs.Common.{sym, ◌∙◌}
use Rattle.p4_lexer.proofs.DirectiveStepLemmas.{alone_so, alone_not}
use Rattle.p4_lexer.proofs.directives.name_alone.Goals as goal

pub returns-then-are_filler-clause-value : goal.returns-then-are_filler-clause-value
returns-then-are_filler-clause-value c =
    alone_so c.args.text.now c.args.pieces.now c.in_ok-name.name c.in_ok-name.ensures.value c.in_ok-name.ensures.within (sym c.are_filler.ensures ∙ c.if-are_filler.true)

pub returns-else-are_filler-clause-value : goal.returns-else-are_filler-clause-value
returns-else-are_filler-clause-value c =
    alone_not c.args.text.now c.args.pieces.now c.in_ok-name.name c.in_ok-name.ensures.value c.in_ok-name.ensures.within (sym c.are_filler.ensures ∙ c.if-are_filler.false)
