use Rattle.std.proofs.Common.{◌∷◌, sym, ◌∙◌, ap, map}
use Rattle.p4_lexer.specs.declared.directives.DirectiveAt.TheVariants.{Else as ElseAt, EndIf as EndIfAt}
use Rattle.p4_lexer.specs.Extents.{cut_at}
use Rattle.p4_lexer.specs.DirectiveExtents.{directive_at}
use Rattle.p4_lexer.specs.DirectiveSteps.{directive_by}
use Rattle.p4_lexer.proofs.DirectiveStepLemmas.{else_found, map_then_some}
use Rattle.p4_lexer.proofs.directives.directive_by.Goals as goal

pub returns-in-Define-clause-value : goal.returns-in-Define-clause-value
returns-in-Define-clause-value c = λ first. c.defined.ensures.value first ∙ ap (λ w. directive_by w (map (cut_at c.args.text.now) c.args.pieces.now)) (sym c.in-Define.is)

pub returns-in-Else-clause-value : goal.returns-in-Else-clause-value
returns-in-Else-clause-value c = λ first.
    map_then_some (directive_at c.args.text.now (first ∷ c.args.pieces.now)) c.are_filler.result _ ElseAt c.then_some-in-Else.result c.then_some-in-Else.ensures (else_found c.args.text.now c.args.pieces.now c.are_filler.result c.are_filler.ensures)
    ∙ ap (λ w. directive_by w (map (cut_at c.args.text.now) c.args.pieces.now)) (sym c.in-Else.is)

pub returns-in-EndIf-clause-value : goal.returns-in-EndIf-clause-value
returns-in-EndIf-clause-value c = λ first.
    map_then_some (directive_at c.args.text.now (first ∷ c.args.pieces.now)) c.are_filler-in-EndIf.result _ EndIfAt c.then_some-in-EndIf.result c.then_some-in-EndIf.ensures (else_found c.args.text.now c.args.pieces.now c.are_filler-in-EndIf.result c.are_filler-in-EndIf.ensures)
    ∙ ap (λ w. directive_by w (map (cut_at c.args.text.now) c.args.pieces.now)) (sym c.in-EndIf.is)
