use Rattle.std.proofs.Common.{sym, ap, ◌∙◌, arith}
use Rattle.p4_lexer.specs.Lengths.{begins_close}
use Rattle.p4_lexer.proofs.TextLemmas.{rest_from, close_found, close_missing}
use Rattle.p4_lexer.proofs.texts.close_at.Goals as goal

pub returns-then-begins_close-clause-value : goal.returns-then-begins_close-clause-value
returns-then-begins_close-clause-value c =
    sym (close_found c.args.text.now c.loop-at.at (ap begins_close (sym (rest_from c.args.text.now c.loop-at.at)) ∙ sym c.begins_close.ensures ∙ c.if-begins_close.true) c.loop-at.invariant)

pub returns-clause-value : goal.returns-clause-value
returns-clause-value c = sym (close_missing c.args.text.now (λ k below. c.loop-at.invariant k (omega arith)))
