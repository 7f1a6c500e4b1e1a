use Rattle.std.proofs.Common.{sym, ◌∙◌, arith}
use Rattle.p4_lexer.proofs.DirectiveStepLemmas.{no_gap, named, not_named}
use Rattle.p4_lexer.proofs.directives.name_index.Goals as goal

pub returns-then-gaps-eq0-clause-value : goal.returns-then-gaps-eq0-clause-value
returns-then-gaps-eq0-clause-value c = no_gap c.args.text.now c.args.pieces.now c.gaps_len-gaps.result c.gaps_len-gaps.ensures.value c.if-gaps-eq0.true

pub returns-then-begins_with_name-clause-value : goal.returns-then-begins_with_name-clause-value
returns-then-begins_with_name-clause-value c =
    named c.args.text.now c.args.pieces.now c.gaps_len-gaps.result c.gaps_len-gaps.ensures.value (omega arith) (sym (c.begins_with_name.ensures.value c.args.text.now) ∙ c.if-begins_with_name.true)

pub returns-else-begins_with_name-clause-value : goal.returns-else-begins_with_name-clause-value
returns-else-begins_with_name-clause-value c =
    not_named c.args.text.now c.args.pieces.now c.gaps_len-gaps.result c.gaps_len-gaps.ensures.value (sym (c.begins_with_name.ensures.value c.args.text.now) ∙ c.if-begins_with_name.false)
