use Rattle.std.proofs.Common.{arith, sym, ap, ◌∙◌, drop}
use Rattle.p4_lexer.specs.Lengths.{character_len}
use Rattle.p4_lexer.proofs.TextLemmas.{rest_from, no_character, characters_behind}
use Rattle.p4_lexer.proofs.texts.characters_len.Goals as goal

pub returns-then-len-eq0-clause-value : goal.returns-then-len-eq0-clause-value
returns-then-len-eq0-clause-value c =
    omega (arith, c.loop-at.invariant.1, no_character (drop c.loop-at.at c.args.text.now) (ap character_len (sym (rest_from c.args.text.now c.loop-at.at)) ∙ sym c.character_len-len.ensures.value ∙ c.if-len-eq0.true))

pub loop-at-preserved : goal.loop-at-preserved
loop-at-preserved c = (omega arith, characters_behind c.args.text.now c.loop-at.at c.character_len-len.result c.loop-at.invariant.1 (c.character_len-len.ensures.value ∙ ap character_len (rest_from c.args.text.now c.loop-at.at)) (omega arith))
