use Rattle.std.proofs.Common.{◌∙◌, arith}
use Rattle.p4_lexer.proofs.HoldsLemmas.{second_within, second_is, not_three}
use Rattle.p4_lexer.proofs.annotations.string_in.Goals as goal
use Rattle.p4_lexer.proofs.annotations.string_in.Goals.{in_default, in_default-2}

pub text_of-requires : goal.text_of-requires
text_of-requires c = second_within c.args.text.now c.args.group.now c.as_slice.result.now _ (c.as_slice.ensures ∙ c.in_ok-words.ensures) (omega arith) c.requires

pub returns-in-len3 : goal.returns-in-len3
returns-in-len3 c = second_is c.args.text.now c.args.group.now c.as_slice.result.now _ c.text_of.result (c.as_slice.ensures ∙ c.in_ok-words.ensures) (omega arith) c.text_of.ensures

pub returns : goal.returns
returns c =
    let spelled = c.as_slice.ensures ∙ c.in_ok-words.ensures in
    elim c.if-as_slice-lt3.branch [
      | in_default w ↦ rw w.result-is (not_three c.args.text.now c.args.group.now c.as_slice.result.now spelled (λ e. absurd (omega arith)))
      | in_default-2 w ↦ rw w.result-is (not_three c.args.text.now c.args.group.now c.as_slice.result.now spelled (λ e. absurd (omega arith)))
    ]
